use Rattle.std.proofs.Common.{◌∙◌, sym}
use Rattle.bcv_transaction.proofs.CacheMade.{made_open}
use Rattle.bcv_transaction.proofs.transactions.Transactions.open_cache.Goals as goal

pub invariant_of-self : goal.invariant_of-self
invariant_of-self c =
    made_open c.self.inside.slots c.args.block c.self.inside.cache c.self.inside.txns.items c.in_ok-new.field-0 c.self.invariant (sym c.is_some.ensures ∙ c.if-is_some.false) c.requires c.in_ok-new.ensures.empty

pub returns-clause-are_open : goal.returns-clause-are_open
returns-clause-are_open c =
    made_open c.self.inside.slots c.args.block c.self.inside.cache c.self.inside.txns.items c.in_ok-new.field-0 c.self.invariant (sym c.is_some.ensures ∙ c.if-is_some.false) c.requires c.in_ok-new.ensures.empty
