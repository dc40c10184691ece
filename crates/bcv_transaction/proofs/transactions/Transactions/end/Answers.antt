use Rattle.std.proofs.Common.{◌≡◌, refl, sym, subst}
use Rattle.bcv_transaction.specs.Open.{Open, txn_at}
use Rattle.bcv_transaction.specs.MachineCalls.{seen_txns}
use Rattle.bcv_transaction.proofs.MachineEnds.{ends}
use Rattle.bcv_transaction.proofs.transactions.Transactions.end.Goals as goal

pub returns-in-Some-clause-machine : goal.returns-in-Some-clause-machine
returns-in-Some-clause-machine c = λ past sets s u stands.
    ends past sets s u c.args.number c.self.inside.txns.items c.end_in.new.txns.items c.in-Some.cache c.end_in.new.cache c.end_in.result (txn_at c.args.number c.self.inside.txns.items)
    (subst (λ (o : Open). u.txns ≡ seen_txns past sets o.txns) (sym c.self.view_is) stands.txns) refl c.end_in.ensures.ends
