use Rattle.std.proofs.Common.{◌≡◌, ◌∙◌, List, Some, sym, ap, subst}
use Rattle.bcv_transaction.specs.declared.open_txn.OpenTxn.{OpenTxn}
use Rattle.bcv_transaction.specs.ListCalls.{LooksIn}
use Rattle.bcv_transaction.specs.Open.{AreOpenWith, Open}
use Rattle.bcv_transaction.proofs.MachineLooks.{all_looks}
use Rattle.bcv_transaction.proofs.transactions.Transactions.look.Goals as goal

pub returns-in-Some-clause-machine : goal.returns-in-Some-clause-machine
returns-in-Some-clause-machine c = λ past sets s u stands set_of.
    let o = c.args.self.now in
    let cache : o.cache ≡ Some c.in-Some.cache = ap (λ (x : Open). x.cache) (sym c.self.view_is) ∙ c.in-Some.is in
    let txns : c.deref.result.now ≡ o.txns = c.deref.ensures.value ∙ ap (λ (x : Open). x.txns) c.self.view_is in
    let is_open : AreOpenWith o.slots o.cache o.txns = subst (λ (x : Open). AreOpenWith x.slots x.cache x.txns) c.self.view_is c.self.invariant in
    all_looks past sets o s u c.in-Some.cache c.args.number c.args.page c.args.pages.now c.look_in.result cache is_open stands set_of c.requires
    (subst (λ (ts : List OpenTxn). LooksIn c.args.pages.now c.in-Some.cache ts c.args.number c.args.page c.look_in.result) txns c.look_in.ensures)
