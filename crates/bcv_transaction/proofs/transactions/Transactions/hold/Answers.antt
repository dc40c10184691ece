use Rattle.std.proofs.Common.{◌≡◌, ◌∙◌, List, Option, Some, drop, length, ap, sym, subst}
use Rattle.bcv_cache.specs.Entry.{Blocks}
use Rattle.bcv_machine.specs.State.{ToHold}
use Rattle.bcv_transaction.specs.declared.open_txn.OpenTxn.{OpenTxn}
use Rattle.bcv_transaction.specs.ListCalls.{HoldsIn}
use Rattle.bcv_transaction.specs.MachineCalls.{Comes, side_with}
use Rattle.bcv_transaction.specs.Open.{AreOpenWith, Open}
use Rattle.bcv_transaction.proofs.MachineHolds.{all_holds}
use Rattle.bcv_transaction.proofs.MachineLists.{written_whole}
use Rattle.bcv_transaction.proofs.transactions.Transactions.hold.Goals as goal

pub returns-in-Some-clause-machine : goal.returns-in-Some-clause-machine
returns-in-Some-clause-machine c = λ past sets s u stands set_of.
    let o = c.args.self.now in
    let us = c.hold_in.new.txns in
    let cache : o.cache ≡ Some c.in-Some.cache = ap (λ (x : Open). x.cache) (sym c.self.view_is) ∙ c.in-Some.is in
    let txns : c.deref_mut.result.now ≡ o.txns = c.deref_mut.ensures.value ∙ ap (λ (x : Open). x.txns) c.self.view_is in
    let all : AreOpenWith o.slots o.cache o.txns = subst (λ (x : Open). AreOpenWith x.slots x.cache x.txns) c.self.view_is c.self.invariant in
    let opened : AreOpenWith o.slots (Some c.in-Some.cache) o.txns = subst (λ (x : Option Blocks). AreOpenWith o.slots x o.txns) cache all in
    let len : c.self.inside.txns.len ≡ length us = sym (c.hold_in.auto.txns ∙ c.deref_mut.ensures.len) in
    subst (λ (xs : List OpenTxn). Comes ToHold s u c.args.number c.args.page c.hold_in.result (side_with past sets s u xs)) (sym (written_whole c.self.inside.txns.len us (drop (length us) c.self.inside.txns.items) len))
    (all_holds past sets o s u c.in-Some.cache c.hold_in.new.cache c.args.number c.args.page c.args.pages.now c.hold_in.result us cache opened stands set_of
    (subst (λ (ts : List OpenTxn). HoldsIn c.args.pages.now c.in-Some.cache ts c.args.number c.args.page c.hold_in.result us c.hold_in.new.cache) txns c.hold_in.ensures.holds))
