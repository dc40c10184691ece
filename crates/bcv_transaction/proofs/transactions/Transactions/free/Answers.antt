use Rattle.std.proofs.Common.{◌≡◌, ◌∙◌, List, Option, Some, drop, length, ap, sym, subst}
use Rattle.bcv_cache.specs.Entry.{Blocks}
use Rattle.bcv_transaction.specs.declared.open_txn.OpenTxn.{OpenTxn}
use Rattle.bcv_transaction.specs.ListCalls.{FreesIn}
use Rattle.bcv_transaction.specs.MachineCalls.{FreesAs, side_with}
use Rattle.bcv_transaction.specs.Open.{AreOpenWith, Open}
use Rattle.bcv_transaction.proofs.MachineFrees.{all_frees}
use Rattle.bcv_transaction.proofs.MachineLists.{written_whole}
use Rattle.bcv_transaction.proofs.transactions.Transactions.free.Goals as goal

pub returns-in-Some-clause-machine : goal.returns-in-Some-clause-machine
returns-in-Some-clause-machine c = λ past sets s u stands.
    let o = c.args.self.now in
    let us = c.free_in.new.txns in
    let cache : o.cache ≡ Some c.in-Some.cache = ap (λ (x : Open). x.cache) (sym c.self.view_is) ∙ c.in-Some.is in
    let txns : c.deref_mut.result.now ≡ o.txns = c.deref_mut.ensures.value ∙ ap (λ (x : Open). x.txns) c.self.view_is in
    let all : AreOpenWith o.slots o.cache o.txns = subst (λ (x : Open). AreOpenWith x.slots x.cache x.txns) c.self.view_is c.self.invariant in
    let opened : AreOpenWith o.slots (Some c.in-Some.cache) o.txns = subst (λ (x : Option Blocks). AreOpenWith o.slots x o.txns) cache all in
    let len : c.self.inside.txns.len ≡ length us = sym (c.free_in.auto.txns ∙ c.deref_mut.ensures.len) in
    subst (λ (xs : List OpenTxn). FreesAs s u c.args.number c.args.page c.free_in.result (side_with past sets s u xs)) (sym (written_whole c.self.inside.txns.len us (drop (length us) c.self.inside.txns.items) len))
    (all_frees past sets o s u c.in-Some.cache c.free_in.new.cache c.args.number c.args.page c.free_in.result us cache opened.0 stands
    (subst (λ (ts : List OpenTxn). FreesIn c.in-Some.cache ts c.args.number c.args.page c.free_in.result us c.free_in.new.cache) txns c.free_in.ensures.frees))
