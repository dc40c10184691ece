use Rattle.std.proofs.Common.{◌∙◌, false, Option, refl, sym, subst}
use Rattle.bcv_transaction.specs.declared.open_txn.OpenTxn.{OpenTxn}
use Rattle.bcv_transaction.specs.ListCalls.{EndsOf}
use Rattle.bcv_transaction.proofs.ListSteps.{end_step, none_at, place_by}
use Rattle.bcv_transaction.proofs.OpenMoves.{own_pins}
use Rattle.bcv_transaction.proofs.TxnPlaces.{is_at}
use Rattle.bcv_transaction.proofs.txn_list.end_in.Goals as goal

pub end-requires-clause-pins : goal.end-requires-clause-pins
end-requires-clause-pins c =
    let ts = c.args.txns.now.items in
    let at = c.in-Some.at in
    let x = c.remove-txn.result in
    let place = place_by c.args.number ts c.deref.result.now c.place_of.result c.place_of.ensures c.deref.ensures.value in
    let i = is_at c.args.number ts at x (sym place ∙ c.in-Some.is) c.remove-txn.ensures.value c.requires.are_open.differ in
    own_pins c.args.cache.now c.args.number ts at x c.requires.are_open i

pub returns-in-Some-clause-ends : goal.returns-in-Some-clause-ends
returns-in-Some-clause-ends c =
    let ts = c.args.txns.now.items in
    let at = c.in-Some.at in
    let x = c.remove-txn.result in
    let place = place_by c.args.number ts c.deref.result.now c.place_of.result c.place_of.ensures c.deref.ensures.value in
    let i = is_at c.args.number ts at x (sym place ∙ c.in-Some.is) c.remove-txn.ensures.value c.requires.are_open.differ in
    (end_step c.args.cache.now c.end.new.cache c.args.number ts c.remove-txn.new.self.items at x c.requires.are_open i c.remove-txn.ensures.items c.end.ensures.entries c.end.ensures.pins).ends

pub returns-in-Some-clause-are_open : goal.returns-in-Some-clause-are_open
returns-in-Some-clause-are_open c =
    let ts = c.args.txns.now.items in
    let at = c.in-Some.at in
    let x = c.remove-txn.result in
    let place = place_by c.args.number ts c.deref.result.now c.place_of.result c.place_of.ensures c.deref.ensures.value in
    let i = is_at c.args.number ts at x (sym place ∙ c.in-Some.is) c.remove-txn.ensures.value c.requires.are_open.differ in
    (end_step c.args.cache.now c.end.new.cache c.args.number ts c.remove-txn.new.self.items at x c.requires.are_open i c.remove-txn.ensures.items c.end.ensures.entries c.end.ensures.pins).is_open

pub returns-in-None-clause-ends : goal.returns-in-None-clause-ends
returns-in-None-clause-ends c =
    let place = place_by c.args.number c.args.txns.now.items c.deref.result.now c.place_of.result c.place_of.ensures c.deref.ensures.value in
    subst (λ (o : Option OpenTxn). EndsOf c.args.cache.now o c.args.txns.now.items c.args.number false c.args.txns.now.items c.args.cache.now)
    (sym (none_at c.args.number c.args.txns.now.items c.place_of.result place c.in-None.is)) (refl, refl, refl)
