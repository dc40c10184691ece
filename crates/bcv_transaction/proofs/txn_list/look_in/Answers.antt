use Rattle.std.proofs.Common.{Option, get_or, refl, sym, subst}
use Rattle.bcv_snapshot.specs.declared.look.Look.TheVariants as look
use Rattle.bcv_transaction.specs.declared.open_txn.OpenTxn.{OpenTxn}
use Rattle.bcv_transaction.specs.ListCalls.{LooksOf}
use Rattle.bcv_transaction.proofs.ListSteps.{at_place, can_read, none_at}
use Rattle.bcv_transaction.proofs.OpenMoves.{own_block, own_pins}
use Rattle.bcv_transaction.proofs.TxnPlaces.{found}
use Rattle.bcv_transaction.proofs.txn_list.look_in.Goals as goal

pub look-requires-clause-view : goal.look-requires-clause-view
look-requires-clause-view c =
    let ts = c.args.txns.now in
    let at = c.in-Some.at in
    let x = get_or ts at c.index-txns-at.result in
    let i = at_place c.args.cache.now c.args.number ts c.index-txns-at.result c.place_of.result at c.requires.are_open c.place_of.ensures c.in-Some.is c.index-txns-at.is in
    can_read c.args.pages.now c.args.number ts at x i c.requires.view

pub look-requires-clause-block : goal.look-requires-clause-block
look-requires-clause-block c =
    let ts = c.args.txns.now in
    let at = c.in-Some.at in
    let x = get_or ts at c.index-txns-at.result in
    let i = at_place c.args.cache.now c.args.number ts c.index-txns-at.result c.place_of.result at c.requires.are_open c.place_of.ensures c.in-Some.is c.index-txns-at.is in
    own_block c.args.cache.now c.args.number ts at x c.requires.are_open i

pub look-requires-clause-pins : goal.look-requires-clause-pins
look-requires-clause-pins c =
    let ts = c.args.txns.now in
    let at = c.in-Some.at in
    let x = get_or ts at c.index-txns-at.result in
    let i = at_place c.args.cache.now c.args.number ts c.index-txns-at.result c.place_of.result at c.requires.are_open c.place_of.ensures c.in-Some.is c.index-txns-at.is in
    own_pins c.args.cache.now c.args.number ts at x c.requires.are_open i

pub returns-in-Some : goal.returns-in-Some
returns-in-Some c =
    let ts = c.args.txns.now in
    let at = c.in-Some.at in
    let x = get_or ts at c.index-txns-at.result in
    let i = at_place c.args.cache.now c.args.number ts c.index-txns-at.result c.place_of.result at c.requires.are_open c.place_of.ensures c.in-Some.is c.index-txns-at.is in
    subst (λ (o : Option OpenTxn). LooksOf c.args.pages.now c.args.cache.now o c.args.page c.look.result) (sym (found c.args.number ts at x i)) c.look.ensures

pub returns-in-None : goal.returns-in-None
returns-in-None c =
    subst (λ (o : Option OpenTxn). LooksOf c.args.pages.now c.args.cache.now o c.args.page look.NoTxn)
    (sym (none_at c.args.number c.args.txns.now c.place_of.result c.place_of.ensures c.in-None.is)) refl
