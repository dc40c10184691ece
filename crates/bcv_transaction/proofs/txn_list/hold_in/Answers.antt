use Rattle.std.proofs.Common.{Option, get_or, refl, sym, subst}
use Rattle.bcv_transaction.specs.declared.open_txn.OpenTxn.{OpenTxn}
use Rattle.bcv_transaction.specs.declared.answers.Came.TheVariants as came
use Rattle.bcv_transaction.specs.ListCalls.{HoldsOf}
use Rattle.bcv_transaction.proofs.FewPins.{few_pins}
use Rattle.bcv_transaction.proofs.ListSteps.{at_place, can_read, hold_step, none_at}
use Rattle.bcv_transaction.proofs.OpenMoves.{own_block}
use Rattle.bcv_transaction.proofs.txn_list.hold_in.Goals as goal

pub hold_page-requires-clause-view : goal.hold_page-requires-clause-view
hold_page-requires-clause-view c =
    let ts = c.args.txns.now in
    let at = c.in-Some.at in
    let x = get_or ts at c.index-txns-at.result in
    let i = at_place c.args.cache.now c.args.number ts c.index-txns-at.result c.place_of.result at c.requires.are_open c.place_of.ensures c.in-Some.is c.index-txns-at.is in
    can_read c.args.pages.now c.args.number ts at x i c.requires.view

pub hold_page-requires-clause-block : goal.hold_page-requires-clause-block
hold_page-requires-clause-block c =
    let ts = c.args.txns.now in
    let at = c.in-Some.at in
    let x = get_or ts at c.index-txns-at.result in
    let i = at_place c.args.cache.now c.args.number ts c.index-txns-at.result c.place_of.result at c.requires.are_open c.place_of.ensures c.in-Some.is c.index-txns-at.is in
    own_block c.args.cache.now c.args.number ts at x c.requires.are_open i

pub hold_page-requires-clause-few : goal.hold_page-requires-clause-few
hold_page-requires-clause-few c =
    few_pins c.args.cache.now c.args.txns.now c.requires.are_open

pub returns-in-Some-clause-holds : goal.returns-in-Some-clause-holds
returns-in-Some-clause-holds c =
    let ts = c.args.txns.now in
    let at = c.in-Some.at in
    let x = get_or ts at c.index-txns-at.result in
    let i = at_place c.args.cache.now c.args.number ts c.index-txns-at.result c.place_of.result at c.requires.are_open c.place_of.ensures c.in-Some.is c.index-txns-at.is in
    (hold_step c.args.pages.now c.args.cache.now c.hold_page.new.cache c.args.number c.args.page ts at x c.hold_page.new.txn c.hold_page.result c.requires.are_open i c.hold_page.ensures.holds c.hold_page.ensures.pins c.hold_page.ensures.txn).holds

pub returns-in-Some-clause-are_open : goal.returns-in-Some-clause-are_open
returns-in-Some-clause-are_open c =
    let ts = c.args.txns.now in
    let at = c.in-Some.at in
    let x = get_or ts at c.index-txns-at.result in
    let i = at_place c.args.cache.now c.args.number ts c.index-txns-at.result c.place_of.result at c.requires.are_open c.place_of.ensures c.in-Some.is c.index-txns-at.is in
    (hold_step c.args.pages.now c.args.cache.now c.hold_page.new.cache c.args.number c.args.page ts at x c.hold_page.new.txn c.hold_page.result c.requires.are_open i c.hold_page.ensures.holds c.hold_page.ensures.pins c.hold_page.ensures.txn).is_open

pub returns-in-Some-clause-size : goal.returns-in-Some-clause-size
returns-in-Some-clause-size c =
    let ts = c.args.txns.now in
    let at = c.in-Some.at in
    let x = get_or ts at c.index-txns-at.result in
    let i = at_place c.args.cache.now c.args.number ts c.index-txns-at.result c.place_of.result at c.requires.are_open c.place_of.ensures c.in-Some.is c.index-txns-at.is in
    (hold_step c.args.pages.now c.args.cache.now c.hold_page.new.cache c.args.number c.args.page ts at x c.hold_page.new.txn c.hold_page.result c.requires.are_open i c.hold_page.ensures.holds c.hold_page.ensures.pins c.hold_page.ensures.txn).size

pub returns-in-None-clause-holds : goal.returns-in-None-clause-holds
returns-in-None-clause-holds c =
    subst (λ (o : Option OpenTxn). HoldsOf c.args.pages.now c.args.cache.now o c.args.txns.now c.args.number c.args.page came.NoTxn c.args.txns.now c.args.cache.now)
    (sym (none_at c.args.number c.args.txns.now c.place_of.result c.place_of.ensures c.in-None.is)) (refl, refl, refl)
