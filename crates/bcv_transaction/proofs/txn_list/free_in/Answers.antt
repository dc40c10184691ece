use Rattle.std.proofs.Common.{Option, get_or, refl, sym, subst}
use Rattle.bcv_transaction.specs.declared.open_txn.OpenTxn.{OpenTxn}
use Rattle.bcv_transaction.specs.declared.answers.Freed.TheVariants as freed
use Rattle.bcv_transaction.specs.ListCalls.{FreesOf}
use Rattle.bcv_transaction.proofs.ListSteps.{at_place, free_step, none_at}
use Rattle.bcv_transaction.proofs.OpenMoves.{own_block, own_pins}
use Rattle.bcv_transaction.proofs.txn_list.free_in.Goals as goal

pub free_page-requires-clause-block : goal.free_page-requires-clause-block
free_page-requires-clause-block c =
    let ts = c.args.txns.now in
    let at = c.in-Some.at in
    let x = get_or ts at c.index-txns-at.result in
    own_block c.args.cache.now c.args.number ts at x c.requires.are_open (at_place c.args.cache.now c.args.number ts c.index-txns-at.result c.place_of.result at c.requires.are_open c.place_of.ensures c.in-Some.is c.index-txns-at.is)

pub free_page-requires-clause-pins : goal.free_page-requires-clause-pins
free_page-requires-clause-pins c =
    let ts = c.args.txns.now in
    let at = c.in-Some.at in
    let x = get_or ts at c.index-txns-at.result in
    own_pins c.args.cache.now c.args.number ts at x c.requires.are_open (at_place c.args.cache.now c.args.number ts c.index-txns-at.result c.place_of.result at c.requires.are_open c.place_of.ensures c.in-Some.is c.index-txns-at.is)

pub returns-in-Some-clause-frees : goal.returns-in-Some-clause-frees
returns-in-Some-clause-frees c =
    let ts = c.args.txns.now in
    let at = c.in-Some.at in
    let x = get_or ts at c.index-txns-at.result in
    let i = at_place c.args.cache.now c.args.number ts c.index-txns-at.result c.place_of.result at c.requires.are_open c.place_of.ensures c.in-Some.is c.index-txns-at.is in
    (free_step c.args.cache.now c.free_page.new.cache c.args.number c.args.page ts at x c.free_page.new.txn c.free_page.result c.requires.are_open i c.free_page.ensures.frees c.free_page.ensures.pins c.free_page.ensures.txn).frees

pub returns-in-Some-clause-are_open : goal.returns-in-Some-clause-are_open
returns-in-Some-clause-are_open c =
    let ts = c.args.txns.now in
    let at = c.in-Some.at in
    let x = get_or ts at c.index-txns-at.result in
    let i = at_place c.args.cache.now c.args.number ts c.index-txns-at.result c.place_of.result at c.requires.are_open c.place_of.ensures c.in-Some.is c.index-txns-at.is in
    (free_step c.args.cache.now c.free_page.new.cache c.args.number c.args.page ts at x c.free_page.new.txn c.free_page.result c.requires.are_open i c.free_page.ensures.frees c.free_page.ensures.pins c.free_page.ensures.txn).is_open

pub returns-in-Some-clause-size : goal.returns-in-Some-clause-size
returns-in-Some-clause-size c =
    let ts = c.args.txns.now in
    let at = c.in-Some.at in
    let x = get_or ts at c.index-txns-at.result in
    let i = at_place c.args.cache.now c.args.number ts c.index-txns-at.result c.place_of.result at c.requires.are_open c.place_of.ensures c.in-Some.is c.index-txns-at.is in
    (free_step c.args.cache.now c.free_page.new.cache c.args.number c.args.page ts at x c.free_page.new.txn c.free_page.result c.requires.are_open i c.free_page.ensures.frees c.free_page.ensures.pins c.free_page.ensures.txn).size

pub returns-in-None-clause-frees : goal.returns-in-None-clause-frees
returns-in-None-clause-frees c =
    subst (λ (o : Option OpenTxn). FreesOf c.args.cache.now o c.args.txns.now c.args.number c.args.page freed.NoTxn c.args.txns.now c.args.cache.now)
    (sym (none_at c.args.number c.args.txns.now c.place_of.result c.place_of.ensures c.in-None.is)) (refl, refl, refl)
