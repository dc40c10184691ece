use Rattle.std.proofs.Common.{Option, get_or, refl, sym, subst}
use Rattle.bcv_transaction.specs.declared.open_txn.OpenTxn.{OpenTxn}
use Rattle.bcv_transaction.specs.declared.answers.Came.TheVariants as came
use Rattle.bcv_transaction.specs.ListCalls.{ReadsOf}
use Rattle.bcv_transaction.proofs.ListSteps.{at_place, can_read, none_at, read_step}
use Rattle.bcv_transaction.proofs.OpenMoves.{own_block, own_pins}
use Rattle.bcv_transaction.proofs.txn_list.read_in.Goals as goal

pub read_page-requires-clause-view : goal.read_page-requires-clause-view
read_page-requires-clause-view c =
    let ts = c.args.txns.now in
    let at = c.in-Some.at in
    let x = get_or ts at c.index-txns-at.result in
    let i = at_place c.args.cache.now c.args.number ts c.index-txns-at.result c.place_of.result at c.requires.are_open c.place_of.ensures c.in-Some.is c.index-txns-at.is in
    can_read c.args.pages.now c.args.number ts at x i c.requires.view

pub read_page-requires-clause-block : goal.read_page-requires-clause-block
read_page-requires-clause-block c =
    let ts = c.args.txns.now in
    let at = c.in-Some.at in
    let x = get_or ts at c.index-txns-at.result in
    let i = at_place c.args.cache.now c.args.number ts c.index-txns-at.result c.place_of.result at c.requires.are_open c.place_of.ensures c.in-Some.is c.index-txns-at.is in
    own_block c.args.cache.now c.args.number ts at x c.requires.are_open i

pub read_page-requires-clause-pins : goal.read_page-requires-clause-pins
read_page-requires-clause-pins c =
    let ts = c.args.txns.now in
    let at = c.in-Some.at in
    let x = get_or ts at c.index-txns-at.result in
    let i = at_place c.args.cache.now c.args.number ts c.index-txns-at.result c.place_of.result at c.requires.are_open c.place_of.ensures c.in-Some.is c.index-txns-at.is in
    own_pins c.args.cache.now c.args.number ts at x c.requires.are_open i

pub returns-in-Some-clause-reads : goal.returns-in-Some-clause-reads
returns-in-Some-clause-reads c =
    let ts = c.args.txns.now in
    let at = c.in-Some.at in
    let x = get_or ts at c.index-txns-at.result in
    let i = at_place c.args.cache.now c.args.number ts c.index-txns-at.result c.place_of.result at c.requires.are_open c.place_of.ensures c.in-Some.is c.index-txns-at.is in
    (read_step c.args.pages.now c.args.cache.now c.read_page.new.cache c.args.number c.args.page ts at x c.read_page.result c.requires.are_open i c.read_page.ensures.stay c.read_page.ensures.reads).reads

pub returns-in-Some-clause-are_open : goal.returns-in-Some-clause-are_open
returns-in-Some-clause-are_open c =
    let ts = c.args.txns.now in
    let at = c.in-Some.at in
    let x = get_or ts at c.index-txns-at.result in
    let i = at_place c.args.cache.now c.args.number ts c.index-txns-at.result c.place_of.result at c.requires.are_open c.place_of.ensures c.in-Some.is c.index-txns-at.is in
    (read_step c.args.pages.now c.args.cache.now c.read_page.new.cache c.args.number c.args.page ts at x c.read_page.result c.requires.are_open i c.read_page.ensures.stay c.read_page.ensures.reads).is_open

pub returns-in-Some-clause-size : goal.returns-in-Some-clause-size
returns-in-Some-clause-size c =
    let ts = c.args.txns.now in
    let at = c.in-Some.at in
    let x = get_or ts at c.index-txns-at.result in
    let i = at_place c.args.cache.now c.args.number ts c.index-txns-at.result c.place_of.result at c.requires.are_open c.place_of.ensures c.in-Some.is c.index-txns-at.is in
    (read_step c.args.pages.now c.args.cache.now c.read_page.new.cache c.args.number c.args.page ts at x c.read_page.result c.requires.are_open i c.read_page.ensures.stay c.read_page.ensures.reads).size

pub returns-in-None-clause-reads : goal.returns-in-None-clause-reads
returns-in-None-clause-reads c =
    subst (λ (o : Option OpenTxn). ReadsOf c.args.pages.now c.args.cache.now o c.args.page came.NoTxn c.args.cache.now)
    (sym (none_at c.args.number c.args.txns.now c.place_of.result c.place_of.ensures c.in-None.is)) (refl, refl)
