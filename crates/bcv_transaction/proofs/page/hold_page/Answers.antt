use Rattle.std.proofs.Common.{◌++◌, subst}
use Rattle.bcv_pages.specs.Held.{view_of}
use Rattle.bcv_snapshot.specs.declared.place.Place.{Place}
use Rattle.bcv_snapshot.specs.TxnCalls.{TxnPlaces}
use Rattle.bcv_snapshot.proofs.PinLaws.{pins_found}
use Rattle.bcv_transaction.proofs.PageSlots.{page_in_slot}
use Rattle.bcv_transaction.proofs.page.hold_page.Goals as goal

pub hold_cached-requires-clause-found : goal.hold_cached-requires-clause-found
hold_cached-requires-clause-found c =
    let t = c.args.txn.now in
    let cs = view_of c.args.pages.now t.base.from t.base.to in
    page_in_slot t cs c.args.cache.now c.place.new.cache c.args.page c.in-Cached.slot
    (subst (λ (at : Place). TxnPlaces t cs c.args.cache.now c.args.page at c.place.new.cache) c.in-Cached.is c.place.ensures.places)

pub returns-in-Cached-clause-pins : goal.returns-in-Cached-clause-pins
returns-in-Cached-clause-pins c = λ others has.
    c.hold_cached.ensures.pins others (pins_found (c.args.txn.now.held ++ others) c.args.cache.now.entries c.place.new.cache.entries c.place.ensures.stay has)
