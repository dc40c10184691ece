-- The slot of a page that is found in the cache.
use Rattle.std.proofs.Common.{ℕ, List, Option, sym, subst}
use Rattle.std.specs.Option.{IsSomeAnd}
use Rattle.bcv_base.specs.declared.id.Id16.{Id16}
use Rattle.bcv_base.specs.Image.{Writes}
use Rattle.bcv_cache.specs.Entry.{Blocks}
use Rattle.bcv_cache.specs.Cache.{IsSlotOf}
use Rattle.bcv_snapshot.specs.declared.place.Place.TheVariants as place
use Rattle.bcv_snapshot.specs.Opened.{Opened}
use Rattle.bcv_snapshot.specs.TxnCalls.{TxnPlaces}
use Rattle.bcv_snapshot.proofs.BaseBlocks.{from_base}
use Rattle.bcv_transaction.specs.PageCalls.{IsSlotOfPage}

pub page_in_slot : (t : Opened) (cs : List Writes) (c d : Blocks) (p slot : ℕ) → TxnPlaces t cs c p (place.Cached slot) d → IsSlotOfPage t.base p slot d.entries
page_in_slot t cs c d p slot at =
    let page = from_base t.base cs p at.0 in
    (page.0, page.1, subst (λ (o : Option Id16). IsSomeAnd o (λ id. IsSlotOf slot id d.entries)) (sym at.1.is) at.1.entry)
