-- A page that a transaction shows, or leads to, is that of its image.
use Rattle.std.proofs.Common.{◌≡◌, ◌∙◌, ℕ, zero, suc, ◌<◌, ◌≤◌, Bool, true, false, ◌&&◌, cond, nat_le, List, [], ◌∷◌, length, Option, Some, None, option_map, unwrap_or, slice_get, refl, sym, ap, subst, inl, inr, arith}
use Rattle.std.specs.Cmp.{first_so, second_so}
use Rattle.std.specs.List.{AllByRecursion}
use Rattle.std.specs.Option.{IsSomeAnd}
use Rattle.std.proofs.lemmas.Bool.{leb-true, eqb-true, cases_Bool}
use Rattle.std.proofs.lemmas.Bool.Decides.{nat_tests}
use Rattle.bcv_base.specs.declared.id.Id16.{Id16}
use Rattle.bcv_base.specs.declared.seen.TxnBase.{TxnBase}
use Rattle.bcv_base.specs.History.{Item, HasBlock, first_put}
use Rattle.bcv_base.specs.HistoryLaws.{has_id-first, has_id-later}
use Rattle.bcv_base.specs.Ids.{has_id}
use Rattle.bcv_base.specs.Image.{Page, Writes, zeros, page_of}
use Rattle.bcv_base.specs.Joined.{image_of, joined}
use Rattle.bcv_base.specs.Views.{Origin, FromBase, Added, Wrote, origin, page_from, view_size}
use Rattle.bcv_base.proofs.Views.{length-view_image, page_of-view_image, page_of-view_image-outside}
use Rattle.bcv_cache.specs.Entry.{Entry, Blocks, Pinned}
use Rattle.bcv_cache.specs.Cache.{entry_in, has_slot, IsSlotOf}
use Rattle.bcv_pages.specs.Held.{view_of}
use Rattle.bcv_snapshot.specs.declared.held_block.HeldBlock.{HeldBlock}
use Rattle.bcv_snapshot.specs.declared.look.Look.{Look}
use Rattle.bcv_snapshot.specs.declared.look.Look.TheVariants as look
use Rattle.bcv_snapshot.specs.declared.place.Place.{Place}
use Rattle.bcv_snapshot.specs.declared.place.Place.TheVariants as place
use Rattle.bcv_snapshot.specs.FixedImage.{HasFirst, ArePut, fixed_image, ShowsPage, PlacesPage, SizesAreFixed, LooksAtFixedImage, PlacesInFixedImage}
use Rattle.bcv_snapshot.specs.Opened.{Opened, IsTxn, has_block_number, block_id, is_page, number_of, page_bytes, pin_of, source_of}
use Rattle.bcv_snapshot.specs.Pins.{HasPins}
use Rattle.bcv_snapshot.specs.TxnCalls.{TxnLooks, TxnPlaces}
use Rattle.bcv_snapshot.proofs.BaseBlocks.{from_base}
use Rattle.bcv_snapshot.proofs.CacheLaws.{found_in}
use Rattle.bcv_snapshot.proofs.CallLaws.{all_found_first, calls_keep, image_kept}
use Rattle.bcv_snapshot.proofs.PageOfBlock.{length_pages, page_read}

-- ---- pages of the image, by where they come from

-- the bytes of a page of the base's image
abbrev base_bytes : List Item → TxnBase → ℕ → Page
base_bytes past base p = unwrap_or (page_of (image_of past base.entry.pages base.entry.page_size base.entry.blocks) p) (zeros base.entry.page_size)

page_none : (past : List Item) (base : TxnBase) (cs : List Writes) (p : ℕ) → source_of base cs p ≡ None → page_of (fixed_image past base cs) p ≡ None
page_none past base cs p none = by (nat_le 1 p) (nat_le p (view_size base.entry.pages cs)) refl refl none
  where
    by : (low high : Bool) → nat_le 1 p ≡ low → nat_le p (view_size base.entry.pages cs) ≡ high → cond (low && high) (Some (origin base.entry.pages cs p)) None ≡ None
        → page_of (fixed_image past base cs) p ≡ None
    by false high is_low is_high h = ap (λ (n : ℕ). page_of (fixed_image past base cs) n) (below p is_low)
      where
        below : (n : ℕ) → nat_le 1 n ≡ false → n ≡ 0
        below n e = grind (arith, nat_tests)
    by true false is_low is_high h =
        page_of-view_image-outside base.entry.page_size (image_of past base.entry.pages base.entry.page_size base.entry.blocks) cs p
        (subst (λ (n : ℕ). view_size n cs < p) (sym (length_pages base.entry.pages base.entry.page_size (joined past base.entry.blocks))) (above p (view_size base.entry.pages cs) is_high))
      where
        above : (n size : ℕ) → nat_le n size ≡ false → size < n
        above n size e = grind (arith, nat_tests)
    by true true is_low is_high h = absurd (cc)

page_some : (past : List Item) (base : TxnBase) (cs : List Writes) (p : ℕ) (o : Origin) → source_of base cs p ≡ Some o
    → page_of (fixed_image past base cs) p ≡ Some (page_from (base_bytes past base p) (zeros base.entry.page_size) o)
page_some past base cs p o some = by (is_page base cs p) refl some
  where
    by : (b : Bool) → is_page base cs p ≡ b → cond b (Some (origin base.entry.pages cs p)) None ≡ Some o
        → page_of (fixed_image past base cs) p ≡ Some (page_from (base_bytes past base p) (zeros base.entry.page_size) o)
    by false is h = absurd (cc)
    by true is h =
        let from : origin base.entry.pages cs p ≡ o = cc in
        let long : length (image_of past base.entry.pages base.entry.page_size base.entry.blocks) ≡ base.entry.pages = length_pages base.entry.pages base.entry.page_size (joined past base.entry.blocks) in
        let within : p ≤ view_size base.entry.pages cs = leb-true p (view_size base.entry.pages cs) (second_so (nat_le 1 p) (nat_le p (view_size base.entry.pages cs)) is) in
        page_of-view_image base.entry.page_size (image_of past base.entry.pages base.entry.page_size base.entry.blocks) cs p (leb-true 1 p (first_so (nat_le 1 p) (nat_le p (view_size base.entry.pages cs)) is))
        (subst (λ (n : ℕ). p ≤ view_size n cs) (sym long) within)
        ∙ ap (λ (x : Origin). Some (page_from (base_bytes past base p) (zeros base.entry.page_size) x)) (ap (λ (n : ℕ). origin n cs p) long ∙ from)

pub sizes_are_fixed : SizesAreFixed
sizes_are_fixed past base cs =
    length-view_image base.entry.page_size (image_of past base.entry.pages base.entry.page_size base.entry.blocks) cs
    ∙ ap (λ (n : ℕ). view_size n cs) (length_pages base.entry.pages base.entry.page_size (joined past base.entry.blocks))

-- ---- pages of the base

-- an id that stands in a list is one of it
has_at : (is : List Id16) (n : ℕ) (i : Id16) → slice_get is n ≡ Some i → has_id i is ≡ true
has_at [] n i at = absurd (cc)
has_at (j ∷ js) zero i at = let same : j ≡ i = cc in subst (λ (x : Id16). has_id i (x ∷ js) ≡ true) (sym same) (has_id-first i js)
has_at (j ∷ js) (suc n) i at = has_id-later i j js (has_at js n i at)

-- a page of the base is in the bytes first put under its block's id
page_in_block : (past : List Item) (t : Opened) (cs : List Writes) (p : ℕ) (i : Id16) (bytes : List ℕ) → IsTxn t → ArePut past t.base → source_of t.base cs p ≡ Some FromBase → block_id t.base p ≡ Some i
    → first_put past i ≡ Some bytes → page_of (fixed_image past t.base cs) p ≡ Some (page_bytes t.base p bytes)
page_in_block past t cs p i bytes is put from at first =
    let pages = from_base t.base cs p from in
    let has : HasBlock past i t.base.block = put i (has_at t.base.entry.blocks (number_of t.base p) i at) in
    let same : has.0 ≡ bytes = (let both : ◌≡◌ {A = Option (List ℕ)} (Some has.0) (Some bytes) = sym has.1 ∙ first in cc) in
    let whole : length bytes ≡ t.base.block = ap (λ (l : List ℕ). length l) (sym same) ∙ has.2 in
    let read = page_read past t.base.block t.base.entry.page_size t.base.entry.pages p t.base.entry.blocks i bytes is.full put pages.0 pages.1 at first whole in
    page_some past t.base cs p FromBase from ∙ ap (λ (o : Option Page). Some (unwrap_or o (zeros t.base.entry.page_size))) read

-- the bytes in a slot of a block of the base are those first put under its id
first_in : (past : List Item) (base : TxnBase) (es : List Entry) (slot : ℕ) (i : Id16) (block : List ℕ) → AllByRecursion (HasFirst past base) es → has_id i base.entry.blocks ≡ true
    → IsSlotOf slot i es → option_map (λ e. e.bytes) (entry_in slot es) ≡ Some block → first_put past i ≡ Some block
first_in past base es slot i block all listed there bytes = by (entry_in slot es) refl there bytes
  where
    by : (o : Option Entry) → entry_in slot es ≡ o → IsSomeAnd o (λ e. e.id ≡ i) → option_map (λ (e : Entry). e.bytes) o ≡ Some block → first_put past i ≡ Some block
    by None is at some = absurd at
    by (Some e) is at some =
        let first = found_in (HasFirst past base) (has_slot slot) es e all is (subst (λ (j : Id16). has_id j base.entry.blocks ≡ true) (sym at) listed) in
        sym (ap (first_put past) at) ∙ first ∙ some

-- ---- look

-- a held block, as its transaction and its pin have it
record IsHeldBlock (t : Opened) (n : ℕ) (pin : Pinned) (es : List Entry) : Type 0 where
  id : slice_get t.base.entry.blocks n ≡ Some pin.id
  there : IsSlotOf pin.slot pin.id es

held_block : (t : Opened) (n : ℕ) (pin : Pinned) (es : List Entry) (hs : List HeldBlock) → AllByRecursion (λ h. slice_get t.base.entry.blocks h.number ≡ Some h.pin.id) hs
    → AllByRecursion (λ h. IsSlotOf h.pin.slot h.pin.id es) hs → pin_of n hs ≡ Some pin → IsHeldBlock t n pin es
held_block t n pin es [] ids there on = absurd (cc)
held_block t n pin es (h ∷ hs) ids there on = elim (cases_Bool (has_block_number n h)) [
  | inl b ↦
      let same : h.pin ≡ pin = (let some = rw b at on in cc) in
      let number : h.number ≡ n = eqb-true h.number n b in
      subst (λ (x : Pinned). IsHeldBlock t n x es) same (record { id = subst (λ (k : ℕ). slice_get t.base.entry.blocks k ≡ Some h.pin.id) number ids.0; there = there.0 })
  | inr b ↦ held_block t n pin es hs ids.1 there.1 (rw b at on)
]

shows : (past : List Item) (t : Opened) (cs : List Writes) (c : Blocks) (p : ℕ) (r : Look) → IsTxn t → ArePut past t.base → AllByRecursion (HasFirst past t.base) c.entries → HasPins t.held c.entries
    → TxnLooks t cs c p r → ShowsPage t.base.entry.page_size (page_of (fixed_image past t.base cs) p) r
shows past t cs c p look.BadPage is put first pins looks = page_none past t.base cs p looks
shows past t cs c p (look.Page bytes) is put first pins (inl wrote) = page_some past t.base cs p (Wrote bytes.now) wrote
shows past t cs c p (look.Page bytes) is put first pins (inr held) =
    let h = held.1 in
    let block = held_block t (number_of t.base p) h.pin c.entries t.held is.ids pins.ids h.held in
    let put_first = first_in past t.base c.entries h.pin.slot h.pin.id h.page.block first (has_at t.base.entry.blocks (number_of t.base p) h.pin.id block.id) block.there h.page.there in
    page_in_block past t cs p h.pin.id h.page.block is put held.0 block.id put_first ∙ ap (λ (x : Page). Some x) (sym h.page.page)
shows past t cs c p look.Zeros is put first pins looks = page_some past t.base cs p Added looks
shows past t cs c p look.NotHeld is put first pins looks = tt
shows past t cs c p look.NoTxn is put first pins looks = absurd looks

pub looks_at_fixed_image : LooksAtFixedImage
looks_at_fixed_image a b ms t p r is begins calls pins looks =
    let kept = calls_keep t.base a ms b begins calls in
    subst (λ (image : List Page). ShowsPage t.base.entry.page_size (page_of image p) r) (image_kept t.base a b kept)
    (shows b.past t (view_of b.pages t.base.from t.base.to) b.cache p r is kept.begins.put kept.begins.first pins looks)

-- ---- place

places : (old past : List Item) (t : Opened) (cs : List Writes) (c d : Blocks) (p : ℕ) (r : Place) → IsTxn t → ArePut old t.base → ((i : Id16) (bytes : List ℕ) → first_put old i ≡ Some bytes → first_put past i ≡ Some bytes)
    → ArePut past t.base → AllByRecursion (HasFirst past t.base) c.entries → TxnPlaces t cs c p r d → PlacesPage old t.base p (page_of (fixed_image past t.base cs) p) r d
places old past t cs c d p place.BadPage is was stays put first at = page_none past t.base cs p at.0
places old past t cs c d p place.Local is was stays put first at = (at.0, page_some past t.base cs p (Wrote at.0) at.1)
places old past t cs c d p place.Zeros is was stays put first at = page_some past t.base cs p Added at.0
places old past t cs c d p (place.Cached slot) is was stays put first at = λ bytes page.
    let cached = at.1 in
    let entries : AllByRecursion (HasFirst past t.base) d.entries =
    subst (λ (x : Blocks). AllByRecursion (HasFirst past t.base) x.entries) (sym cached.first) (all_found_first (HasFirst past t.base) cached.id c.entries first)
    in
    let put_first = first_in past t.base d.entries slot cached.id page.block entries (has_at t.base.entry.blocks (number_of t.base p) cached.id cached.is) cached.entry page.there in
    page_in_block past t cs p cached.id page.block is put at.0 cached.is put_first ∙ ap (λ (x : Page). Some x) (sym page.page)
places old past t cs c d p (place.Absent id) is was stays put first at =
    let has : HasBlock old id t.base.block = was id (has_at t.base.entry.blocks (number_of t.base p) id at.1) in
    (has.0, has.1, page_in_block past t cs p id has.0 is put at.0 at.1 (stays id has.0 has.1))

pub places_in_fixed_image : PlacesInFixedImage
places_in_fixed_image a b ms t p r d is begins calls at =
    let kept = calls_keep t.base a ms b begins calls in
    subst (λ (image : List Page). PlacesPage a.past t.base p (page_of image p) r d) (image_kept t.base a b kept)
    (places a.past b.past t (view_of b.pages t.base.from t.base.to) b.cache d p r is begins.put kept.puts kept.begins.put kept.begins.first at)
