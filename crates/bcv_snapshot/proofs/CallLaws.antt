-- What calls around a transaction keep: its view, the blocks of its base, and their bytes in the cache.
use Rattle.std.proofs.Common.{◌≡◌, ◌∙◌, ℕ, ◌+◌, ◌-◌, Bool, true, false, cond, nat_eq, List, [], ◌∷◌, map, Option, Some, None, refl, sym, ap, subst, inl, inr}
use Rattle.std.specs.List.{AllByRecursion, find}
use Rattle.std.specs.Option.{option_map_or}
use Rattle.bcv_base.specs.declared.id.Id16.{Id16}
use Rattle.bcv_base.specs.declared.seen.TxnBase.{TxnBase}
use Rattle.bcv_base.specs.History.{Item, first_put}
use Rattle.bcv_base.specs.HistoryLaws.{first_put-stays, has_block-stays, joined-stays}
use Rattle.bcv_base.specs.Image.{Writes, view_image}
use Rattle.bcv_base.specs.Joined.{joined, pages_of}
use Rattle.bcv_cache.specs.Entry.{Entry, Blocks}
use Rattle.bcv_cache.specs.Cache.{counted_down, counted_up, found_first, has_free_slot, has_id as entry_has_id, last_unpinned, last_unpinned_dropped, room_made, without}
use Rattle.bcv_pages.specs.Held.{Held, view_of}
use Rattle.bcv_snapshot.specs.FixedImage.{Moment, CanBegin, HasFirst, IsCacheCall, IsCall, AreCalls, fixed_image}
use Rattle.bcv_snapshot.specs.Pins.{given_back}
use Rattle.bcv_snapshot.proofs.CacheLaws.{found_in}
use Rattle.bcv_snapshot.proofs.HeldBlocks.{all_imply, all_without}

-- ---- entries of a cache after a call

pub all_found_first : (P : Entry → Type 0) (id : Id16) (es : List Entry) → AllByRecursion P es → AllByRecursion P (found_first id es)
all_found_first P id es all = by (find (entry_has_id id) es) refl
  where
    by : (o : Option Entry) → find (entry_has_id id) es ≡ o → AllByRecursion P (option_map_or (λ e. e ∷ without (entry_has_id id) es) o es)
    by None is = all
    by (Some e) is = (found_in P (entry_has_id id) es e all is, all_without P (entry_has_id id) es all)

all_map : (P : Entry → Type 0) (f : Entry → Entry) → ((e : Entry) → P e → P (f e)) → (es : List Entry) → AllByRecursion P es → AllByRecursion P (map f es)
all_map P f keeps [] all = tt
all_map P f keeps (e ∷ es) all = (keeps e all.0, all_map P f keeps es all.1)

all_room : (P : Entry → Type 0) (c : Blocks) → AllByRecursion P c.entries → AllByRecursion P (room_made c)
all_room P c all = by (has_free_slot c)
  where
    dropped : (o : Option Entry) → AllByRecursion P (option_map_or (λ e. without (entry_has_id e.id) c.entries) o c.entries)
    dropped None = all
    dropped (Some e) = all_without P (entry_has_id e.id) c.entries all

    by : (b : Bool) → AllByRecursion P (cond b c.entries (last_unpinned_dropped c.entries))
    by true = all
    by false = dropped (last_unpinned c.entries)

-- a block with another count is as it was
up_first : (past : List Item) (base : TxnBase) (slot : ℕ) (e : Entry) → HasFirst past base e → HasFirst past base (counted_up slot e)
up_first past base slot e h = elim (nat_eq slot e.slot) as (λ b. HasFirst past base (cond b (record e { count = e.count + 1 }) e)) [ true ↦ h | false ↦ h ]

down_first : (past : List Item) (base : TxnBase) (slot : ℕ) (e : Entry) → HasFirst past base e → HasFirst past base (counted_down slot e)
down_first past base slot e h = elim (nat_eq slot e.slot) as (λ b. HasFirst past base (cond b (record e { count = e.count - 1 }) e)) [ true ↦ h | false ↦ h ]

cache_kept : (past : List Item) (base : TxnBase) (c d : Blocks) → IsCacheCall past c d → AllByRecursion (HasFirst past base) c.entries → AllByRecursion (HasFirst past base) d.entries
cache_kept past base c d (inl found) all = subst (AllByRecursion (HasFirst past base)) (sym found.1) (all_found_first (HasFirst past base) found.0 c.entries all)
cache_kept past base c d (inr (inl up)) all = subst (AllByRecursion (HasFirst past base)) (sym up.1) (all_map (HasFirst past base) (counted_up up.0) (up_first past base up.0) c.entries all)
cache_kept past base c d (inr (inr (inl down))) all =
    subst (AllByRecursion (HasFirst past base)) (sym down.1) (all_map (HasFirst past base) (counted_down down.0) (down_first past base down.0) c.entries all)
cache_kept past base c d (inr (inr (inr (inl back)))) all =
    subst (AllByRecursion (HasFirst past base)) (sym back.1) (all_map (HasFirst past base) (given_back back.0) (λ e h. h) c.entries all)
cache_kept past base c d (inr (inr (inr (inr fetched)))) all =
    subst (λ (x : Blocks). AllByRecursion (HasFirst past base) x.entries) (sym fetched.4) ((λ listed. fetched.3), all_room (HasFirst past base) c all)

-- ---- what is kept

pub record IsKept (base : TxnBase) (a b : Moment) : Type 0 where
  pub begins : CanBegin base b
  pub view : view_of b.pages base.from base.to ≡ view_of a.pages base.from base.to
  pub bytes : joined b.past base.entry.blocks ≡ joined a.past base.entry.blocks
  pub puts : (i : Id16) (bytes : List ℕ) → first_put a.past i ≡ Some bytes → first_put b.past i ≡ Some bytes

kept_here : (base : TxnBase) (a b : Moment) → CanBegin base a → b ≡ a → IsKept base a b
kept_here base a b begins same = subst (IsKept base a) (sym same) (record { begins = begins; view = refl; bytes = refl; puts = λ i bytes h. h })

one_kept : (base : TxnBase) (a b : Moment) → CanBegin base a → IsCall base a b → IsKept base a b
one_kept base a b begins (inl commits) =
    let kept = commits.0 begins.view in
    subst (λ (past : List Item). IsKept base a (record b { past = past })) (sym commits.2)
    (subst (λ (c : Blocks). IsKept base a (record { pages = b.pages; cache = c; past = a.past })) (sym commits.1)
    (record { begins = record { view = kept.0; put = begins.put; first = begins.first }; view = kept.1; bytes = refl; puts = λ i bytes h. h }))
one_kept base a b begins (inr (inl cached)) =
    subst (λ (past : List Item). IsKept base a (record b { past = past })) (sym cached.2)
    (subst (λ (h : Held). IsKept base a (record { pages = h; cache = b.cache; past = a.past })) (sym cached.0)
    (record { begins = record { view = begins.view; put = begins.put; first = cache_kept a.past base a.cache b.cache cached.1 begins.first }; view = refl; bytes = refl; puts = λ i bytes h. h }))
one_kept base a b begins (inr (inr grown)) =
    let x : Item = grown.2.0 in
    subst (λ (past : List Item). IsKept base a (record b { past = past })) (sym grown.2.1)
    (subst (λ (c : Blocks). IsKept base a (record { pages = b.pages; cache = c; past = x ∷ a.past })) (sym grown.1)
    (subst (λ (h : Held). IsKept base a (record { pages = h; cache = a.cache; past = x ∷ a.past })) (sym grown.0)
    (record {
      begins = record {
        view = begins.view;
        put = λ i listed. has_block-stays x a.past i base.block (begins.put i listed);
        first = all_imply (HasFirst a.past base) (HasFirst (x ∷ a.past) base) (λ e h listed. first_put-stays x a.past e.id e.bytes (h listed)) a.cache.entries begins.first;
      };
      view = refl;
      bytes = joined-stays x a.past base.block base.entry.blocks begins.put;
      puts = λ i bytes h. first_put-stays x a.past i bytes h;
    })))

pub calls_keep : (base : TxnBase) (a : Moment) (ms : List Moment) (b : Moment) → CanBegin base a → AreCalls base a ms b → IsKept base a b
calls_keep base a [] b begins calls = kept_here base a b begins calls
calls_keep base a (m ∷ ms) b begins calls =
    let one = one_kept base a m begins calls.0 in
    let more = calls_keep base m ms b one.begins calls.1 in
    record { begins = more.begins; view = more.view ∙ one.view; bytes = more.bytes ∙ one.bytes; puts = λ i bytes h. more.puts i bytes (one.puts i bytes h) }

-- the image is the same
pub image_kept : (base : TxnBase) (a b : Moment) → IsKept base a b → fixed_image b.past base (view_of b.pages base.from base.to) ≡ fixed_image a.past base (view_of a.pages base.from base.to)
image_kept base a b kept =
    ap (λ (cs : List Writes). fixed_image b.past base cs) kept.view
    ∙ ap (λ (bytes : List ℕ). view_image base.entry.page_size (pages_of base.entry.pages base.entry.page_size bytes) (view_of a.pages base.from base.to)) kept.bytes
