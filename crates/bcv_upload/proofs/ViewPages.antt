-- An upload that has put all its blocks publishes exactly the image of its view.
use Rattle.std.proofs.Common.{◌≡◌, ◌∙◌, ◌⊎◌, inl, inr, ℕ, zero, suc, ◌+◌, ◌-◌, ◌*◌, ◌/◌, ◌%◌, ◌<◌, ◌≤◌, Bool, true, false, not, cond, min, List, [], ◌++◌, length, take, drop, replicate, slice_get, Option, Some, unwrap_or, nat_le, refl, sym, ap, subst, arith, add_comm, append_assoc}
use Rattle.std.specs.Cmp.{first_so}
use Rattle.std.specs.List.{flat_map, list_all, range_with_len}
use Rattle.std.specs.Option.{option_map_or}
use Rattle.std.proofs.lemmas.Bool.{leb-true}
use Rattle.std.proofs.lemmas.List.{length-drop, length-replicate, length-take-le}
use Rattle.std.proofs.lemmas.List.FromFn.{get_or-map-range_with_len, length-map-range_with_len}
use Rattle.std.proofs.lemmas.Nat.{div-mul-add, mod-mul-add}
use Rattle.std.proofs.lemmas.Option.{slice_get-get_or}
use Rattle.std.proofs.Math.Nat.{div-add-mod, mod-lt, mul_comm, suc-mul}
use Rattle.std.proofs.Math.Seq.{drop-append-add, take-append_seam}
use Rattle.bcv_base.specs.declared.id.Id16.{Id16}
use Rattle.bcv_base.specs.declared.seen.TxnBase.{TxnBase}
use Rattle.bcv_base.specs.Edits as edits
use Rattle.bcv_base.specs.History.{Item, HasBlock, history_of, first_put}
use Rattle.bcv_base.specs.Ids.{has_id}
use Rattle.bcv_base.specs.Image.{Page, Writes, is_base, leaves_page, page_of, view_image, zeros}
use Rattle.bcv_base.specs.Joined.{image_of, joined}
use Rattle.bcv_base.specs.Padded.{padded}
use Rattle.bcv_base.specs.Views.{Added, FromBase, Origin, Wrote, block_pages, has_local, is_commit, is_from_base, origin, page_from, view_size}
use Rattle.bcv_base.proofs.Views.{is_base-origin, length-view_image, origin-length, page_of-view_image}
use Rattle.bcv_dbmap.specs.Checked.{zero_id}
use Rattle.bcv_dbmap.specs.Sound.{Sound}
use Rattle.bcv_upload.specs.BlockText.{IsViewOf, page_at, page_over, pages_in, per_block, view_block, view_page}
use Rattle.bcv_upload.specs.State.{State, IsTask, base_id, block_id, ids_with, is_among, kept_id, needed, put_id}
use Rattle.bcv_upload.specs.UploadPut.{BlocksHoldTheView, UploadedIsTheView, view_over}
use Rattle.bcv_upload.specs.UploadWork.{AreOwnBlocks, WasListed, first_text, old_text}
use Rattle.bcv_upload.proofs.Bools.{not_not}
use Rattle.bcv_upload.proofs.BlockNumbers.{IsFull, full_of, inside_needed, touched_local}
use Rattle.bcv_upload.proofs.EntryIds.{made_of, none_put}
use Rattle.bcv_upload.proofs.ImagePages.{length_pages, page_ends, page_next, page_read, same_pages}
use Rattle.bcv_upload.proofs.MayPut.{entry_id, own_put}
use Rattle.bcv_upload.proofs.Owned.{base_put, has_at}
use Rattle.bcv_upload.proofs.Ranges.{none_there, same_text}
use Rattle.bcv_upload.proofs.Tasks.{kept_of, ready_of}

-- ---- the pages of a block

-- a page of texts of one length, one after the other
text_page : (f : ℕ → Page) (a n size j : ℕ) (more : List ℕ) → ((k : ℕ) → k < n → length (f (a + k)) ≡ size) → j < n → take size (drop (j * size) (flat_map f (range_with_len a n) ++ more)) ≡ f (a + j)
text_page f a zero size j more sized within = absurd (omega (arith, within))
text_page f a (suc n) size zero more sized within =
    let first : length (f a) ≡ size = ap (λ (k : ℕ). length (f k)) (sym (none_more a)) ∙ sized 0 (omega arith) in
    ap (λ (k : ℕ). take size (drop k ((f a ++ flat_map f (range_with_len (a + 1) n)) ++ more))) (none_times size)
    ∙ ap (λ (xs : List ℕ). take size xs) (append_assoc (f a) (flat_map f (range_with_len (a + 1) n)) more)
    ∙ ap (λ (k : ℕ). take k (f a ++ (flat_map f (range_with_len (a + 1) n) ++ more))) (sym first)
    ∙ take-append_seam (f a) (flat_map f (range_with_len (a + 1) n) ++ more) ∙ ap f (sym (none_more a))
  where
    none_times : (n : ℕ) → 0 * n ≡ 0
    none_times n = omega arith

    none_more : (a : ℕ) → a + 0 ≡ a
    none_more a = omega arith
text_page f a (suc n) size (suc j) more sized within =
    let first : length (f a) ≡ size = ap (λ (k : ℕ). length (f k)) (sym (none_more a)) ∙ sized 0 (omega arith) in
    let far : suc j * size ≡ length (f a) + j * size = suc-mul j size ∙ add_comm (j * size) size ∙ ap (λ (k : ℕ). k + j * size) (sym first) in
    ap (λ (k : ℕ). take size (drop k ((f a ++ flat_map f (range_with_len (a + 1) n)) ++ more))) far
    ∙ ap (λ (xs : List ℕ). take size (drop (length (f a) + j * size) xs)) (append_assoc (f a) (flat_map f (range_with_len (a + 1) n)) more)
    ∙ ap (λ (xs : List ℕ). take size xs) (drop-append-add (f a) (flat_map f (range_with_len (a + 1) n) ++ more) (j * size))
    ∙ text_page f (a + 1) n size j more (λ k below. ap (λ (x : ℕ). length (f x)) (one_more a k) ∙ sized (suc k) (omega (arith, below))) (omega (arith, within))
    ∙ ap f (one_more a j)
  where
    none_more : (a : ℕ) → a + 0 ≡ a
    none_more a = omega arith

    one_more : (a k : ℕ) → (a + 1) + k ≡ a + suc k
    one_more a k = omega arith

-- ---- over a history

module _ (past : List Item) (base : TxnBase) (view : List Writes) (sound : Sound past) (full : IsFull base) (listed : WasListed past base) (well : list_all (is_commit base.entry.page_size) view ≡ true)
    (ids_of : length base.entry.blocks ≡ needed base base.entry.pages) where
  abbrev per : ℕ
  per = per_block base

  abbrev size : ℕ
  size = base.entry.page_size

  abbrev base_image : List Page
  base_image = image_of past base.entry.pages size base.entry.blocks

  -- the bytes of a block of the base
  record BaseBlock (q : ℕ) : Type 0 where
    at : slice_get base.entry.blocks q ≡ Some (base_id base q)
    bytes : List ℕ
    first : first_put past (base_id base q) ≡ Some bytes
    whole : length bytes ≡ base.block
    old : old_text past base q ≡ bytes

  base_block_of : (q : ℕ) → q < length base.entry.blocks → BaseBlock q
  base_block_of q within =
      let there = slice_get-get_or base.entry.blocks q zero_id within in
      let at : slice_get base.entry.blocks q ≡ Some (base_id base q) = there ∙ sym (ap (λ (o : Option Id16). Some (unwrap_or o zero_id)) there) in
      let b = base_put past base (base_id base q) sound listed (has_at base.entry.blocks q (base_id base q) at) in
      record { at = at; bytes = b.0; first = b.1; whole = b.2; old = ap (λ (o : Option Id16). option_map_or (first_text past) o []) at ∙ ap (λ (o : Option (List ℕ)). unwrap_or o []) b.1 }

  -- a number of a page, from 0, in its block
  split : (k : ℕ) → k ≡ (k / per) * per + k % per
  split k = omega (arith, div-add-mod k per, mul_comm per (k / per))

  -- a page of the base lies in the block of its number
  base_page : (k : ℕ) → k < base.entry.pages → slice_get base_image k ≡ Some (page_at size (old_text past base (k / per)) (k % per))
  base_page k within =
      let below : k / per < length base.entry.blocks = subst (λ (x : ℕ). k / per < x) (sym ids_of) (inside_needed base base.entry.pages (k / per) full (omega (arith, split k, within))) in
      let b = base_block_of (k / per) below in
      page_read past base base.entry.pages k base.entry.blocks (base_id base (k / per)) b.bytes full (λ j has. base_put past base j sound listed has) within b.at b.first b.whole
      ∙ ap (λ (bytes : List ℕ). Some (page_at size bytes (k % per))) (sym b.old)

  from_base : (p : ℕ) → is_base base.entry.pages view p ≡ true → p ≤ base.entry.pages
  from_base p is = leb-true p base.entry.pages (first_so (nat_le p base.entry.pages) (list_all (leaves_page p) view) is)

  -- what the view has at a page, over the old bytes of its block
  viewed_page : (k : ℕ) → k < view_size base.entry.pages view
      → slice_get (view_image size base_image view) k ≡ Some (page_from (page_at size (old_text past base (k / per)) (k % per)) (zeros size) (origin base.entry.pages view (suc k)))
  viewed_page k within =
      let long : length base_image ≡ base.entry.pages = length_pages base.entry.pages size (joined past base.entry.blocks) in
      sym (page_next (view_image size base_image view) k)
      ∙ page_of-view_image size base_image view (suc k) (omega arith) (subst (λ (x : ℕ). suc k ≤ view_size x view) (sym long) (omega (arith, within)))
      ∙ ap (λ (x : ℕ). Some (page_from (unwrap_or (page_of base_image (suc k)) (zeros size)) (zeros size) (origin x view (suc k)))) long
      ∙ ap (λ (x : Page). Some x) (by_origin (origin base.entry.pages view (suc k)) (λ is. is_base-origin base.entry.pages view (suc k) ∙ is))
    where
      by_origin : (o : Origin) → (is_from_base o ≡ true → is_base base.entry.pages view (suc k) ≡ true)
          → page_from (unwrap_or (page_of base_image (suc k)) (zeros size)) (zeros size) o ≡ page_from (page_at size (old_text past base (k / per)) (k % per)) (zeros size) o
      by_origin FromBase is = ap (λ (o : Option Page). unwrap_or o (zeros size)) (page_next base_image k ∙ base_page k (omega (arith, from_base (suc k) (is refl))))
      by_origin Added is = refl
      by_origin (Wrote page) is = refl

  -- each page of a block of the view has the page size
  page_long : (q j p : ℕ) → j < per → p ≡ q * per + 1 + j → length (view_page base view (old_text past base q) q p) ≡ size
  page_long q j p within number = by_origin (origin base.entry.pages view p) refl
    where
      by_origin : (o : Origin) → origin base.entry.pages view p ≡ o → length (page_from (page_at size (old_text past base q) (p - (q * per + 1))) (zeros size) o) ≡ size
      by_origin FromBase is =
          let below : p ≤ base.entry.pages = from_base p (is_base-origin base.entry.pages view p ∙ ap is_from_base is) in
          let b = base_block_of q (subst (λ (x : ℕ). q < x) (sym ids_of) (inside_needed base base.entry.pages q full (omega (arith, below, number)))) in
          let ends = page_ends base j full within in
          let at : p - (q * per + 1) ≡ j = omega (arith, number) in
          length-take-le size (drop ((p - (q * per + 1)) * size) (old_text past base q))
          (omega (arith, length-drop ((p - (q * per + 1)) * size) (old_text past base q), ap length b.old, b.whole, ends, ap (λ (x : ℕ). x * size) at))
      by_origin Added is = length-replicate size 0
      by_origin (Wrote page) is = origin-length size base.entry.pages view p page well is

  -- a page of a block that was put
  put_page : (k : ℕ) → k < view_size base.entry.pages view
      → page_at size (view_block base view (old_text past base (k / per)) (k / per)) (k % per) ≡ page_from (page_at size (old_text past base (k / per)) (k % per)) (zeros size) (origin base.entry.pages view (suc k))
  put_page k within =
      let q : ℕ = k / per in
      let r : ℕ = k % per in
      let old : List ℕ = old_text past base q in
      let count : ℕ = min per (view_size base.entry.pages view - q * per) in
      let below : r < per = mod-lt k full.per in
      let number : q * per + 1 + r ≡ suc k = omega (arith, split k) in
      let place : suc k - (q * per + 1) ≡ r = omega (arith, split k) in
      text_page (view_page base view old q) (q * per + 1) count size r (replicate (base.block - length (flat_map (view_page base view old q) (pages_in base view q))) 0)
      (λ j less. page_long q j (q * per + 1 + j) (omega (arith, less)) refl) (omega (arith, below, split k, within))
      ∙ ap (view_page base view old q) number
      ∙ ap (λ (j : ℕ). page_from (page_at size old j) (zeros size) (origin base.entry.pages view (suc k))) place

  -- a page of a block that holds no local page
  kept_page : (k : ℕ) → k < view_size base.entry.pages view → has_local per base.entry.pages view (k / per) ≡ false
      → page_at size (old_text past base (k / per)) (k % per) ≡ page_from (page_at size (old_text past base (k / per)) (k % per)) (zeros size) (origin base.entry.pages view (suc k))
  kept_page k within none =
      let q : ℕ = k / per in
      let count : ℕ = min per (view_size base.entry.pages view - q * per) in
      let below : k % per < per = mod-lt k full.per in
      let number : q * per + 1 + k % per ≡ suc k = omega (arith, split k) in
      let here : not (is_base base.entry.pages view (suc k)) ≡ false =
      ap (λ (p : ℕ). not (is_base base.entry.pages view p)) (sym number) ∙ none_there (λ p. not (is_base base.entry.pages view p)) (q * per + 1) count (k % per) (omega (arith, below, split k, within)) none
      in
      by_origin (origin base.entry.pages view (suc k)) (sym (is_base-origin base.entry.pages view (suc k)) ∙ not_not (is_base base.entry.pages view (suc k)) here)
    where
      by_origin : (o : Origin) → is_from_base o ≡ true
          → page_at size (old_text past base (k / per)) (k % per) ≡ page_from (page_at size (old_text past base (k / per)) (k % per)) (zeros size) o
      by_origin FromBase is = refl
      by_origin Added is = absurd (cc)
      by_origin (Wrote page) is = absurd (cc)

-- a page of a block, whether it was put or stays
by_block : (past : List Item) (base : TxnBase) (view : List Writes) (sound : Sound past) (full : IsFull base) (listed : WasListed past base) (well : list_all (is_commit base.entry.page_size) view ≡ true)
    (ids_of : length base.entry.blocks ≡ needed base base.entry.pages) (k : ℕ) → k < view_size base.entry.pages view → (bytes : List ℕ)
    → (bytes ≡ view_block base view (old_text past base (k / per_block base)) (k / per_block base)) ⊎ ((bytes ≡ old_text past base (k / per_block base)) × (has_local (per_block base) base.entry.pages view (k / per_block base) ≡ false))
    → page_at base.entry.page_size bytes (k % per_block base)
    ≡ page_from (page_at base.entry.page_size (old_text past base (k / per_block base)) (k % per_block base)) (zeros base.entry.page_size) (origin base.entry.pages view (suc k))
by_block past base view sound full listed well ids_of k within bytes (inl put) =
    ap (λ (x : List ℕ). page_at base.entry.page_size x (k % per_block base)) put ∙ put_page past base view sound full listed well ids_of k within
by_block past base view sound full listed well ids_of k within bytes (inr stays) =
    ap (λ (x : List ℕ). page_at base.entry.page_size x (k % per_block base)) stays.0 ∙ kept_page past base view sound full listed well ids_of k within stays.1

-- what is put for a block is that block of the view's image
pub blocks_hold_the_view : BlocksHoldTheView
blocks_hold_the_view past base view n sound is listed well inside =
    let full = full_of base is in
    let per : ℕ = per_block base in
    let image : List Page = view_over past base view in
    let old : List ℕ = old_text past base n in
    let first : ℕ = n * per + 1 in
    let count : ℕ = min per (view_size base.entry.pages view - n * per) in
    let long : length image ≡ view_size base.entry.pages view =
    length-view_image base.entry.page_size (image_of past base.entry.pages base.entry.page_size base.entry.blocks) view
    ∙ ap (λ (k : ℕ). view_size k view) (length_pages base.entry.pages base.entry.page_size (joined past base.entry.blocks))
    in
    let shown : ℕ → Page = λ p. unwrap_or (page_of image p) [] in
    ap (padded base.block) (same_text (view_page base view old n) shown first count (λ j within.
    let below : j < per = omega (arith, within) in
    let number : first + j ≡ suc (n * per + j) = omega arith in
    let place : suc (n * per + j) - (n * per + 1) ≡ j = omega arith in
    let read = viewed_page past base view sound full listed well is.entry.blocks (n * per + j) (omega (arith, within, inside)) in
    let there : shown (suc (n * per + j)) ≡ page_over base view (old_text past base ((n * per + j) / per)) ((n * per + j) % per) (suc (n * per + j)) =
    ap (λ (o : Option Page). unwrap_or o []) (page_next image (n * per + j) ∙ read)
    in
    ap (view_page base view old n) number
    ∙ ap (λ (k : ℕ). page_over base view old k (suc (n * per + j))) place
    ∙ sym (there ∙ ap (λ (q : ℕ). page_over base view (old_text past base q) ((n * per + j) % per) (suc (n * per + j))) (div-mul-add n per j below)
    ∙ ap (λ (r : ℕ). page_over base view old r (suc (n * per + j))) (mod-mul-add n per j below))
    ∙ sym (ap shown number)))
    ∙ ap (λ (k : ℕ). padded base.block (flat_map shown (block_pages per k n))) (sym long)

-- ---- the whole

-- the block of a number of the entry, with its bytes
record EntryBlock (past : List Item) (s : State) (view : List Writes) (n : ℕ) : Type 0 where
  at : slice_get (ids_with s.base.entry.blocks s.touched s.ids (needed s.base s.size)) n ≡ Some (block_id s.base.entry.blocks s.touched s.ids n)
  bytes : List ℕ
  first : first_put past (block_id s.base.entry.blocks s.touched s.ids n) ≡ Some bytes
  whole : length bytes ≡ s.base.block
  has : (bytes ≡ view_block s.base view (old_text past s.base n) n) ⊎ ((bytes ≡ old_text past s.base n) × (has_local (per_block s.base) s.base.entry.pages view n ≡ false))

entry_block : (mine : List Id16) (past : List Item) (view : List Writes) (s : State) (n : ℕ) → Sound past → IsTask s → length s.ids ≡ length s.touched → IsViewOf s.base view s.size s.touched → WasListed past s.base
    → AreOwnBlocks mine past s.base view s.ids s.touched → n < needed s.base s.size → EntryBlock past s view n
entry_block mine past view s n sound t whole of_view listed own below = by_id (entry_id s n t whole below)
  where
    at : slice_get (ids_with s.base.entry.blocks s.touched s.ids (needed s.base s.size)) n ≡ Some (block_id s.base.entry.blocks s.touched s.ids n)
    at =
        slice_get-get_or (ids_with s.base.entry.blocks s.touched s.ids (needed s.base s.size)) n zero_id (omega (arith, length-map-range_with_len (block_id s.base.entry.blocks s.touched s.ids) 0 (needed s.base s.size), below))
        ∙ ap (λ (i : Id16). Some i) (get_or-map-range_with_len (block_id s.base.entry.blocks s.touched s.ids) 0 (needed s.base s.size) n n zero_id below (omega arith))

    by_id : ((i : Id16) × (put_id s.ids s.touched n ≡ Some i) × (is_among n s.touched ≡ true)) ⊎ ((is_among n s.touched ≡ false) × (slice_get s.base.entry.blocks n ≡ Some (base_id s.base n))) → EntryBlock past s view n
    by_id (inl put) =
        let same : block_id s.base.entry.blocks s.touched s.ids n ≡ put.0 = ap (λ (o : Option Id16). unwrap_or o (kept_id s.base.entry.blocks s.touched n)) put.1 in
        let o = own_put mine past s.base view s.ids s.touched n put.0 own put.1 in
        let there = o.0.there in
        let both : Some there.0 ≡ Some (view_block s.base view (old_text past s.base n) n) = sym there.1 ∙ o.1 in
        let text : there.0 ≡ view_block s.base view (old_text past s.base n) n = cc in
        record { at = at; bytes = there.0; first = ap (first_put past) same ∙ there.1; whole = there.2; has = inl text }
    by_id (inr stays) =
        let same : block_id s.base.entry.blocks s.touched s.ids n ≡ base_id s.base n =
        ap (λ (o : Option Id16). unwrap_or o (kept_id s.base.entry.blocks s.touched n)) (none_put s.ids s.touched n stays.0) ∙ ap (λ (b : Bool). cond b zero_id (base_id s.base n)) stays.0
        in
        let b = base_put past s.base (base_id s.base n) sound listed (has_at s.base.entry.blocks n (base_id s.base n) stays.1) in
        let old : old_text past s.base n ≡ b.0 = ap (λ (o : Option Id16). option_map_or (first_text past) o []) stays.1 ∙ ap (λ (o : Option (List ℕ)). unwrap_or o []) b.1 in
        record { at = at; bytes = b.0; first = ap (first_put past) same ∙ b.1; whole = b.2; has = inr (sym old, sym (touched_local s.base view s.size s.touched n (full_of s.base t.base) of_view below) ∙ stays.0) }

pub uploaded_is_the_view : UploadedIsTheView
uploaded_is_the_view mine log view s sound t ready of_view well has =
    let past : List Item = history_of log in
    let base : TxnBase = s.base in
    let full = full_of base t.base in
    let k = kept_of s ready in
    let all_put = (ready_of s k.0 t ready k.1).all_put in
    let blocks : List Id16 = ids_with base.entry.blocks s.touched s.ids (needed base s.size) in
    let block : (n : ℕ) → n < needed base s.size → EntryBlock past s view n = λ n below. entry_block mine past view s n sound t all_put of_view has.listed has.blocks below in
    let there : (j : Id16) → has_id j blocks ≡ true → HasBlock past j base.block =
    λ j listed. let m = made_of (block_id base.entry.blocks s.touched s.ids) 0 (needed base s.size) j listed in
    let e = block m.number (omega (arith, m.high)) in (e.bytes, sym (ap (first_put past) m.is) ∙ e.first, e.whole)
    in
    let long : length (image_of past s.size base.entry.page_size blocks) ≡ length (view_over past base view) =
    length_pages s.size base.entry.page_size (joined past blocks) ∙ of_view.size_is
    ∙ sym (length-view_image base.entry.page_size (image_of past base.entry.pages base.entry.page_size base.entry.blocks) view ∙ ap (λ (n : ℕ). view_size n view) (length_pages base.entry.pages base.entry.page_size (joined past base.entry.blocks)))
    in
    ap (λ (image : List Page). edits.Upload base.entry.name base.entry.page_size image)
    (same_pages (image_of past s.size base.entry.page_size blocks) (view_over past base view) long
    (λ n within.
    let small : n < s.size = omega (arith, within, length_pages s.size base.entry.page_size (joined past blocks)) in
    let inside : n < view_size base.entry.pages view = subst (λ (x : ℕ). n < x) of_view.size_is small in
    let e = block (n / per_block base) (inside_needed base s.size (n / per_block base) full (omega (arith, div-add-mod n (per_block base), mul_comm (per_block base) (n / per_block base), small))) in
    page_read past base s.size n blocks (block_id base.entry.blocks s.touched s.ids (n / per_block base)) e.bytes full there small e.at e.first e.whole
    ∙ ap (λ (x : Page). Some x) (by_block past base view sound full has.listed well t.base.entry.blocks n inside e.bytes e.has)
    ∙ sym (viewed_page past base view sound full has.listed well t.base.entry.blocks n inside)))
