-- The blocks of a base, and the pages that come from it.
use Rattle.std.proofs.Common.{◌≡◌, ◌∙◌, ℕ, ◌<◌, ◌≤◌, Bool, true, false, cond, nat_le, List, [], ◌∷◌, ◌++◌, length, Some, None, slice_get, get_or, refl, sym, ap, subst}
use Rattle.std.specs.Cmp.{first_so}
use Rattle.std.specs.List.{IsDistinct, list_all, find}
use Rattle.std.proofs.lemmas.Bool.{leb-true}
use Rattle.std.proofs.lemmas.Option.{slice_get-get_or}
use Rattle.bcv_base.specs.declared.id.Id16.{Id16}
use Rattle.bcv_base.specs.declared.seen.TxnBase.{TxnBase}
use Rattle.bcv_base.specs.Image.{Writes, is_base, leaves_page}
use Rattle.bcv_base.specs.ManifestRules.{MeetsEntryRules, is_block_size}
use Rattle.bcv_base.specs.Views.{FromBase, origin, is_from_base, view_size}
use Rattle.bcv_base.proofs.Views.{is_base-origin}
use Rattle.bcv_cache.specs.Cache.{without}
use Rattle.bcv_dbcopy.proofs.Powers.{block_some}
use Rattle.bcv_snapshot.specs.declared.held_block.HeldBlock.{HeldBlock}
use Rattle.bcv_snapshot.specs.Opened.{Opened, IsTxn, has_block_number, number_of, is_page, source_of}
use Rattle.bcv_snapshot.proofs.HeldBlocks.{all_both, all_without, differ_without, differ_push}
use Rattle.bcv_snapshot.proofs.PageOfBlock.{sizes_full, block_inside}

-- a transaction that begins
pub begun : (base : TxnBase) (size : ℕ) → MeetsEntryRules base.block base.entry → is_block_size base.block ≡ true → IsTxn (record { base = base; size = size; held = [] })
unfolding IsDistinct
begun base size rules block = record { entry = rules; block = block; full = sizes_full base.block base.entry.page_size block rules.page_size; ids = tt; differ = tt }

-- the block of a page of the base is one of the base's
pub inside : (t : Opened) (p : ℕ) → IsTxn t → 1 ≤ p → p ≤ t.base.entry.pages → number_of t.base p < length t.base.entry.blocks
inside t p is one le = block_inside t.base.block t.base.entry.page_size t.base.entry.pages p (length t.base.entry.blocks) is.full (block_some t.base.block is.block) one le is.entry.blocks

-- a page that comes from the base is one of its pages
pub from_base : (base : TxnBase) (cs : List Writes) (p : ℕ) → source_of base cs p ≡ Some FromBase → (1 ≤ p) × (p ≤ base.entry.pages)
from_base base cs p e = by (is_page base cs p) refl e
  where
    by : (b : Bool) → is_page base cs p ≡ b → cond b (Some (origin base.entry.pages cs p)) None ≡ Some FromBase → (1 ≤ p) × (p ≤ base.entry.pages)
    by false is some = absurd (cc)
    by true is some =
        let from : origin base.entry.pages cs p ≡ FromBase = cc in
        let based : is_base base.entry.pages cs p ≡ true = is_base-origin base.entry.pages cs p ∙ ap is_from_base from in
        (leb-true 1 p (first_so (nat_le 1 p) (nat_le p (view_size base.entry.pages cs)) is), leb-true p base.entry.pages (first_so (nat_le p base.entry.pages) (list_all (leaves_page p) cs) based))

-- one block less, or one more, is held
pub less_txn : (t : Opened) (n : ℕ) → IsTxn t → IsTxn (record t { held = without (has_block_number n) t.held })
less_txn t n is = record { entry = is.entry; block = is.block; full = is.full; ids = all_without _ (has_block_number n) t.held is.ids; differ = differ_without (has_block_number n) t.held is.differ }

pub more_txn : (t : Opened) (h : HeldBlock) → slice_get t.base.entry.blocks h.number ≡ Some h.pin.id → find (has_block_number h.number) t.held ≡ None → IsTxn t → IsTxn (record t { held = t.held ++ h ∷ [] })
more_txn t h id none is = record { entry = is.entry; block = is.block; full = is.full; ids = all_both _ t.held (h ∷ []) is.ids (id, tt); differ = differ_push h t.held none is.differ }

-- an id that is read at a number, by way of equal numbers and lists
pub number_below : (xs blocks : List Id16) (n m : ℕ) → xs ≡ blocks → n ≡ m → m < length blocks → n < length xs
number_below xs blocks n m list same lt = subst (λ (ys : List Id16). n < length ys) (sym list) (subst (λ (k : ℕ). k < length blocks) (sym same) lt)

pub id_read : (xs blocks : List Id16) (n m : ℕ) (d : Id16) → xs ≡ blocks → n ≡ m → m < length blocks → slice_get blocks m ≡ Some (get_or xs n d)
id_read xs blocks n m d list same lt =
    slice_get-get_or blocks m d lt ∙ ap (λ (i : Id16). Some i) (ap (λ (ys : List Id16). get_or ys m d) (sym list) ∙ ap (λ (k : ℕ). get_or xs k d) (sym same))
