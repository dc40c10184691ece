-- The bytes of a block, page by page, and whether it holds a page of the base.
use Rattle.std.proofs.Common.{◌≡◌, ◌∙◌, ℕ, suc, ◌+◌, ◌-◌, ◌*◌, ◌<◌, ◌≤◌, Bool, true, false, ◌||◌, min, List, ◌++◌, length, take, replicate, sym, ap, arith}
use Rattle.std.proofs.lemmas.List.{take_all}
use Rattle.std.proofs.Math.Nat.{mul-le-mul_right}
use Rattle.std.specs.List.{flat_map, list_any, range_with_len}
use Rattle.bcv_base.specs.declared.seen.TxnBase.{TxnBase}
use Rattle.bcv_base.specs.Image.{Writes, is_base, zeros}
use Rattle.bcv_base.specs.Padded.{padded}
use Rattle.bcv_base.specs.Views.{origin, page_from, view_size}
use Rattle.bcv_upload.specs.BlockText.{has_base, page_at, pages_in, per_block, view_block, view_page}
use Rattle.bcv_upload.proofs.BlockNumbers.{IsFull}
use Rattle.bcv_upload.proofs.Ranges.{any_more, any_there, text_more}

add_one : (n : ℕ) → suc n ≡ n + 1
add_one n = omega arith

page_number : (before place : ℕ) → (before + 1) + place ≡ before + place + 1
page_number before place = omega arith

-- ---- a search

pub any_next : (test : ℕ → Bool) (before place : ℕ) → list_any test (range_with_len (before + 1) place) ≡ false → test (before + place + 1) ≡ false
    → list_any test (range_with_len (before + 1) (place + 1)) ≡ false
any_next test before place none here =
    ap (λ (n : ℕ). list_any test (range_with_len (before + 1) n)) (sym (add_one place)) ∙ any_more test (before + 1) place
    ∙ ap (λ (b : Bool). b || test ((before + 1) + place)) none ∙ ap test (page_number before place) ∙ here

pub base_there : (base : TxnBase) (view : List Writes) (n before count place : ℕ) → before ≡ n * per_block base
    → count ≡ min (per_block base) (view_size base.entry.pages view - n * per_block base) → place < count → is_base base.entry.pages view (before + place + 1) ≡ true → has_base base view n ≡ true
base_there base view n before count place before_is count_is within is =
    ap (λ (b : ℕ). list_any (is_base base.entry.pages view) (range_with_len (b + 1) (min (per_block base) (view_size base.entry.pages view - n * per_block base)))) (sym before_is)
    ∙ ap (λ (c : ℕ). list_any (is_base base.entry.pages view) (range_with_len (before + 1) c)) (sym count_is)
    ∙ any_there (is_base base.entry.pages view) (before + 1) count place within (ap (is_base base.entry.pages view) (page_number before place) ∙ is)

-- ---- the bytes

-- with one more page, whose bytes stand at this place in the block
pub text_next : (text : ℕ → List ℕ) (before place size : ℕ) (old new page : List ℕ) → old ≡ flat_map text (range_with_len (before + 1) place) → new ≡ old ++ page → page ≡ text (before + place + 1)
    → new ≡ flat_map text (range_with_len (before + 1) (place + 1))
text_next text before place size old new page so_far is here =
    is ∙ ap (λ (xs : List ℕ). xs ++ page) so_far ∙ ap (λ (xs : List ℕ). flat_map text (range_with_len (before + 1) place) ++ xs) (here ∙ ap text (sym (page_number before place)))
    ∙ sym (text_more text (before + 1) place) ∙ ap (λ (n : ℕ). flat_map text (range_with_len (before + 1) n)) (add_one place)

-- the page of a place, by its number
pub page_here : (base : TxnBase) (view : List Writes) (old : List ℕ) (n before place : ℕ) → before ≡ n * per_block base
    → page_from (page_at base.entry.page_size old place) (zeros base.entry.page_size) (origin base.entry.pages view (before + place + 1)) ≡ view_page base view old n (before + place + 1)
page_here base view old n before place before_is =
    ap (λ (k : ℕ). page_from (page_at base.entry.page_size old k) (zeros base.entry.page_size) (origin base.entry.pages view (before + place + 1))) (at (n * per_block base) before_is)
  where
    at : (m : ℕ) → before ≡ m → place ≡ before + place + 1 - (m + 1)
    at m is = omega (arith, is)

-- a page of a block lies in the block
pub page_inside : (base : TxnBase) (place count rest : ℕ) → IsFull base → place < count → count ≡ min (per_block base) rest → (place + 1) * base.entry.page_size ≤ base.block
page_inside base place count rest full within count_is =
    let below : (place + 1) * base.entry.page_size ≤ per_block base * base.entry.page_size = mul-le-mul_right base.entry.page_size (omega (arith, within, count_is)) in
    omega (arith, below, full.whole)

pub one_page_more : (len size place longer : ℕ) → len ≡ place * size → longer ≡ len + size → longer ≡ (place + 1) * size
one_page_more len size place longer is more =
    let product : (place + 1) * size ≡ place * size + size = omega arith in
    omega (arith, is, more, product)

-- bytes that are filled up with zeros
pub whole_block : (base : TxnBase) (view : List Writes) (old : List ℕ) (n before count place len : ℕ) (bytes now : List ℕ) → IsFull base → before ≡ n * per_block base
    → count ≡ min (per_block base) (view_size base.entry.pages view - n * per_block base) → place ≡ count
    → bytes ≡ flat_map (view_page base view old n) (range_with_len (before + 1) place) → length bytes ≡ place * base.entry.page_size → len ≡ length bytes
    → now ≡ take base.block bytes ++ replicate (base.block - len) 0 → now ≡ view_block base view old n
whole_block base view old n before count place len bytes now full before_is count_is all is long len_is filled =
    let below : place * base.entry.page_size ≤ per_block base * base.entry.page_size = mul-le-mul_right base.entry.page_size (omega (arith, all, count_is)) in
    let text : bytes ≡ flat_map (view_page base view old n) (pages_in base view n) =
    is ∙ ap (λ (b : ℕ). flat_map (view_page base view old n) (range_with_len (b + 1) place)) before_is
    ∙ ap (λ (c : ℕ). flat_map (view_page base view old n) (range_with_len (n * per_block base + 1) c)) (all ∙ count_is)
    in
    filled ∙ ap (λ (xs : List ℕ). xs ++ replicate (base.block - len) 0) (take_all base.block bytes (omega (arith, long, below, full.whole)))
    ∙ ap (λ (k : ℕ). bytes ++ replicate (base.block - k) 0) len_is ∙ ap (padded base.block) text
