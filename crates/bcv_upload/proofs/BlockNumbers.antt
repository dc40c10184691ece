-- Which blocks a view has, and which of them are touched.
use Rattle.std.proofs.Common.{◌≡◌, ◌∙◌, ◌⊎◌, inl, inr, ℕ, zero, suc, ◌+◌, ◌-◌, ◌*◌, ◌<◌, ◌≤◌, Bool, true, false, ◌||◌, cond, List, [], ◌∷◌, length, get_or, refl, sym, ap, subst, arith}
use Rattle.std.specs.Int.{div_ceil}
use Rattle.std.specs.List.{AllByRecursion, filter, range_with_len}
use Rattle.std.proofs.lemmas.Bool.{cases_lt, eq-eqb, ne_eqb}
use Rattle.std.proofs.lemmas.Grind.{div_ceil_times}
use Rattle.std.proofs.Math.Nat.{lt-div-mul-add, div-mul-le_self, mul_assoc, suc-mul, mul-le-mul_right}
use Rattle.bcv_base.specs.declared.seen.TxnBase.{TxnBase}
use Rattle.bcv_base.specs.Image.{Writes}
use Rattle.bcv_base.specs.Views.{has_local, view_size, touched_blocks}
use Rattle.bcv_upload.specs.BlockText.{IsViewOf, per_block}
use Rattle.bcv_upload.specs.State.{State, IsBase, IsTask, is_among, needed}
use Rattle.bcv_upload.proofs.Powers.{whole, page_some, block_some}

-- a block is full of pages
pub record IsFull (base : TxnBase) : Type 0 where
  pub whole : per_block base * base.entry.page_size ≡ base.block
  pub page : 0 < base.entry.page_size
  pub block : 0 < base.block
  pub per : 0 < per_block base

pub full_of : (base : TxnBase) → IsBase base → IsFull base
full_of base is =
    let full : per_block base * base.entry.page_size ≡ base.block = whole base.block base.entry.page_size is.block is.entry.page_size in
    let some : 0 < base.block = block_some base.block is.block in
    record { whole = full; page = page_some base.block base.entry.page_size is.entry.page_size; block = some; per = some_times (per_block base) base.entry.page_size base.block full some }
  where
    some_times : (k size block : ℕ) → k * size ≡ block → 0 < block → 0 < k
    some_times zero size block is some = omega (arith, is, some)
    some_times (suc k) size block is some = omega arith

-- ---- the numbers of blocks

-- the pages before a block of the view, in bytes
bytes_before : (base : TxnBase) (n : ℕ) → IsFull base → (n * per_block base) * base.entry.page_size ≡ n * base.block
bytes_before base n full = mul_assoc n (per_block base) base.entry.page_size ∙ ap (λ (x : ℕ). n * x) full.whole

pub inside_needed : (base : TxnBase) (size n : ℕ) → IsFull base → n * per_block base < size → n < needed base size
inside_needed base size n full inside =
    elim (cases_lt n (needed base size)) [
      | inl below ↦ below
      | inr past ↦
          let above : size * base.entry.page_size + (base.block - 1) < needed base size * base.block + base.block = lt-div-mul-add full.block in
          let less : needed base size * base.block ≤ n * base.block = mul-le-mul_right base.block past in
          let bytes : (suc (n * per_block base)) * base.entry.page_size ≤ size * base.entry.page_size = mul-le-mul_right base.entry.page_size inside in
          absurd (omega (arith, above, less, bytes, bytes_before base n full, suc-mul (n * per_block base) base.entry.page_size, full.page, full.block))
    ]

pub needed_inside : (base : TxnBase) (size n : ℕ) → IsFull base → n < needed base size → n * per_block base < size
needed_inside base size n full below =
    elim (cases_lt (n * per_block base) size) [
      | inl inside ↦ inside
      | inr past ↦
          let under : needed base size * base.block ≤ size * base.entry.page_size + (base.block - 1) = div-mul-le_self (size * base.entry.page_size + (base.block - 1)) base.block in
          let more : suc n * base.block ≤ needed base size * base.block = mul-le-mul_right base.block below in
          let bytes : size * base.entry.page_size ≤ (n * per_block base) * base.entry.page_size = mul-le-mul_right base.entry.page_size past in
          absurd (omega (arith, under, more, bytes, bytes_before base n full, suc-mul n base.block, full.block))
    ]

pub ceil_inside : (size per n : ℕ) → 0 < per → n < div_ceil size per → n * per < size
ceil_inside size per n some below =
    let bound = div_ceil_times size per some in
    let more : suc n * per ≤ div_ceil size per * per = mul-le-mul_right per below in
    omega (arith, bound.1, more, suc-mul n per)

pub inside_ceil : (size per n : ℕ) → 0 < per → n * per < size → n < div_ceil size per
inside_ceil size per n some inside =
    elim (cases_lt n (div_ceil size per)) [
      | inl below ↦ below
      | inr past ↦
          let less : div_ceil size per * per ≤ n * per = mul-le-mul_right per past in
          absurd (omega (arith, (div_ceil_times size per some).0, less, inside))
    ]

-- ---- the touched ones

-- each is below the later ones
abbrev pub Rises : List ℕ → Type 0
Rises [] = Unit {0}
Rises (n ∷ ns) = AllByRecursion (λ m. n < m) ns × Rises ns

all_weaker : (P Q : ℕ → Type 0) (ns : List ℕ) → ((n : ℕ) → P n → Q n) → AllByRecursion P ns → AllByRecursion Q ns
all_weaker P Q [] f all = tt
all_weaker P Q (n ∷ ns) f all = (f n all.0, all_weaker P Q ns f all.1)

-- those of so many numbers that pass a test lie among them
filter_within : (test : ℕ → Bool) (a n : ℕ) → AllByRecursion (λ m. (a ≤ m) × (m < a + n)) (filter test (range_with_len a n))
filter_within test a zero = tt
filter_within test a (suc n) = by_test (test a) (all_weaker _ _ (filter test (range_with_len (a + 1) n)) (λ m h. (omega (arith, h.0), omega (arith, h.1))) (filter_within test (a + 1) n))
  where
    by_test : (b : Bool) → AllByRecursion (λ m. (a ≤ m) × (m < a + suc n)) (filter test (range_with_len (a + 1) n))
        → AllByRecursion (λ m. (a ≤ m) × (m < a + suc n)) (cond b (a ∷ filter test (range_with_len (a + 1) n)) (filter test (range_with_len (a + 1) n)))
    by_test true rest = ((omega arith, omega arith), rest)
    by_test false rest = rest

filter_rises : (test : ℕ → Bool) (a n : ℕ) → Rises (filter test (range_with_len a n))
filter_rises test a zero = tt
filter_rises test a (suc n) = by_test (test a) (all_weaker _ _ (filter test (range_with_len (a + 1) n)) (λ m h. omega (arith, h.0)) (filter_within test (a + 1) n)) (filter_rises test (a + 1) n)
  where
    by_test : (b : Bool) → AllByRecursion (λ m. a < m) (filter test (range_with_len (a + 1) n)) → Rises (filter test (range_with_len (a + 1) n))
        → Rises (cond b (a ∷ filter test (range_with_len (a + 1) n)) (filter test (range_with_len (a + 1) n)))
    by_test true above rest = (above, rest)
    by_test false above rest = rest

filter_few : (test : ℕ → Bool) (a n : ℕ) → length (filter test (range_with_len a n)) ≤ n
filter_few test a zero = omega arith
filter_few test a (suc n) = by_test (test a) (filter_few test (a + 1) n)
  where
    by_test : (b : Bool) → length (filter test (range_with_len (a + 1) n)) ≤ n → length (cond b (a ∷ filter test (range_with_len (a + 1) n)) (filter test (range_with_len (a + 1) n))) ≤ suc n
    by_test true few = omega (arith, few)
    by_test false few = omega (arith, few)

-- a number among so many is listed exactly where it passes the test
among_filter : (test : ℕ → Bool) (a n m : ℕ) → a ≤ m → m < a + n → is_among m (filter test (range_with_len a n)) ≡ test m
among_filter test a zero m low high = absurd (omega (arith, low, high))
among_filter test a (suc n) m low high = by_place (cases_lt a m) (λ later. among_filter test (a + 1) n m (omega (arith, later)) (omega (arith, high)))
  where
    none_before : (b : Bool) → (a ≡ m → ⊥) → is_among m (cond b (a ∷ filter test (range_with_len (a + 1) n)) (filter test (range_with_len (a + 1) n))) ≡ is_among m (filter test (range_with_len (a + 1) n))
    none_before true differ = ap (λ (b : Bool). b || is_among m (filter test (range_with_len (a + 1) n))) (ne_eqb a m differ)
    none_before false differ = refl

    missing : (ns : List ℕ) → AllByRecursion (λ k. m < k) ns → is_among m ns ≡ false
    missing [] all = refl
    missing (k ∷ ks) all = ap (λ (b : Bool). b || is_among m ks) (ne_eqb k m (λ e. omega (arith, e, all.0))) ∙ missing ks all.1

    first : (b : Bool) → a ≡ m → AllByRecursion (λ k. m < k) (filter test (range_with_len (a + 1) n)) → is_among m (cond b (a ∷ filter test (range_with_len (a + 1) n)) (filter test (range_with_len (a + 1) n))) ≡ b
    first true same above = ap (λ (b : Bool). b || is_among m (filter test (range_with_len (a + 1) n))) (eq-eqb a m same)
    first false same above = missing (filter test (range_with_len (a + 1) n)) above

    by_place : (a < m) ⊎ (m ≤ a) → (a < m → is_among m (filter test (range_with_len (a + 1) n)) ≡ test m) → is_among m (filter test (range_with_len a (suc n))) ≡ test m
    by_place (inl later) rest = none_before (test a) (λ e. omega (arith, e, later)) ∙ rest later
    by_place (inr same) rest =
        let e : a ≡ m = omega (arith, low, same) in
        first (test a) e (all_weaker _ _ (filter test (range_with_len (a + 1) n)) (λ k h. omega (arith, h.0, e)) (filter_within test (a + 1) n)) ∙ ap test e

-- what the touched blocks of a view keep
pub record TouchedAre (base : TxnBase) (size : ℕ) (touched : List ℕ) : Type 0 where
  pub rises : Rises touched
  pub within : AllByRecursion (λ n. n < needed base size) touched
  pub few : length touched ≤ needed base size

pub touched_are : (base : TxnBase) (view : List Writes) (size : ℕ) (touched : List ℕ) → IsFull base → IsViewOf base view size touched → TouchedAre base size touched
touched_are base view size touched full v =
    let per : ℕ = per_block base in
    let test : ℕ → Bool = has_local per base.entry.pages view in
    let ceil : ℕ = div_ceil (view_size base.entry.pages view) per in
    let below : (n : ℕ) → n < ceil → n < needed base size = λ n h. inside_needed base size n full (subst (λ (x : ℕ). n * per < x) (sym v.size_is) (ceil_inside (view_size base.entry.pages view) per n full.per h)) in
    let within : AllByRecursion (λ n. n < needed base size) (touched_blocks per base.entry.pages view) = all_weaker _ _ (filter test (range_with_len 0 ceil)) (λ n h. below n (omega (arith, h.1))) (filter_within test 0 ceil) in
    let count : length (touched_blocks per base.entry.pages view) ≤ needed base size = omega (arith, filter_few test 0 ceil, few_of ceil (needed base size) below) in
    record {
      rises = subst Rises (sym v.touched_are) (filter_rises test 0 ceil);
      within = subst (λ (ns : List ℕ). AllByRecursion (λ n. n < needed base size) ns) (sym v.touched_are) within;
      few = subst (λ (ns : List ℕ). length ns ≤ needed base size) (sym v.touched_are) count;
    }
  where
    few_of : (a b : ℕ) → ((n : ℕ) → n < a → n < b) → a ≤ b
    few_of zero b f = omega arith
    few_of (suc a) b f = f a (omega arith)

-- a block of the view is touched exactly where it holds a local page
pub touched_local : (base : TxnBase) (view : List Writes) (size : ℕ) (touched : List ℕ) (n : ℕ) → IsFull base → IsViewOf base view size touched → n < needed base size → is_among n touched ≡ has_local (per_block base) base.entry.pages view n
touched_local base view size touched n full v below =
    let per : ℕ = per_block base in
    let inside : n * per < view_size base.entry.pages view = subst (λ (x : ℕ). n * per < x) v.size_is (needed_inside base size n full below) in
    ap (is_among n) v.touched_are
    ∙ among_filter (has_local per base.entry.pages view) 0 (div_ceil (view_size base.entry.pages view) per) n (omega arith) (omega (arith, inside_ceil (view_size base.entry.pages view) per n full.per inside))

-- there are no more touched blocks than blocks
pub touched_few : (s : State) → IsTask s → length s.touched ≤ 65536
touched_few s t = omega (arith, (touched_are s.base t.view s.size s.touched (full_of s.base t.base) t.of_view).few, t.few)

-- what holds of all numbers of a list holds of the one at a place
pub all_at : (P : ℕ → Type 0) (ns : List ℕ) (k : ℕ) → AllByRecursion P ns → k < length ns → P (get_or ns k 0)
all_at P [] k all there = absurd (omega (arith, there))
all_at P (n ∷ ns) zero all there = all.0
all_at P (n ∷ ns) (suc k) all there = all_at P ns k all.1 (omega (arith, there))
