-- The next local page of a view, and the next block that holds one.
use Rattle.std.proofs.Common.{◌≡◌, ℕ, zero, suc, ◌+◌, ◌-◌, ◌*◌, ◌/◌, ◌%◌, ◌<◌, ◌≤◌, ◌≢◌, Bool, true, false, nat_le, not, ◌&&◌, min, max, List, [], ◌∷◌, ◌++◌, refl, sym, ◌∙◌, ap, subst, inl, inr, ◌⊎◌, arith, mul-le-mul_right, div-mul-le_self}
use Rattle.std.specs.Int.{div_ceil}
use Rattle.std.specs.List.{filter, list_any, range_with_len}
use Rattle.std.proofs.lemmas.Bool.{cases_lt}
use Rattle.std.proofs.lemmas.Bool.Decides.{nat_tests}
use Rattle.std.proofs.lemmas.List.{append-nil}
use Rattle.bcv_base.specs.Image.{Writes, is_base}
use Rattle.bcv_base.specs.Views.{has_local, view_size}
use Rattle.bcv_pages.specs.Index.{writing}
use Rattle.bcv_pages.specs.Touched.{pages_kept, IsNextLocal, IsNextBlock}
use Rattle.bcv_pages.proofs.Kept.{is_base-kept, unwritten-from, written-from}
use Rattle.bcv_pages.proofs.Ranges.{any-found, filter-more}

base-at : (base p first : ℕ) (cs : List Writes) → p ≤ pages_kept base cs → writing first cs p ≡ [] → is_base base cs p ≡ true
base-at base p first cs kept none =
    let test : nat_le p (pages_kept base cs) ≡ true = grind (arith, nat_tests) in
    is_base-kept base p cs ∙ rw (test, unwritten-from first cs p none) refl

and-false : (b : Bool) → (b && false) ≡ false
and-false true = refl
and-false false = refl

local-written : (base p first : ℕ) (cs : List Writes) → writing first cs p ≢ [] → is_base base cs p ≡ false
local-written base p first cs some = is_base-kept base p cs ∙ rw (written-from first cs p some) (and-false _)

local-past : (base p : ℕ) (cs : List Writes) → pages_kept base cs < p → is_base base cs p ≡ false
local-past base p cs past =
    let test : nat_le p (pages_kept base cs) ≡ false = grind (arith, nat_tests) in
    is_base-kept base p cs ∙ rw test refl

-- no page that is kept was written
pub local-grown : (base page first kept grown : ℕ) (cs : List Writes) → kept ≡ pages_kept base cs → grown ≡ max (kept + 1) page
    → ((p : ℕ) → page ≤ p → p ≤ kept → writing first cs p ≡ []) → IsNextLocal base cs page grown
local-grown base page first kept grown cs is top none =
    record {
      from = omega arith;
      found = local-past base grown cs (omega arith);
      before = λ p low lt. base-at base p first cs (omega arith) (none p low (omega arith));
    }

-- a page was written
pub local-next : (base page first kept grown w next : ℕ) (cs : List Writes) → kept ≡ pages_kept base cs → grown ≡ max (kept + 1) page → next ≡ min grown w
    → page ≤ w → writing first cs w ≢ [] → ((p : ℕ) → page ≤ p → p < w → writing first cs p ≡ []) → IsNextLocal base cs page next
local-next base page first kept grown w next cs is top least low some none =
    record {
      from = omega arith;
      found = elim (cases_lt grown w) [
        | inl lt ↦ local-past base next cs (omega arith)
        | inr ge ↦ let same : w ≡ next = omega arith in subst (λ p. is_base base cs p ≡ false) same (local-written base w first cs some)
      ];
      before = λ p from lt. base-at base p first cs (omega arith) (none p from (omega arith));
    }

-- ---- blocks
suc-times : (a b : ℕ) → (a + 1) * b ≡ a * b + b
suc-times a b = grind arith

none-in : (test : ℕ → Bool) (a n : ℕ) → ((i : ℕ) → i < n → test (a + i) ≡ false) → list_any test (range_with_len a n) ≡ false
none-in test a zero none = refl
none-in test a (suc n) none =
    let first : a + 0 ≡ a = omega arith in
    rw (sym (ap test first) ∙ none 0 (omega arith))
    (none-in test (a + 1) n (λ i lt. let at : a + suc i ≡ a + 1 + i = omega arith in sym (ap test at) ∙ none (suc i) (omega arith)))

-- no block before the next local page has a local page
pub block-before : (base per page next b : ℕ) (cs : List Writes) → IsNextLocal base cs page next → page ≤ b * per + 1
    → ((b * per + per < next) ⊎ (view_size base cs < next)) → has_local per base cs b ≡ false
block-before base per page next b cs is low high =
    none-in (λ p. not (is_base base cs p)) (b * per + 1) (min per (view_size base cs - b * per)) (λ i lt.
    ap not (is.before (b * per + 1 + i) (omega arith) (elim high [ inl early ↦ omega arith | inr past ↦ omega arith ])))

-- its own block has one
pub block-there : (base per page next : ℕ) (cs : List Writes) → 1 ≤ per → 1 ≤ page → IsNextLocal base cs page next → next ≤ view_size base cs → has_local per base cs ((next - 1) / per) ≡ true
block-there base per page next cs some first is inside =
    let from : page ≤ next = is.from in
    let b : ℕ = (next - 1) / per in
    let low : b * per ≤ next - 1 = div-mul-le_self (next - 1) per in
    let high : next - 1 < b * per + per = omega arith in
    let at : b * per + 1 + (next - 1 - b * per) ≡ next = omega arith in
    any-found (λ p. not (is_base base cs p)) (b * per + 1) (min per (view_size base cs - b * per)) (next - 1 - b * per) (omega arith)
    (ap (λ p. not (is_base base cs p)) at ∙ ap not is.found)

ceil-above : (b per size : ℕ) → 1 ≤ per → b * per < size → b < div_ceil size per
ceil-above b per size some less =
    elim (cases_lt b (div_ceil size per)) [
      | inl lt ↦ lt
      | inr ge ↦
          elim (cases_lt 0 (size % per)) [
            | inl part ↦
                let up : (size / per + 1) * per ≤ b * per = mul-le-mul_right per (let le : size / per + 1 ≤ b = omega arith in le) in
                absurd (omega (arith, suc-times (size / per) per))
            | inr whole ↦
                let up : size / per * per ≤ b * per = mul-le-mul_right per (let le : size / per ≤ b = omega arith in le) in
                absurd (omega arith)
          ]
    ]

-- the block of the next local page from a block's first page on
pub block-next : (base per start next size : ℕ) (cs : List Writes) → size ≡ view_size base cs → 1 ≤ per → IsNextLocal base cs (start * per + 1) next → next ≤ size
    → IsNextBlock (has_local per base cs) (div_ceil size per) start ((next - 1) / per)
block-next base per start next size cs is some found inside =
    let b : ℕ = (next - 1) / per in
    let from : start * per + 1 ≤ next = found.from in
    let low : b * per ≤ next - 1 = div-mul-le_self (next - 1) per in
    let high : next - 1 < b * per + per = omega arith in
    record {
      from = elim (cases_lt b start) [
        | inl lt ↦ let more : (b + 1) * per ≤ start * per = mul-le-mul_right per (let le : b + 1 ≤ start = omega arith in le) in absurd (omega (arith, suc-times b per))
        | inr ge ↦ ge
      ];
      inside = ceil-above b per size some (omega arith);
      passes = block-there base per (start * per + 1) next cs some (omega arith) found (omega arith);
      before = λ d from lt. block-before base per (start * per + 1) next d cs found
          (omega (arith, mul-le-mul_right per from))
          (inl (let more : (d + 1) * per ≤ b * per = mul-le-mul_right per (let le : d + 1 ≤ b = omega arith in le) in omega (arith, suc-times d per)));
    }

-- no block from one on holds a local page
pub no-block : (base per start next size b : ℕ) (cs : List Writes) → size ≡ view_size base cs → IsNextLocal base cs (start * per + 1) next → size < next → start ≤ b
    → has_local per base cs b ≡ false
no-block base per start next size b cs is found past from =
    block-before base per (start * per + 1) next b cs found (omega (arith, mul-le-mul_right per from)) (inr (omega arith))

-- ---- the numbers that pass a test, up to the next one
filter-skip : (test : ℕ → Bool) (a n : ℕ) → ((b : ℕ) → a ≤ b → b < a + n → test b ≡ false) → filter test (range_with_len 0 (a + n)) ≡ filter test (range_with_len 0 a)
filter-skip test a zero none = let at : a + 0 ≡ a = omega arith in ap (λ m. filter test (range_with_len 0 m)) at
filter-skip test a (suc n) none =
    let at : a + suc n ≡ a + n + 1 = omega arith in
    ap (λ m. filter test (range_with_len 0 m)) at ∙ filter-more test (a + n)
    ∙ rw (none (a + n) (omega arith) (omega arith)) (append-nil _)
    ∙ filter-skip test a n (λ b low lt. none b low (omega arith))

pub filter-none : (test : ℕ → Bool) (a m : ℕ) → a ≤ m → ((b : ℕ) → a ≤ b → b < m → test b ≡ false) → filter test (range_with_len 0 m) ≡ filter test (range_with_len 0 a)
filter-none test a m le none =
    let at : a + (m - a) ≡ m = omega arith in
    sym (ap (λ n. filter test (range_with_len 0 n)) at) ∙ filter-skip test a (m - a) (λ b low lt. none b low (omega arith))

pub filter-next : (test : ℕ → Bool) (a count b : ℕ) → IsNextBlock test count a b → filter test (range_with_len 0 (b + 1)) ≡ filter test (range_with_len 0 a) ++ b ∷ []
filter-next test a count b is = filter-more test b ∙ rw is.passes (ap (λ (ns : List ℕ). ns ++ b ∷ []) (filter-none test a b is.from is.before))
