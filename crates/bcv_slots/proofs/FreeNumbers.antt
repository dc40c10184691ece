-- The least free number is among those from 1 to one more than there are slots.
use Rattle.std.proofs.Common.{◌≡◌, ◌==◌, ℕ, zero, suc, ◌+◌, ◌<◌, ◌≤◌, Bool, true, false, true≢false, not, cond, ◌||◌, List, [], ◌∷◌, length, filter, find, Some, refl, sym, ap, ◌∙◌, subst, arith, inl, inr}
use Rattle.std.proofs.lemmas.Bool.{cases_eq, eqb-true, ne_eqb}
use Rattle.std.specs.List.{range_with_len}
use Rattle.bcv_slots.specs.Numbered.{has_number, least_free}

-- the numbers but for one
abbrev others : ℕ → List ℕ → List ℕ
others n ns = filter (λ (x : ℕ). not (x == n)) ns

no_longer : (n : ℕ) (ns : List ℕ) → length (others n ns) ≤ length ns
no_longer n [] = omega arith
no_longer n (x ∷ ns) =
    elim (x == n) as (λ (b : Bool). length (cond (not b) (x ∷ others n ns) (others n ns)) ≤ length (x ∷ ns)) [
      | true ↦ (let e = no_longer n ns in omega (arith, e))
      | false ↦ (let e = no_longer n ns in omega (arith, e))
    ]

shorter : (n : ℕ) (ns : List ℕ) → has_number n ns ≡ true → length (others n ns) + 1 ≤ length ns
shorter n [] has = absurd (true≢false (sym has))
shorter n (x ∷ ns) has =
    elim (x == n) as (λ (b : Bool). (b || has_number n ns) ≡ true → length (cond (not b) (x ∷ others n ns) (others n ns)) + 1 ≤ length (x ∷ ns)) [
      | true ↦ λ h. (let e = no_longer n ns in omega (arith, e))
      | false ↦ λ h. (let e = shorter n ns h in omega (arith, e))
    ] has

still_has : (k n : ℕ) (ns : List ℕ) → (k ≡ n → ⊥) → has_number k (others n ns) ≡ has_number k ns
still_has k n [] ne = refl
still_has k n (x ∷ ns) ne =
    elim (x == n) as (λ (b : Bool). (x == n) ≡ b → has_number k (cond (not b) (x ∷ others n ns) (others n ns)) ≡ ((x == k) || has_number k ns)) [
      | true ↦ λ e. still_has k n ns ne ∙ ap (λ (b : Bool). b || has_number k ns) (sym (ne_eqb x k (λ same. ne (sym same ∙ eqb-true x n e))))
      | false ↦ λ e. ap (λ (b : Bool). (x == k) || b) (still_has k n ns ne)
    ] refl

-- a list that has all numbers up to n is as long
as_long : (n : ℕ) (ns : List ℕ) → ((k : ℕ) → 1 ≤ k → k ≤ n → has_number k ns ≡ true) → n ≤ length ns
as_long zero ns has = omega arith
as_long (suc n) ns has =
    let less = shorter (suc n) ns (has (suc n) (omega arith) (omega arith)) in
    let most = as_long n (others (suc n) ns) (λ k low high. still_has k (suc n) ns (λ same. absurd (omega (arith, same, high))) ∙ has k low (omega (arith, high))) in omega (arith, less, most)

-- ---- the search

-- all numbers from 1 below this one are taken
abbrev pub AreTaken : List ℕ → ℕ → Type 0
AreTaken ns n = (k : ℕ) → 1 ≤ k → k < n → has_number k ns ≡ true

pub none_below : (ns : List ℕ) → AreTaken ns 1
none_below ns k low high = absurd (omega (arith, low, high))

pub taken_more : (ns : List ℕ) (n : ℕ) → AreTaken ns n → has_number n ns ≡ true → AreTaken ns (n + 1)
taken_more ns n below at k low high =
    elim (cases_eq k n) as (λ _. has_number k ns ≡ true) [
      | inl same ↦ subst (λ j. has_number j ns ≡ true) (sym same) at
      | inr other ↦ below k low (less other)
    ]
  where
    less : (k ≡ n → ⊥) → k < n
    less ne = omega (arith, ne, high)

found_from : (test : ℕ → Bool) (from count n : ℕ) → from ≤ n → n < from + count → ((k : ℕ) → from ≤ k → k < n → test k ≡ false) → test n ≡ true
    → find test (range_with_len from count) ≡ Some n
found_from test from zero n low high before is = absurd (omega (arith, low, high))
found_from test from (suc count) n low high before is =
    elim (cases_eq from n) as (λ _. find test (range_with_len from (suc count)) ≡ Some n) [
      | inl same ↦ ap (λ (b : Bool). cond b (Some from) (find test (range_with_len (from + 1) count))) (ap test same ∙ is) ∙ ap (λ (k : ℕ). Some k) same
      | inr other ↦ ap (λ (b : Bool). cond b (Some from) (find test (range_with_len (from + 1) count))) (before from (omega arith) (less other)) ∙ found_from test (from + 1) count n (later other) (omega (arith, high)) (λ k l h. before k (omega (arith, l)) h) is
    ]
  where
    less : (from ≡ n → ⊥) → from < n
    less ne = omega (arith, ne, low)

    later : (from ≡ n → ⊥) → from + 1 ≤ n
    later ne = omega (arith, ne, low)

-- a free number, below which all are taken, is the least
pub is_least : (ns : List ℕ) (n : ℕ) → 1 ≤ n → n ≤ length ns + 1 → AreTaken ns n → has_number n ns ≡ false → least_free ns ≡ Some n
is_least ns n low high below free =
    found_from (λ k. not (has_number k ns)) 1 (length ns + 1) n low (omega (arith, high)) (λ k l h. ap not (below k l h)) (ap not free)

free_last : (ns : List ℕ) → AreTaken ns (length ns + 1) → (b : Bool) → has_number (length ns + 1) ns ≡ b → b ≡ false
free_last ns below true has =
    let long : length ns + 1 ≤ length ns = as_long (length ns + 1) ns (λ k low high. all k low high) in absurd (omega (arith, long))
  where
    all : (k : ℕ) → 1 ≤ k → k ≤ length ns + 1 → has_number k ns ≡ true
    all k low high = taken_more ns (length ns + 1) below has k low (omega (arith, high))
free_last ns below false has = refl

-- where all numbers up to how many there are are taken, the next one is the least
pub is_last : (ns : List ℕ) → AreTaken ns (length ns + 1) → least_free ns ≡ Some (length ns + 1)
is_last ns below =
    is_least ns (length ns + 1) (omega arith) (omega arith) below (free_last ns below (has_number (length ns + 1) ns) refl)
