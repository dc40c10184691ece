-- The numbers of open transactions: which one is free.
use Rattle.std.proofs.Common.{◌≡◌, ◌==◌, ◌∙◌, ℕ, zero, suc, ◌+◌, ◌<◌, ◌≤◌, Bool, true, false, true≢false, not, cond, ◌||◌, List, [], ◌∷◌, length, filter, find, Some, refl, sym, ap, subst, arith, inl, inr}
use Rattle.std.proofs.lemmas.Bool.{cases_eq, eqb-true, ne_eqb}
use Rattle.std.proofs.lemmas.List.{length-map}
use Rattle.std.specs.List.{list_any, range_with_len}
use Rattle.bcv_machine.specs.State.{has_number, least_free}
use Rattle.bcv_transaction.specs.declared.open_txn.OpenTxn.{OpenTxn}
use Rattle.bcv_transaction.specs.Open.{numbers_of}

-- a look-up of a number goes over the transactions
pub numbers_any : (n : ℕ) (ts : List OpenTxn) → has_number n (numbers_of ts) ≡ list_any (λ (t : OpenTxn). t.number == n) ts
numbers_any n [] = refl
numbers_any n (t ∷ ts) = ap (λ (b : Bool). (t.number == n) || b) (numbers_any n ts)

-- ---- fewer numbers than places

-- the numbers but for one
abbrev others : ℕ → List ℕ → List ℕ
others n ns = filter (λ (x : ℕ). not (x == n)) ns

no_longer : (n : ℕ) (ns : List ℕ) → length (others n ns) ≤ length ns
no_longer n [] = omega arith
no_longer n (x ∷ ns) =
    elim (x == n) as (λ (b : Bool). length (cond (not b) (x ∷ others n ns) (others n ns)) ≤ length (x ∷ ns)) [
      | true ↦ (let e = no_longer n ns in omega (arith, e))
      | false ↦ (let e = no_longer n ns in omega (arith, e))
    ]

shorter : (n : ℕ) (ns : List ℕ) → has_number n ns ≡ true → length (others n ns) + 1 ≤ length ns
shorter n [] has = absurd (true≢false (sym has))
shorter n (x ∷ ns) has =
    elim (x == n) as (λ (b : Bool). (b || has_number n ns) ≡ true → length (cond (not b) (x ∷ others n ns) (others n ns)) + 1 ≤ length (x ∷ ns)) [
      | true ↦ λ h. (let e = no_longer n ns in omega (arith, e))
      | false ↦ λ h. (let e = shorter n ns h in omega (arith, e))
    ] has

still_has : (k n : ℕ) (ns : List ℕ) → (k ≡ n → ⊥) → has_number k (others n ns) ≡ has_number k ns
still_has k n [] ne = refl
still_has k n (x ∷ ns) ne =
    elim (x == n) as (λ (b : Bool). (x == n) ≡ b → has_number k (cond (not b) (x ∷ others n ns) (others n ns)) ≡ ((x == k) || has_number k ns)) [
      | true ↦ λ e. still_has k n ns ne ∙ ap (λ (b : Bool). b || has_number k ns) (sym (ne_eqb x k (λ same. ne (sym same ∙ eqb-true x n e))))
      | false ↦ λ e. ap (λ (b : Bool). (x == k) || b) (still_has k n ns ne)
    ] refl

-- a list that has all numbers up to n is as long
as_long : (n : ℕ) (ns : List ℕ) → ((k : ℕ) → 1 ≤ k → k ≤ n → has_number k ns ≡ true) → n ≤ length ns
as_long zero ns has = omega arith
as_long (suc n) ns has =
    let less = shorter (suc n) ns (has (suc n) (omega arith) (omega arith)) in
    let most = as_long n (others (suc n) ns) (λ k low high. still_has k (suc n) ns (λ same. absurd (omega (arith, same, high))) ∙ has k low (omega (arith, high))) in omega (arith, less, most)

-- fewer than 64 transactions do not have all numbers up to 64
pub not_all_taken : (ts : List OpenTxn) → length ts < 64 → ((k : ℕ) → 1 ≤ k → k < 65 → has_number k (numbers_of ts) ≡ true) → ⊥
not_all_taken ts few has =
    let most = as_long 64 (numbers_of ts) (λ k low high. has k low (omega (arith, high))) in
    let same : length (numbers_of ts) ≡ length ts = length-map ts (λ (t : OpenTxn). t.number) in absurd (omega (arith, few, most, same))

-- one more number is taken
pub taken_more : (ns : List ℕ) (n : ℕ) → ((k : ℕ) → 1 ≤ k → k < n → has_number k ns ≡ true) → has_number n ns ≡ true → (k : ℕ) → 1 ≤ k → k < n + 1 → has_number k ns ≡ true
taken_more ns n below at k low high =
    elim (cases_eq k n) as (λ _. has_number k ns ≡ true) [
      | inl same ↦ subst (λ j. has_number j ns ≡ true) (sym same) at
      | inr other ↦ below k low (less other)
    ]
  where
    less : (k ≡ n → ⊥) → k < n
    less ne = omega (arith, ne, high)

-- ---- the least free number

-- the first number from a start on that is free, where all before it are taken
first_free : (ns : List ℕ) (count start n : ℕ) → ((k : ℕ) → start ≤ k → k < n → has_number k ns ≡ true) → has_number n ns ≡ false → start ≤ n → n < start + count
    → find (λ (k : ℕ). not (has_number k ns)) (range_with_len start count) ≡ Some n
first_free ns zero start n taken free low high = absurd (omega (arith, low, high))
first_free ns (suc count) start n taken free low high =
    elim (cases_eq start n) as (λ _. find (λ (k : ℕ). not (has_number k ns)) (range_with_len start (suc count)) ≡ Some n) [
      | inl same ↦ (let none : has_number start ns ≡ false = subst (λ (k : ℕ). has_number k ns ≡ false) (sym same) free in
          ap (λ (b : Bool). cond (not b) (Some start) (find (λ (k : ℕ). not (has_number k ns)) (range_with_len (start + 1) count))) none ∙ ap (λ (k : ℕ). Some k) same)
      | inr other ↦ (let there : has_number start ns ≡ true = taken start (omega arith) (omega (arith, low, other)) in
          ap (λ (b : Bool). cond (not b) (Some start) (find (λ (k : ℕ). not (has_number k ns)) (range_with_len (start + 1) count))) there
          ∙ first_free ns count (start + 1) n (λ k from below. taken k (omega (arith, from)) below) free (omega (arith, low, other)) (omega (arith, high)))
    ]

pub least_is : (ns : List ℕ) (n : ℕ) → 1 ≤ n → ((k : ℕ) → 1 ≤ k → k < n → has_number k ns ≡ true) → has_number n ns ≡ false → least_free ns ≡ Some n
least_is ns n low taken free =
    let most = as_long (below n) ns (λ k from upto. taken k from (within n low k upto)) in
    first_free ns (length ns + 1) 1 n taken free low (bound n low most)
  where
    below : ℕ → ℕ
    below zero = zero
    below (suc m) = m

    within : (m : ℕ) → 1 ≤ m → (k : ℕ) → k ≤ below m → k < m
    within zero some k le = absurd (omega (arith, some))
    within (suc m) some k le = omega (arith, le)

    bound : (m : ℕ) → 1 ≤ m → below m ≤ length ns → m < 1 + (length ns + 1)
    bound zero some le = omega arith
    bound (suc m) some le = omega (arith, le)
