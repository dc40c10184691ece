-- Where a page stands among pages that ascend.
use Rattle.std.proofs.Common.{◌≡◌, ℕ, zero, suc, ◌+◌, ◌<◌, ◌≤◌, Bool, true, false, nat_lt, nat_le, ◌&&◌, List, [], ◌∷◌, ◌++◌, length, get_or, set, take, drop, Some, None, Result, Ok, Err, MatchResult, ◌==◌, eq-eqb, drop-cons, inl, inr, refl, sym, ◌∙◌, ap, add-one, arith}
use Rattle.std.specs.List.{filter, insert}
use Rattle.std.specs.List.Sorted.{IsSearchInRange, IsBinarySearchResult, IsNonDecreasingBy}
use Rattle.std.specs.Ordering.{nat_cmp, ordering_index}
use Rattle.std.proofs.lemmas.Bool.{and_parts, cases_lt}
use Rattle.std.proofs.lemmas.Bool.Decides.{nat_tests}
use Rattle.std.proofs.lemmas.Cmp.{ranked}
use Rattle.std.proofs.lemmas.List.{take-append-drop, get_or_default}
use Rattle.std.proofs.lemmas.List.Sorted.{IsNonDecreasingBy-from_default}
use Rattle.bcv_base.specs.Image.{Page, written}
use Rattle.bcv_base.specs.Views.{ascends}
use Rattle.bcv_pages.specs.Placed.{below, above, number_at, IsAscending, IsAt, IsGap}

pub take-nil : {X : Type 0} (i : ℕ) → take {A = X} i [] ≡ []
take-nil zero = refl
take-nil (suc i) = refl

pub drop-nil : {X : Type 0} (i : ℕ) → drop {A = X} i [] ≡ []
drop-nil zero = refl
drop-nil (suc i) = refl

-- the front of a list is what passes a test, where the test tells it from the rest
pub take-filter : {X : Type 0} (test : X → Bool) (ws : List X) (i : ℕ) (d : X) → i ≤ length ws → ((j : ℕ) → j < i → test (get_or ws j d) ≡ true)
    → ((j : ℕ) → i ≤ j → j < length ws → test (get_or ws j d) ≡ false) → take i ws ≡ filter test ws
take-filter test [] i d inside passes fails = take-nil i
take-filter test (w ∷ ws) zero d inside passes fails =
    rw (fails 0 (omega arith) (omega arith)) (take-filter test ws 0 d (omega arith) (λ j lt. absurd (omega arith)) (λ j le lt. fails (suc j) (omega arith) (omega arith)))
take-filter test (w ∷ ws) (suc i) d inside passes fails =
    rw (passes 0 (omega arith)) (ap (λ xs. w ∷ xs) (take-filter test ws i d (omega arith) (λ j lt. passes (suc j) (omega arith)) (λ j le lt. fails (suc j) (omega arith) (omega arith))))

-- and so is its rest
pub drop-filter : {X : Type 0} (test : X → Bool) (ws : List X) (i : ℕ) (d : X) → i ≤ length ws → ((j : ℕ) → j < i → test (get_or ws j d) ≡ false)
    → ((j : ℕ) → i ≤ j → j < length ws → test (get_or ws j d) ≡ true) → drop i ws ≡ filter test ws
drop-filter test [] i d inside fails passes = drop-nil i
drop-filter test (w ∷ ws) zero d inside fails passes =
    rw (passes 0 (omega arith) (omega arith)) (ap (λ xs. w ∷ xs) (drop-filter test ws 0 d (omega arith) (λ j lt. absurd (omega arith)) (λ j le lt. passes (suc j) (omega arith) (omega arith))))
drop-filter test (w ∷ ws) (suc i) d inside fails passes =
    rw (fails 0 (omega arith)) (drop-filter test ws i d (omega arith) (λ j lt. fails (suc j) (omega arith)) (λ j le lt. passes (suc j) (omega arith) (omega arith)))

-- the first number is between the bounds, and the others ascend above it
pub ascends-parts : (low high : ℕ) (w : ℕ × Page) (ws : List (ℕ × Page)) → ascends low high (w ∷ ws) ≡ true → (low < w.0) × (w.0 ≤ high) × (ascends w.0 high ws ≡ true)
ascends-parts low high w ws up =
    let all = and_parts (nat_lt low w.0 && nat_le w.0 high) (ascends w.0 high ws) up in
    let ends = and_parts (nat_lt low w.0) (nat_le w.0 high) all.0 in
    let first : nat_lt low w.0 ≡ true = ends.0 in
    let second : nat_le w.0 high ≡ true = ends.1 in
    let rest : ascends w.0 high ws ≡ true = all.1 in
    (grind (arith, nat_tests), grind (arith, nat_tests), rest)

-- the numbers of a commit ascend
above-low : (low high : ℕ) (ws : List (ℕ × Page)) (i : ℕ) → ascends low high ws ≡ true → i < length ws → low < number_at ws i
above-low low high [] i up inside = absurd (omega arith)
above-low low high (w ∷ ws) zero up inside = (ascends-parts low high w ws up).0
above-low low high (w ∷ ws) (suc i) up inside =
    let parts = ascends-parts low high w ws up in
    omega (arith, parts.0, above-low w.0 high ws i parts.2 (omega arith))

pub IsAscending-from_ascends : (low high : ℕ) (ws : List (ℕ × Page)) → ascends low high ws ≡ true → IsAscending ws
IsAscending-from_ascends low high [] up i j lt inside = absurd (omega arith)
IsAscending-from_ascends low high (w ∷ ws) up zero (suc j) lt inside = above-low w.0 high ws j (ascends-parts low high w ws up).2 (omega arith)
IsAscending-from_ascends low high (w ∷ ws) up (suc i) (suc j) lt inside =
    IsAscending-from_ascends w.0 high ws (ascends-parts low high w ws up).2 i j (omega arith) (omega arith)
IsAscending-from_ascends low high (w ∷ ws) up i zero lt inside = absurd (omega arith)

module _ (ws : List (ℕ × Page)) (up : IsAscending ws) (p : ℕ) where
  comparisons_rise : IsNonDecreasingBy (λ (w : ℕ × Page). ordering_index (nat_cmp w.0 p)) ws
  comparisons_rise = IsNonDecreasingBy-from_default (λ (w : ℕ × Page). ordering_index (nat_cmp w.0 p)) ws (0, []) (λ i j le inside.
      let rise : number_at ws i ≤ number_at ws j = grind (arith, up i j, λ (same : i ≡ j). ap (number_at ws) same) in
      grind (arith, nat_tests))

  not-below : (i j : ℕ) → i < length ws → number_at ws i ≡ p → i ≤ j → j < length ws → p ≤ number_at ws j
  not-below i j inside number le lt = grind (arith, up i j, λ (same : i ≡ j). ap (number_at ws) same)

  not-above : (i j : ℕ) → i < length ws → number_at ws i ≡ p → j ≤ i → number_at ws j ≤ p
  not-above i j inside number le = grind (arith, up j i, λ (same : j ≡ i). ap (number_at ws) same)

  at-place : (i : ℕ) → i < length ws → number_at ws i ≡ p → IsAt ws p i
  at-place i inside number =
      record {
        inside = inside;
        number = number;
        front = take-filter (λ (w : ℕ × Page). nat_lt w.0 p) ws i (0, []) (omega arith)
            (λ j lt. let smaller : number_at ws j < number_at ws i = up j i lt inside in grind (arith, nat_tests))
            (λ j le lt. let not_smaller : p ≤ number_at ws j = not-below i j inside number le lt in grind (arith, nat_tests));
        back = drop-filter (λ (w : ℕ × Page). nat_lt p w.0) ws (i + 1) (0, []) (omega arith)
            (λ j lt. let not_greater : number_at ws j ≤ p = not-above i j inside number (omega arith) in grind (arith, nat_tests))
            (λ j le lt. let greater : number_at ws i < number_at ws j = up i j (omega arith) lt in grind (arith, nat_tests));
      }

  in-gap : (i : ℕ) → i ≤ length ws → ((j : ℕ) → j < i → number_at ws j < p) → ((j : ℕ) → i ≤ j → j < length ws → p < number_at ws j) → IsGap ws p i
  in-gap i inside smaller greater =
      record {
        inside = inside;
        front = take-filter (λ (w : ℕ × Page). nat_lt w.0 p) ws i (0, []) inside
            (λ j lt. let less : number_at ws j < p = smaller j lt in grind (arith, nat_tests))
            (λ j le lt. let more : p < number_at ws j = greater j le lt in grind (arith, nat_tests));
        back = drop-filter (λ (w : ℕ × Page). nat_lt p w.0) ws i (0, []) inside
            (λ j lt. let less : number_at ws j < p = smaller j lt in grind (arith, nat_tests))
            (λ j le lt. let more : p < number_at ws j = greater j le lt in grind (arith, nat_tests));
      }

  -- a binary search by number ends at the page, or at the gap for it
  pub searched : (r : Result ℕ ℕ) → IsSearchInRange r (length ws) → IsBinarySearchResult (λ (w : ℕ × Page). nat_cmp w.0 p) ws r → MatchResult r (λ i. IsAt ws p i) (λ i. IsGap ws p i)
  searched (Ok at) inside equal = at-place at inside (ranked _ p _ (sym (equal (0, []))))
  searched (Err at) inside parted =
      let parts = parted comparisons_rise in
      in-gap at inside (λ j lt. ranked _ p _ (sym (parts.0 j (0, []) (omega arith) lt))) (λ j le lt. ranked _ p _ (sym (parts.1 j (0, []) le lt)))

-- what is written under a number is what stands at its place
written-skips : (p : ℕ) (ws us : List (ℕ × Page)) → written (below p ws ++ us) p ≡ written us p
written-skips p [] us = refl
written-skips p (w ∷ ws) us =
    elim (cases_lt w.0 p) [
      | inl less ↦
          let test : nat_lt w.0 p ≡ true = grind (arith, nat_tests) in
          let other : (w.0 == p) ≡ false = grind (arith, nat_tests) in
          rw (test, other) (written-skips p ws us)
      | inr more ↦
          let test : nat_lt w.0 p ≡ false = grind (arith, nat_tests) in
          rw test (written-skips p ws us)
    ]

written-above : (p : ℕ) (ws : List (ℕ × Page)) → written (above p ws) p ≡ None
written-above p [] = refl
written-above p (w ∷ ws) =
    elim (cases_lt p w.0) [
      | inl more ↦
          let test : nat_lt p w.0 ≡ true = grind (arith, nat_tests) in
          let other : (w.0 == p) ≡ false = grind (arith, nat_tests) in
          rw (test, other) (written-above p ws)
      | inr less ↦
          let test : nat_lt p w.0 ≡ false = grind (arith, nat_tests) in
          rw test (written-above p ws)
    ]

pub written-at : (ws : List (ℕ × Page)) (p i : ℕ) (d : ℕ × Page) → IsAt ws p i → written ws p ≡ Some (get_or ws i d).1
written-at ws p i d at =
    let split : ws ≡ below p ws ++ (get_or ws i d ∷ drop (suc i) ws) =
    sym (take-append-drop i ws) ∙ ap (λ us. take i ws ++ us) (drop-cons ws i d at.inside) ∙ ap (λ us. us ++ (get_or ws i d ∷ drop (suc i) ws)) at.front in
    let same : (get_or ws i d).0 ≡ p = ap (λ (w : ℕ × Page). w.0) (get_or_default ws i d (0, []) at.inside) ∙ at.number in
    let test : ((get_or ws i d).0 == p) ≡ true = eq-eqb _ _ same in
    ap (λ us. written us p) split ∙ written-skips p ws (get_or ws i d ∷ drop (suc i) ws) ∙ rw test refl

pub written-gap : (ws : List (ℕ × Page)) (p i : ℕ) → IsGap ws p i → written ws p ≡ None
written-gap ws p i gap =
    let split : ws ≡ below p ws ++ above p ws = sym (take-append-drop i ws) ∙ ap (λ us. us ++ drop i ws) gap.front ∙ ap (λ us. below p ws ++ us) gap.back in
    ap (λ us. written us p) split ∙ written-skips p ws (above p ws) ∙ written-above p ws

set-split : {X : Type 0} (xs : List X) (i : ℕ) (x : X) → i < length xs → set xs i x ≡ take i xs ++ x ∷ drop (suc i) xs
set-split [] i x inside = absurd (omega arith)
set-split (y ∷ xs) zero x inside = refl
set-split (y ∷ xs) (suc i) x inside = ap (λ ys. y ∷ ys) (set-split xs i x (omega arith))

-- a page put at its place, over the one that stood there or in the gap
pub put-at : (ws : List (ℕ × Page)) (p i : ℕ) (w : ℕ × Page) → IsAt ws p i → set ws i w ≡ below p ws ++ w ∷ above p ws
put-at ws p i w at =
    set-split ws i w at.inside ∙ ap (λ us. us ++ w ∷ drop (suc i) ws) at.front ∙ ap (λ us. below p ws ++ w ∷ us) (ap (λ n. drop n ws) (sym (add-one i)) ∙ at.back)

pub put-gap : (ws : List (ℕ × Page)) (p i : ℕ) (w : ℕ × Page) → IsGap ws p i → insert ws i w ≡ below p ws ++ w ∷ above p ws
put-gap ws p i w gap = ap (λ us. us ++ w ∷ drop i ws) gap.front ∙ ap (λ us. below p ws ++ w ∷ us) gap.back
