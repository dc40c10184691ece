-- What stays true of the writes of a transaction.
use Rattle.std.proofs.Common.{◌≡◌, ℕ, ◌<◌, ◌≤◌, Bool, true, false, nat_lt, nat_le, cond, ◌==◌, List, [], ◌∷◌, ◌++◌, length, inl, inr, refl, ap, subst, eq-eqb, arith}
use Rattle.std.specs.List.{filter, list_all}
use Rattle.std.proofs.lemmas.Bool.{and_parts, cases_lt, cases_order}
use Rattle.std.proofs.lemmas.Bool.Decides.{nat_tests}
use Rattle.std.proofs.lemmas.List.Folds.{list_all-append}
use Rattle.bcv_base.specs.Image.{Page}
use Rattle.bcv_base.specs.Views.{ascends, have_size, is_commit}
use Rattle.bcv_pages.specs.Placed.{below, above}
use Rattle.bcv_pages.proofs.Places.{ascends-parts}

ascends-cons : (low high : ℕ) (w : ℕ × Page) (ws : List (ℕ × Page)) → low < w.0 → w.0 ≤ high → ascends w.0 high ws ≡ true → ascends low high (w ∷ ws) ≡ true
ascends-cons low high w ws more most up =
    let first : nat_lt low w.0 ≡ true = grind (arith, nat_tests) in
    let second : nat_le w.0 high ≡ true = grind (arith, nat_tests) in
    rw (first, second) up

list_all-filter : {X : Type 0} (test keep : X → Bool) (xs : List X) → list_all test xs ≡ true → list_all test (filter keep xs) ≡ true
list_all-filter test keep [] all = refl
list_all-filter test keep (x ∷ xs) all =
    let parts = and_parts (test x) (list_all test xs) all in
    elim (keep x) as (λ b. list_all test (cond b (x ∷ filter keep xs) (filter keep xs)) ≡ true) [
      | true ↦ rw parts.0 (list_all-filter test keep xs parts.1)
      | false ↦ list_all-filter test keep xs parts.1
    ]

-- none of the pages that ascend above a size is up to it
none-upto : (size low high : ℕ) (ws : List (ℕ × Page)) → ascends low high ws ≡ true → size ≤ low → filter (λ w. nat_le w.0 size) ws ≡ []
none-upto size low high [] up le = refl
none-upto size low high (w ∷ ws) up le =
    let parts = ascends-parts low high w ws up in
    let test : nat_le w.0 size ≡ false = grind (arith, nat_tests) in
    rw test (none-upto size w.0 high ws parts.2 (omega arith))

-- the pages up to a size ascend up to it
ascends-upto : (low high size : ℕ) (ws : List (ℕ × Page)) → ascends low high ws ≡ true → ascends low size (filter (λ w. nat_le w.0 size) ws) ≡ true
ascends-upto low high size [] up = refl
ascends-upto low high size (w ∷ ws) up =
    let parts = ascends-parts low high w ws up in
    elim (cases_lt size w.0) [
      | inl past ↦
          let test : nat_le w.0 size ≡ false = grind (arith, nat_tests) in
          rw (test, none-upto size w.0 high ws parts.2 (omega arith)) refl
      | inr within ↦
          let test : nat_le w.0 size ≡ true = grind (arith, nat_tests) in
          rw test (ascends-cons low size w _ parts.0 within (ascends-upto w.0 high size ws parts.2))
    ]

-- none of the pages that ascend above p is below it, and each is above it
none-below : (p low high : ℕ) (ws : List (ℕ × Page)) → ascends low high ws ≡ true → p ≤ low → below p ws ≡ []
none-below p low high [] up le = refl
none-below p low high (w ∷ ws) up le =
    let parts = ascends-parts low high w ws up in
    let test : nat_lt w.0 p ≡ false = grind (arith, nat_tests) in
    rw test (none-below p w.0 high ws parts.2 (omega arith))

all-above : (p low high : ℕ) (ws : List (ℕ × Page)) → ascends low high ws ≡ true → p ≤ low → above p ws ≡ ws
all-above p low high [] up le = refl
all-above p low high (w ∷ ws) up le =
    let parts = ascends-parts low high w ws up in
    let test : nat_lt p w.0 ≡ true = grind (arith, nat_tests) in
    rw test (ap (λ us. w ∷ us) (all-above p w.0 high ws parts.2 (omega arith)))

-- with a page in its place the pages still ascend
ascends-with : (low high p : ℕ) (bytes : Page) (ws : List (ℕ × Page)) → ascends low high ws ≡ true → low < p → p ≤ high
    → ascends low high (below p ws ++ (p, bytes) ∷ above p ws) ≡ true
ascends-with low high p bytes [] up more most = ascends-cons low high (p, bytes) [] more most refl
ascends-with low high p bytes (w ∷ ws) up more most =
    let parts = ascends-parts low high w ws up in
    elim (cases_order w.0 p) [
      | inl same ↦
          let first : nat_lt w.0 p ≡ false = grind (arith, nat_tests) in
          let second : nat_lt p w.0 ≡ false = grind (arith, nat_tests) in
          rw (first, second, none-below p w.0 high ws parts.2 (omega arith), all-above p w.0 high ws parts.2 (omega arith))
          (ascends-cons low high (p, bytes) ws more most (subst (λ n. ascends n high ws ≡ true) same parts.2))
      | inr (inl less) ↦
          let first : nat_lt w.0 p ≡ true = grind (arith, nat_tests) in
          let second : nat_lt p w.0 ≡ false = grind (arith, nat_tests) in
          rw (first, second) (ascends-cons low high w _ parts.0 parts.1 (ascends-with w.0 high p bytes ws parts.2 less most))
      | inr (inr greater) ↦
          let first : nat_lt w.0 p ≡ false = grind (arith, nat_tests) in
          let second : nat_lt p w.0 ≡ true = grind (arith, nat_tests) in
          rw (first, second, none-below p w.0 high ws parts.2 (omega arith), all-above p w.0 high ws parts.2 (omega arith))
          (ascends-cons low high (p, bytes) (w ∷ ws) more most (ascends-cons p high w ws greater parts.1 parts.2))
    ]

pub is_commit-upto : (page_size high size : ℕ) (ws : List (ℕ × Page)) → is_commit page_size (record { size = high; pages = ws }) ≡ true
    → is_commit page_size (record { size = size; pages = filter (λ w. nat_le w.0 size) ws }) ≡ true
is_commit-upto page_size high size ws well =
    let parts = and_parts (ascends 0 high ws) (have_size page_size ws) well in
    rw (ascends-upto 0 high size ws parts.0) (list_all-filter (λ (w : ℕ × Page). length w.1 == page_size) (λ w. nat_le w.0 size) ws parts.1)

pub is_commit-with : (page_size size p : ℕ) (bytes : Page) (ws : List (ℕ × Page)) → is_commit page_size (record { size = size; pages = ws }) ≡ true
    → 0 < p → p ≤ size → length bytes ≡ page_size → is_commit page_size (record { size = size; pages = below p ws ++ (p, bytes) ∷ above p ws }) ≡ true
is_commit-with page_size size p bytes ws well low high len =
    let parts = and_parts (ascends 0 size ws) (have_size page_size ws) well in
    let test : ℕ × Page → Bool = λ w. length w.1 == page_size in
    let first = list_all-filter test (λ w. nat_lt w.0 p) ws parts.1 in
    let rest = list_all-filter test (λ w. nat_lt p w.0) ws parts.1 in
    rw (ascends-with 0 size p bytes ws parts.0 low high, list_all-append test (below p ws) ((p, bytes) ∷ above p ws), first, eq-eqb (length bytes) page_size len) rest
