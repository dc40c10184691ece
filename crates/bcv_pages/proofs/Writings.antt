-- The numbers of the commits that write a page.
use Rattle.std.proofs.Common.{◌≡◌, ℕ, zero, suc, ◌+◌, ◌-◌, ◌<◌, ◌≤◌, Bool, true, false, nat_lt, nat_le, cond, List, [], ◌∷◌, ◌++◌, length, take, drop, get_or, Some, None, is_some, inl, inr, refl, sym, ◌∙◌, ap, subst, arith, ◌||◌, ◌==◌, ◌≢◌, map, ne_eqb}
use Rattle.std.specs.List.{filter}
use Rattle.std.proofs.lemmas.Bool.{cases_lt}
use Rattle.std.proofs.lemmas.Bool.Decides.{nat_tests}
use Rattle.std.specs.List.Sorted.{IsPartitionedBy, IsPartitionPoint}
use Rattle.std.proofs.lemmas.List.{get_or_default, get_or-take, get_or-map, take_more, length-take}
use Rattle.bcv_pages.specs.Placed.{number_at, IsAscending}
use Rattle.bcv_pages.proofs.Places.{take-nil, drop-nil, take-filter, drop-filter}
use Rattle.bcv_base.specs.Image.{Page, Writes, written}
use Rattle.std.specs.BTreeMap.{BTreeMap}
use Rattle.std.specs.Global.{Vec}
use Rattle.bcv_pages.specs.Index.{writing, are_rising, numbers_within, listed}

writes : ℕ → Writes → Bool
writes p c = is_some (written c.pages p)

-- ---- what a filter leaves
filter-cons : (test : ℕ → Bool) (b : Bool) (n : ℕ) (ns : List ℕ) → filter test (cond b (n ∷ ns) ns) ≡ cond b (cond (test n) (n ∷ filter test ns) (filter test ns)) (filter test ns)
filter-cons test true n ns = refl
filter-cons test false n ns = refl

cond-same : {A : Type 0} (b : Bool) (x : A) → cond b x x ≡ x
cond-same true x = refl
cond-same false x = refl

-- all numbers are past one that is below the first
all-after : (upto first : ℕ) (cs : List Writes) (p : ℕ) → upto < first → filter (nat_lt upto) (writing first cs p) ≡ writing first cs p
all-after upto first [] p lt = refl
all-after upto first (c ∷ cs) p lt =
    let test : nat_lt upto first ≡ true = grind (arith, nat_tests) in
    filter-cons (nat_lt upto) (is_some (written c.pages p)) first (writing (first + 1) cs p)
    ∙ rw (test, all-after upto (first + 1) cs p (omega arith)) refl

-- without the numbers up to one
pub writing-after : (upto first : ℕ) (cs : List Writes) (p : ℕ) → first ≤ upto + 1 → filter (nat_lt upto) (writing first cs p) ≡ writing (upto + 1) (drop (upto + 1 - first) cs) p
writing-after upto first [] p le = sym (ap (λ cs. writing (upto + 1) cs p) (drop-nil (upto + 1 - first)))
writing-after upto first (c ∷ cs) p le =
    elim (cases_lt upto first) [
      | inl past ↦
          let at : first ≡ upto + 1 = omega arith in
          let none : upto + 1 - first ≡ 0 = omega arith in
          rw none (subst (λ (n : ℕ). filter (nat_lt upto) (writing first (c ∷ cs) p) ≡ writing n (c ∷ cs) p) at (all-after upto first (c ∷ cs) p past))
      | inr within ↦
          let test : nat_lt upto first ≡ false = grind (arith, nat_tests) in
          let more : upto + 1 - first ≡ suc (upto + 1 - (first + 1)) = omega arith in
          filter-cons (nat_lt upto) (is_some (written c.pages p)) first (writing (first + 1) cs p)
          ∙ ap (λ t. cond (is_some (written c.pages p)) (cond t (first ∷ filter (nat_lt upto) (writing (first + 1) cs p)) (filter (nat_lt upto) (writing (first + 1) cs p))) (filter (nat_lt upto) (writing (first + 1) cs p))) test
          ∙ cond-same (is_some (written c.pages p)) (filter (nat_lt upto) (writing (first + 1) cs p))
          ∙ writing-after upto (first + 1) cs p (omega arith)
          ∙ ap (λ n. writing (upto + 1) (drop n (c ∷ cs)) p) (sym more)
    ]

-- the numbers up to one
pub writing-upto : (to first : ℕ) (cs : List Writes) (p : ℕ) → filter (λ n. nat_le n to) (writing first cs p) ≡ writing first (take (to + 1 - first) cs) p
writing-upto to first [] p = sym (ap (λ cs. writing first cs p) (take-nil (to + 1 - first)))
writing-upto to first (c ∷ cs) p =
    elim (cases_lt to first) [
      | inl past ↦
          let test : nat_le first to ≡ false = grind (arith, nat_tests) in
          let none : to + 1 - first ≡ 0 = omega arith in
          let less : to + 1 - (first + 1) ≡ 0 = omega arith in
          filter-cons (λ n. nat_le n to) (is_some (written c.pages p)) first (writing (first + 1) cs p)
          ∙ ap (λ t. cond (is_some (written c.pages p)) (cond t (first ∷ filter (λ n. nat_le n to) (writing (first + 1) cs p)) (filter (λ n. nat_le n to) (writing (first + 1) cs p))) (filter (λ n. nat_le n to) (writing (first + 1) cs p))) test
          ∙ cond-same (is_some (written c.pages p)) (filter (λ n. nat_le n to) (writing (first + 1) cs p))
          ∙ writing-upto to (first + 1) cs p
          ∙ ap (λ n. writing (first + 1) (take n cs) p) less
          ∙ ap (λ n. writing first (take n (c ∷ cs)) p) (sym none)
      | inr within ↦
          let test : nat_le first to ≡ true = grind (arith, nat_tests) in
          let more : to + 1 - first ≡ suc (to + 1 - (first + 1)) = omega arith in
          filter-cons (λ n. nat_le n to) (is_some (written c.pages p)) first (writing (first + 1) cs p)
          ∙ ap (λ t. cond (is_some (written c.pages p)) (cond t (first ∷ filter (λ n. nat_le n to) (writing (first + 1) cs p)) (filter (λ n. nat_le n to) (writing (first + 1) cs p))) (filter (λ n. nat_le n to) (writing (first + 1) cs p))) test
          ∙ ap (λ ns. cond (is_some (written c.pages p)) (first ∷ ns) ns) (writing-upto to (first + 1) cs p)
          ∙ ap (λ n. writing first (take n (c ∷ cs)) p) (sym more)
    ]

-- the numbers of a view's commits
pub writing-within : (forgotten from to : ℕ) (cs : List Writes) (p : ℕ) → forgotten ≤ from
    → numbers_within from to (writing (forgotten + 1) cs p) ≡ writing (from + 1) (take (to - from) (drop (from - forgotten) cs)) p
writing-within forgotten from to cs p le =
    let start : from + 1 - (forgotten + 1) ≡ from - forgotten = omega arith in
    let many : to + 1 - (from + 1) ≡ to - from = omega arith in
    ap (λ ns. filter (λ n. nat_le n to) ns) (writing-after from (forgotten + 1) cs p (omega arith) ∙ ap (λ n. writing (from + 1) (drop n cs) p) start)
    ∙ writing-upto to (from + 1) (drop (from - forgotten) cs) p
    ∙ ap (λ n. writing (from + 1) (take n (drop (from - forgotten) cs)) p) many

-- the numbers are from the first one on, and rise
at-least : (b : Bool) (first low : ℕ) (ns : List ℕ) (i : ℕ) → low ≤ first → ((k : ℕ) → k < length ns → low ≤ get_or ns k 0) → i < length (cond b (first ∷ ns) ns)
    → low ≤ get_or (cond b (first ∷ ns) ns) i 0
at-least true first low ns zero le rest inside = le
at-least true first low ns (suc i) le rest inside = rest i (omega arith)
at-least false first low ns i le rest inside = rest i inside

pub writing-low : (first low : ℕ) (cs : List Writes) (p i : ℕ) → low ≤ first → i < length (writing first cs p) → low ≤ get_or (writing first cs p) i 0
writing-low first low [] p i le inside = absurd (omega arith)
writing-low first low (c ∷ cs) p i le inside =
    at-least (is_some (written c.pages p)) first low (writing (first + 1) cs p) i le (λ k lt. writing-low (first + 1) low cs p k (omega arith) lt) inside

rising-cons : (b : Bool) (first : ℕ) (ns : List ℕ) → ((k : ℕ) → k < length ns → first < get_or ns k 0) → are_rising ns → are_rising (cond b (first ∷ ns) ns)
rising-cons false first ns low up i j lt inside = up i j lt inside
rising-cons true first ns low up zero (suc j) lt inside = low j (omega arith)
rising-cons true first ns low up (suc i) (suc j) lt inside = up i j (omega arith) (omega arith)
rising-cons true first ns low up i zero lt inside = absurd (omega arith)

pub writing-rises : (first : ℕ) (cs : List Writes) (p : ℕ) → are_rising (writing first cs p)
writing-rises first [] p i j lt inside = absurd (omega arith)
writing-rises first (c ∷ cs) p i j lt inside =
    rising-cons (is_some (written c.pages p)) first (writing (first + 1) cs p) (λ k lt. omega (arith, writing-low (first + 1) (first + 1) cs p k (omega arith) lt)) (writing-rises (first + 1) cs p) i j lt inside

-- the numbers with one more commit
push-cond : (b d : Bool) (first last : ℕ) (ns : List ℕ) → cond b (first ∷ (ns ++ cond d (last ∷ []) [])) (ns ++ cond d (last ∷ []) []) ≡ cond b (first ∷ ns) ns ++ cond d (last ∷ []) []
push-cond true d first last ns = refl
push-cond false d first last ns = refl

pub writing-push : (first : ℕ) (cs : List Writes) (c : Writes) (p n : ℕ) → n ≡ first + length cs
    → writing first (cs ++ c ∷ []) p ≡ writing first cs p ++ cond (is_some (written c.pages p)) (n ∷ []) []
writing-push first [] c p n is =
    let at : first ≡ n = omega arith in
    ap (λ m. cond (is_some (written c.pages p)) (m ∷ []) []) at
writing-push first (x ∷ cs) c p n is =
    ap (λ ns. cond (is_some (written x.pages p)) (first ∷ ns) ns) (writing-push (first + 1) cs c p n (omega arith))
    ∙ push-cond (is_some (written x.pages p)) (is_some (written c.pages p)) first n (writing (first + 1) cs p)

-- numbers that rise, parted at one
pub rising-parts : (upto : ℕ) (ns : List ℕ) → are_rising ns → IsPartitionedBy (λ n. nat_le n upto) ns
rising-parts upto ns up i j d le inside passes =
    let at_i : get_or ns i d ≡ get_or ns i 0 = get_or_default ns i d 0 (omega arith) in
    let at_j : get_or ns j d ≡ get_or ns j 0 = get_or_default ns j d 0 inside in
    let low : get_or ns j d ≤ upto = grind (arith, nat_tests) in
    let below : get_or ns i 0 ≤ get_or ns j 0 = grind (arith, up i j, λ (same : i ≡ j). ap (λ k. get_or ns k 0) same) in
    let within : get_or ns i d ≤ upto = omega arith in
    grind (arith, nat_tests)

pub parted-front : (upto : ℕ) (ns : List ℕ) (i : ℕ) → i ≤ length ns → IsPartitionPoint (λ n. nat_le n upto ≡ true) (λ n. nat_le n upto ≡ false) ns i
    → take i ns ≡ filter (λ n. nat_le n upto) ns
parted-front upto ns i inside parted =
    take-filter (λ n. nat_le n upto) ns i 0 inside (λ j lt. parted.0 j 0 (omega arith) lt) (λ j le lt. parted.1 j 0 le lt)

pub parted-back : (upto : ℕ) (ns : List ℕ) (i : ℕ) → i ≤ length ns → IsPartitionPoint (λ n. nat_le n upto ≡ true) (λ n. nat_le n upto ≡ false) ns i
    → drop i ns ≡ filter (nat_lt upto) ns
parted-back upto ns i inside parted =
    drop-filter (nat_lt upto) ns i 0 inside
    (λ j lt. let low : nat_le (get_or ns j 0) upto ≡ true = parted.0 j 0 (omega arith) lt in grind (arith, nat_tests))
    (λ j le lt. let high : nat_le (get_or ns j 0) upto ≡ false = parted.1 j 0 le lt in grind (arith, nat_tests))

-- ---- the pages of a commit, one after another
some-push : (ws : List (ℕ × Page)) (w : ℕ × Page) (p : ℕ) → is_some (written (ws ++ w ∷ []) p) ≡ (is_some (written ws p) || (w.0 == p))
some-push [] w p = elim (w.0 == p) as (λ b. is_some (cond b (Some w.1) None) ≡ b) [ true ↦ refl | false ↦ refl ]
some-push (x ∷ ws) w p =
    elim (x.0 == p) as (λ b. is_some (cond b (Some x.1) (written (ws ++ w ∷ []) p)) ≡ (is_some (cond b (Some x.1) (written ws p)) || (w.0 == p))) [
      | true ↦ refl
      | false ↦ some-push ws w p
    ]

none-there : (ws : List (ℕ × Page)) (p : ℕ) → ((j : ℕ) → j < length ws → number_at ws j ≢ p) → written ws p ≡ None
none-there [] p other = refl
none-there (w ∷ ws) p other =
    let first : w.0 ≢ p = other 0 (omega arith) in
    let test : (w.0 == p) ≡ false = ne_eqb w.0 p first in
    rw test (none-there ws p (λ j lt. other (suc j) (omega arith)))

-- the page at a place isn't among those before it
none-before : (ws : List (ℕ × Page)) (i : ℕ) → IsAscending ws → i < length ws → written (take i ws) (number_at ws i) ≡ None
none-before ws i up inside =
    none-there (take i ws) (number_at ws i) (λ j lt.
    let before : j < i = omega (arith, length-take i ws) in
    let at : number_at (take i ws) j ≡ number_at ws j = ap (λ (w : ℕ × Page). w.0) (get_or-take i ws j (0, []) before) in
    let less : number_at ws j < number_at ws i = up j i before inside in
    λ same. absurd (omega arith))

-- one more page of a commit
pub some-more : (ws : List (ℕ × Page)) (i : ℕ) (w : ℕ × Page) (p : ℕ) → i < length ws → w ≡ get_or ws i w → is_some (written (take (i + 1) ws) p) ≡ (is_some (written (take i ws) p) || (w.0 == p))
some-more ws i w p inside is =
    ap (λ us. is_some (written us p)) (take_more ws i w inside ∙ ap (λ (u : ℕ × Page). take i ws ++ u ∷ []) (sym is)) ∙ some-push (take i ws) w p

pub none-yet : (ws : List (ℕ × Page)) (i : ℕ) (w : ℕ × Page) → IsAscending ws → i < length ws → w ≡ get_or ws i w → is_some (written (take i ws) w.0) ≡ false
none-yet ws i w up inside is =
    let at : number_at ws i ≡ w.0 = ap (λ (u : ℕ × Page). u.0) (get_or_default ws i (0, []) w inside ∙ sym is) in
    ap is_some (ap (written (take i ws)) (sym at) ∙ none-before ws i up inside)

pub number-at : (ws : List (ℕ × Page)) (i : ℕ) (w : ℕ × Page) → i < length ws → w ≡ get_or ws i w → get_or (map (λ (u : ℕ × Page). u.0) ws) i 0 ≡ w.0
number-at ws i w inside is = get_or-map (λ (u : ℕ × Page). u.0) ws i w 0 inside ∙ ap (λ (u : ℕ × Page). u.0) (sym is)

pub later-number : (ws : List (ℕ × Page)) (i k : ℕ) (w : ℕ × Page) → IsAscending ws → i < k → k < length ws → w ≡ get_or ws i w → w.0 < get_or (map (λ (u : ℕ × Page). u.0) ws) k 0
later-number ws i k w up lt inside is =
    let here : number_at ws i ≡ w.0 = ap (λ (u : ℕ × Page). u.0) (get_or_default ws i (0, []) w (omega arith) ∙ sym is) in
    let there : get_or (map (λ (u : ℕ × Page). u.0) ws) k 0 ≡ number_at ws k = get_or-map (λ (u : ℕ × Page). u.0) ws k (0, []) 0 inside in
    let less : number_at ws i < number_at ws k = up i k lt inside in
    omega arith

pub or-false : (b : Bool) → (b || false) ≡ b
or-false true = refl
or-false false = refl

-- what the index has of a view
pub found-within : (lists : BTreeMap ℕ (Vec ℕ)) (forgotten from to : ℕ) (cs : List Writes) (p : ℕ) → listed lists p ≡ writing (forgotten + 1) cs p → forgotten ≤ from
    → numbers_within from to (listed lists p) ≡ writing (from + 1) (take (to - from) (drop (from - forgotten) cs)) p
found-within lists forgotten from to cs p is le = ap (numbers_within from to) is ∙ writing-within forgotten from to cs p le
