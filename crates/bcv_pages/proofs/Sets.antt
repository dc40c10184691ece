-- The commits that a set of pages holds, in part.
use Rattle.std.proofs.Common.{◌≡◌, ℕ, zero, suc, ◌+◌, ◌-◌, ◌≤◌, min, Bool, true, List, [], ◌∷◌, map, take, drop, refl, sym, ◌∙◌, ap, arith, length-drop, length, get_or, ◌<◌, subst, Option, Some, None, IfSome, unwrap_or, is_some, cond, ◌++◌, nat_lt}
use Rattle.std.specs.List.{list_all, filter}
use Rattle.std.specs.Global.{Vec}
use Rattle.std.specs.BTreeMap.{BTreeMap}
use Rattle.std.proofs.lemmas.List.Folds.{list_all-append}
use Rattle.std.proofs.lemmas.Bool.{and_parts}
use Rattle.std.proofs.lemmas.List.{length-map, take-map, drop-map, drop-drop, map-append}
use Rattle.bcv_base.specs.Image.{Writes, written}
use Rattle.bcv_base.specs.Views.{is_commit, ascends, have_size}
use Rattle.bcv_model.specs.declared.ask.Commit.{Commit}
use Rattle.bcv_model.specs.Commits.{writes_of}
use Rattle.bcv_pages.specs.Placed.{all_ascend, IsAscending}
use Rattle.bcv_pages.specs.Held.{Held, KeepsView, held_of, without_first, without_upto}
use Rattle.bcv_pages.specs.Index.{writing, has_room}
use Rattle.bcv_pages.specs.Indexed.{sizes, IsReady}
use Rattle.bcv_pages.proofs.Writings.{writing-after, writing-push}
use Rattle.bcv_pages.proofs.Places.{IsAscending-from_ascends}
use Rattle.bcv_pages.proofs.Origins.{all_ascend-commits}

list_all-take : {X : Type 0} (test : X → Bool) (n : ℕ) (xs : List X) → list_all test xs ≡ true → list_all test (take n xs) ≡ true
list_all-take test zero xs all = refl
list_all-take test (suc n) [] all = refl
list_all-take test (suc n) (x ∷ xs) all =
    let parts = and_parts (test x) (list_all test xs) all in
    rw parts.0 (list_all-take test n xs parts.1)

pub list_all-drop : {X : Type 0} (test : X → Bool) (n : ℕ) (xs : List X) → list_all test xs ≡ true → list_all test (drop n xs) ≡ true
list_all-drop test zero xs all = all
list_all-drop test (suc n) [] all = refl
list_all-drop test (suc n) (x ∷ xs) all = list_all-drop test n xs (and_parts (test x) (list_all test xs) all).1

-- some of the commits, one after another
pub part-view : (commits : List Commit) (n k m : ℕ) → n ≡ m → map writes_of (take n (drop k commits)) ≡ take m (drop k (map writes_of commits))
part-view commits n k m same =
    sym (take-map writes_of n (drop k commits)) ∙ ap (take n) (sym (drop-map writes_of k commits)) ∙ ap (λ j. take j (drop k (map writes_of commits))) same

pub part-well : (page_size : ℕ) (commits : List Commit) (n k : ℕ) → list_all (is_commit page_size) (map writes_of commits) ≡ true
    → list_all (is_commit page_size) (map writes_of (take n (drop k commits))) ≡ true
part-well page_size commits n k well =
    rw (part-view commits n k n refl)
    (list_all-take (is_commit page_size) n (drop k (map writes_of commits)) (list_all-drop (is_commit page_size) k (map writes_of commits) well))

pub part-ascends : (page_size : ℕ) (commits : List Commit) (n k : ℕ) → list_all (is_commit page_size) (map writes_of commits) ≡ true
    → all_ascend (map writes_of (take n (drop k commits))) ≡ true
part-ascends page_size commits n k well = all_ascend-commits page_size (map writes_of (take n (drop k commits))) (part-well page_size commits n k well)

-- a view that begins after the commits that were dropped
pub views-kept : (h : Held) (count from to : ℕ) → count ≤ length h.kept → h.forgotten + count ≤ from → KeepsView h (without_first count h) from to
views-kept h count from to fits after can = (
  record { kept = after; order = can.order; there = omega (arith, can.there, length-drop count h.kept) },
  let start : count + (from - (h.forgotten + count)) ≡ from - h.forgotten = omega arith in
      ap (λ xs. take (to - from) xs) (drop-drop _ _ h.kept ∙ ap (λ n. drop n h.kept) start),
)

pub drop-well : (page_size : ℕ) (commits : List Commit) (k : ℕ) → list_all (is_commit page_size) (map writes_of commits) ≡ true
    → list_all (is_commit page_size) (map writes_of (drop k commits)) ≡ true
drop-well page_size commits k well = rw (← drop-map writes_of k commits) (list_all-drop (is_commit page_size) k (map writes_of commits) well)

-- what is held after the first commits were dropped
pub forgot-is : (page_size forgotten : ℕ) (commits : List Commit) (ready : Option (List ℕ)) (upto count : ℕ) → count ≡ min (upto - forgotten) (length commits)
    → held_of page_size (forgotten + count) (drop count commits) ready ≡ without_upto upto (held_of page_size forgotten commits ready)
forgot-is page_size forgotten commits ready upto count is =
    let old = held_of page_size forgotten commits ready in
    let same : count ≡ min (upto - forgotten) (length (map writes_of commits)) = is ∙ ap (λ n. min (upto - forgotten) n) (sym (length-map commits writes_of)) in
    ap (λ (cs : List Writes). record old { forgotten = forgotten + count; kept = cs }) (sym (drop-map writes_of count commits))
    ∙ ap (λ n. without_first n old) same

pub views-after : (h : Held) (upto from to : ℕ) → upto ≤ from → KeepsView h (without_upto upto h) from to
views-after h upto from to le can = views-kept h (min (upto - h.forgotten) (length h.kept)) from to (omega arith) (omega (arith, can.kept)) can

pub view-well : (page_size : ℕ) (cs : List Writes) (n k : ℕ) → list_all (is_commit page_size) cs ≡ true → list_all (is_commit page_size) (take n (drop k cs)) ≡ true
view-well page_size cs n k well = list_all-take (is_commit page_size) n (drop k cs) (list_all-drop (is_commit page_size) k cs well)

-- each of the commits is as it should be, and so its pages ascend
pub commit-ascends : (page_size : ℕ) (commits : List Commit) (i : ℕ) (c : Commit) → list_all (is_commit page_size) (map writes_of commits) ≡ true → i < length commits → c ≡ get_or commits i c
    → IsAscending c.pages
commit-ascends page_size [] i c well inside is = absurd (omega arith)
commit-ascends page_size (d ∷ commits) zero c well inside is =
    let parts = and_parts (is_commit page_size (writes_of d)) (list_all (is_commit page_size) (map writes_of commits)) well in
    let up : ascends 0 d.size d.pages ≡ true = (and_parts (ascends 0 d.size d.pages) (have_size page_size d.pages) parts.0).0 in
    subst (λ (x : Commit). IsAscending x.pages) (sym is) (IsAscending-from_ascends 0 d.size d.pages up)
commit-ascends page_size (d ∷ commits) (suc i) c well inside is =
    let parts = and_parts (is_commit page_size (writes_of d)) (list_all (is_commit page_size) (map writes_of commits)) well in
    commit-ascends page_size commits i c parts.1 (omega arith) is

pub well-push : (page_size : ℕ) (commits : List Commit) (commit : Commit) → list_all (is_commit page_size) (map writes_of commits) ≡ true → is_commit page_size (writes_of commit) ≡ true
    → list_all (is_commit page_size) (map writes_of (commits ++ commit ∷ [])) ≡ true
well-push page_size commits commit well one =
    ap (list_all (is_commit page_size)) (map-append writes_of commits (commit ∷ []))
    ∙ list_all-append (is_commit page_size) (map writes_of commits) (writes_of commit ∷ []) ∙ rw (well, one) refl

-- the sizes and the numbers with one commit more
pub sizes-push : (commits : List Commit) (commit : Commit) → sizes (map writes_of (commits ++ commit ∷ [])) ≡ sizes (map writes_of commits) ++ commit.size ∷ []
sizes-push commits commit = ap sizes (map-append writes_of commits (commit ∷ [])) ∙ map-append (λ (c : Writes). c.size) (map writes_of commits) (writes_of commit ∷ [])

pub pages-push : (forgotten : ℕ) (commits : List Commit) (commit : Commit) (p n : ℕ) → n ≡ forgotten + length (map writes_of commits) + 1
    → writing (forgotten + 1) (map writes_of (commits ++ commit ∷ [])) p ≡ writing (forgotten + 1) (map writes_of commits) p ++ cond (is_some (written commit.pages p)) (n ∷ []) []
pages-push forgotten commits commit p n is =
    ap (λ cs. writing (forgotten + 1) cs p) (map-append writes_of commits (commit ∷ []))
    ∙ writing-push (forgotten + 1) (map writes_of commits) (writes_of commit) p n (omega arith)

-- and without the first ones
pub sizes-forgot : (n : ℕ) (commits : List Commit) → drop n (sizes (map writes_of commits)) ≡ sizes (map writes_of (drop n commits))
sizes-forgot n commits = drop-map (λ (c : Writes). c.size) n (map writes_of commits) ∙ ap sizes (drop-map writes_of n commits)

pub pages-forgot : (forgotten n : ℕ) (commits : List Commit) (p : ℕ)
    → filter (nat_lt (forgotten + n)) (writing (forgotten + 1) (map writes_of commits) p) ≡ writing (forgotten + n + 1) (map writes_of (drop n commits)) p
pages-forgot forgotten n commits p =
    let many : forgotten + n + 1 - (forgotten + 1) ≡ n = omega arith in
    writing-after (forgotten + n) (forgotten + 1) (map writes_of commits) p (omega arith)
    ∙ ap (λ k. writing (forgotten + n + 1) (drop k (map writes_of commits)) p) many
    ∙ ap (λ cs. writing (forgotten + n + 1) cs p) (drop-map writes_of n commits)

-- what was ready is ready, where there is still room under its pages
pub ready-after : (old new : BTreeMap ℕ (Vec ℕ)) (before after : Bool) (o : Option (List ℕ)) (pages : List ℕ) → pages ≡ unwrap_or o [] → after ≡ before
    → ((k : ℕ) → k < length pages → has_room old (get_or pages k 0) → has_room new (get_or pages k 0)) → IfSome o (IsReady old before) → IfSome o (IsReady new after)
ready-after old new before after None pages is same keeps ready = tt
ready-after old new before after (Some numbers) pages is same keeps ready =
    let moved = subst (λ (ns : List ℕ). (k : ℕ) → k < length ns → has_room old (get_or ns k 0) → has_room new (get_or ns k 0)) is keeps in
    record { minimum = same ∙ ready.minimum; room = λ k lt. moved k lt (ready.room k lt) }
