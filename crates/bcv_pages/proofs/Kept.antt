-- The pages that every image of a view has, and where a page comes from.
use Rattle.std.proofs.Common.{◌≡◌, ℕ, zero, suc, ◌+◌, ◌-◌, ◌<◌, ◌≤◌, ◌≢◌, Bool, true, false, nat_le, cond, ◌&&◌, min, List, [], ◌∷◌, ◌++◌, map, length, take, drop, get_or, Option, Some, None, is_some, is_none, refl, sym, ◌∙◌, ap, subst, arith, le_antisymm, length-drop, slice_get, le_refl}
use Rattle.std.specs.List.{list_all, fold}
use Rattle.std.proofs.lemmas.Bool.{and_parts}
use Rattle.std.proofs.lemmas.Bool.Decides.{nat_tests}
use Rattle.std.proofs.lemmas.List.{take-append-drop, get_or-take, get_or-drop, take-map, drop-map, length-take, drop_more, drop-drop, take_all, take_more, drop-take, get_or-map, length-map}
use Rattle.std.proofs.lemmas.List.Sums.{fold-append}
use Rattle.std.proofs.lemmas.Option.{slice_get_within, get_or_from_slice_get, slice_get-get_or, none-some}
use Rattle.bcv_base.specs.Image.{Page, Writes, written, leaves_page, is_base}
use Rattle.bcv_base.specs.Views.{Origin, FromBase, Added, Wrote, origin_after, origin}
use Rattle.bcv_model.specs.declared.ask.Commit.{Commit}
use Rattle.bcv_model.specs.Commits.{writes_of}
use Rattle.bcv_pages.specs.Held.{Held, CanView, view_of}
use Rattle.bcv_pages.specs.Index.{writing}
use Rattle.bcv_pages.specs.Indexed.{sizes}
use Rattle.bcv_pages.specs.Minima.{IsLeast}
use Rattle.bcv_pages.specs.Touched.{pages_kept}
use Rattle.bcv_pages.proofs.Writings.{writing-low}

-- no commit writes the page, and each one's size reaches it
abbrev pub unwritten : ℕ → List Writes → Bool
unwritten p cs = list_all (λ c. is_none (written c.pages p)) cs

abbrev pub reached : ℕ → List Writes → Bool
reached p cs = list_all (λ c. nat_le p c.size) cs

abbrev is_nil : List ℕ → Bool
is_nil [] = true
is_nil (n ∷ ns) = false

nil-cond : {A : Type 0} (o : Option A) (n : ℕ) (ns : List ℕ) (b : Bool) → is_nil ns ≡ b → is_nil (cond (is_some o) (n ∷ ns) ns) ≡ (is_none o && b)
nil-cond None n ns b is = is
nil-cond (Some x) n ns b is = refl

-- the numbers of a page are none exactly where no commit writes it
pub nil-writing : (first : ℕ) (cs : List Writes) (p : ℕ) → is_nil (writing first cs p) ≡ unwritten p cs
nil-writing first [] p = refl
nil-writing first (c ∷ cs) p = nil-cond (written c.pages p) first (writing (first + 1) cs p) (unwritten p cs) (nil-writing (first + 1) cs p)

pub unwritten-from : (first : ℕ) (cs : List Writes) (p : ℕ) → writing first cs p ≡ [] → unwritten p cs ≡ true
unwritten-from first cs p none = sym (nil-writing first cs p) ∙ ap is_nil none

not-nil : (ns : List ℕ) → ns ≢ [] → is_nil ns ≡ false
not-nil [] some = absurd (some refl)
not-nil (n ∷ ns) some = refl

pub written-from : (first : ℕ) (cs : List Writes) (p : ℕ) → writing first cs p ≢ [] → unwritten p cs ≡ false
written-from first cs p some = sym (nil-writing first cs p) ∙ not-nil (writing first cs p) some

-- ---- the pages that are kept
and-true : (b : Bool) → b ≡ (b && true)
and-true true = refl
and-true false = refl

and-assoc : (a b c : Bool) → ((a && b) && c) ≡ (a && (b && c))
and-assoc true b c = refl
and-assoc false b c = refl

le-min : (p a b : ℕ) → nat_le p (min a b) ≡ (nat_le p a && nat_le p b)
le-min p a b = grind (arith, nat_tests)

pub kept-reaches : (p base : ℕ) (cs : List Writes) → nat_le p (pages_kept base cs) ≡ (nat_le p base && reached p cs)
kept-reaches p base [] = and-true (nat_le p base)
kept-reaches p base (c ∷ cs) =
    kept-reaches p (min base c.size) cs ∙ ap (λ b. b && reached p cs) (le-min p base c.size) ∙ and-assoc (nat_le p base) (nat_le p c.size) (reached p cs)

and-swap : (n s u r : Bool) → ((n && s) && (u && r)) ≡ ((n && u) && (s && r))
and-swap true true u r = refl
and-swap true false true r = refl
and-swap true false false r = refl
and-swap false s u r = refl

leaves-all : (p : ℕ) (cs : List Writes) → list_all (leaves_page p) cs ≡ (unwritten p cs && reached p cs)
leaves-all p [] = refl
leaves-all p (c ∷ cs) =
    ap (λ b. (is_none (written c.pages p) && nat_le p c.size) && b) (leaves-all p cs) ∙ and-swap (is_none (written c.pages p)) (nat_le p c.size) (unwritten p cs) (reached p cs)

and-move : (a u r : Bool) → (a && (u && r)) ≡ ((a && r) && u)
and-move true true true = refl
and-move true true false = refl
and-move true false true = refl
and-move true false false = refl
and-move false u r = refl

-- a base page is one that is kept and that no commit writes
pub is_base-kept : (base p : ℕ) (cs : List Writes) → is_base base cs p ≡ (nat_le p (pages_kept base cs) && unwritten p cs)
is_base-kept base p cs =
    ap (λ b. nat_le p base && b) (leaves-all p cs) ∙ and-move (nat_le p base) (unwritten p cs) (reached p cs) ∙ ap (λ b. b && unwritten p cs) (sym (kept-reaches p base cs))

-- the pages kept are the least of the base's size and the commits'
kept-base : (base : ℕ) (cs : List Writes) → pages_kept base cs ≤ base
kept-base base [] = omega arith
kept-base base (c ∷ cs) = omega (arith, kept-base (min base c.size) cs)

kept-below : (base : ℕ) (cs : List Writes) (k : ℕ) → k < length cs → pages_kept base cs ≤ get_or (sizes cs) k 0
kept-below base [] k inside = absurd (omega arith)
kept-below base (c ∷ cs) zero inside = omega (arith, kept-base (min base c.size) cs)
kept-below base (c ∷ cs) (suc k) inside = kept-below (min base c.size) cs k (omega arith)

kept-greatest : (base : ℕ) (cs : List Writes) (n : ℕ) → n ≤ base → ((k : ℕ) → k < length cs → n ≤ get_or (sizes cs) k 0) → n ≤ pages_kept base cs
kept-greatest base [] n le all = le
kept-greatest base (c ∷ cs) n le all =
    let first : n ≤ c.size = all 0 (omega arith) in
    kept-greatest (min base c.size) cs n (omega arith) (λ k lt. all (suc k) (omega arith))

-- a size of a view is that of its commit
size-at : (cs : List Writes) (start count k : ℕ) → k < count → get_or (sizes (take count (drop start cs))) k 0 ≡ get_or (sizes cs) (start + k) 0
size-at cs start count k lt =
    ap (λ ns. get_or ns k 0) (sym (take-map (λ (c : Writes). c.size) count (drop start cs)) ∙ ap (take count) (sym (drop-map (λ (c : Writes). c.size) start cs)))
    ∙ get_or-take count (drop start (sizes cs)) k 0 lt ∙ get_or-drop start (sizes cs) k 0

pub kept-least : (base : ℕ) (cs : List Writes) (start count least : ℕ) → start + count ≤ length cs → IsLeast (sizes cs) start (start + count) least
    → min base least ≡ pages_kept base (take count (drop start cs))
kept-least base cs start count least inside is =
    let V : List Writes = take count (drop start cs) in
    let long : length V ≡ count = omega (arith, length-take count (drop start cs), length-drop start cs) in
    le_antisymm
    (kept-greatest base V (min base least) (omega arith) (λ k lt.
    let low : least ≤ get_or (sizes cs) (start + k) 0 = is.below (start + k) (omega arith) (omega arith) in
    rw (size-at cs start count k (omega arith)) (omega arith)))
    (let most : pages_kept base V ≤ base = kept-base base V in
    let under : pages_kept base V ≤ least = is.greatest (pages_kept base V) (λ k low high.
    let there : pages_kept base V ≤ get_or (sizes V) (k - start) 0 = kept-below base V (k - start) (omega arith) in
    let at : start + (k - start) ≡ k = omega arith in
    let same : get_or (sizes V) (k - start) 0 ≡ get_or (sizes cs) k 0 = size-at cs start count (k - start) (omega arith) ∙ ap (λ i. get_or (sizes cs) i 0) at in
    omega arith) in
    omega arith)

-- ---- where a page comes from
cond-same : {A : Type 0} (b : Bool) (x : A) → cond b x x ≡ x
cond-same true x = refl
cond-same false x = refl

origin-step : (p : ℕ) (o : Origin) (c : Writes) → written c.pages p ≡ None → origin_after p o c ≡ cond (nat_le p c.size) o Added
origin-step p o c none = rw none (grind (arith, nat_tests))

cond-cond : (a b : Bool) (o : Origin) → cond b (cond a o Added) Added ≡ cond (a && b) o Added
cond-cond true b o = refl
cond-cond false true o = refl
cond-cond false false o = refl

none-of : {A : Type 0} (o : Option A) → is_none o ≡ true → o ≡ None
none-of None is = refl
none-of (Some x) is = cc

-- the commits that don't write a page leave its origin, unless one is too small for it
pub origin-unwritten : (p : ℕ) (o : Origin) (cs : List Writes) → unwritten p cs ≡ true → fold (origin_after p) o cs ≡ cond (reached p cs) o Added
origin-unwritten p o [] none = refl
origin-unwritten p o (c ∷ cs) none =
    let parts = and_parts (is_none (written c.pages p)) (unwritten p cs) none in
    origin-unwritten p (origin_after p o c) cs parts.1
    ∙ ap (λ (x : Origin). cond (reached p cs) x Added) (origin-step p o c (none-of (written c.pages p) parts.0))
    ∙ cond-cond (nat_le p c.size) (reached p cs) o

origin-wrote : (p : ℕ) (o : Origin) (c : Writes) (page : Page) → written c.pages p ≡ Some page → origin_after p o c ≡ cond (nat_le p c.size) (Wrote page) Added
origin-wrote p o c page some = rw some (grind (arith, nat_tests))

-- a page that the first of these commits writes, and no later one
pub origin-written : (p : ℕ) (o : Origin) (c : Writes) (cs : List Writes) (page : Page) → written c.pages p ≡ Some page → unwritten p cs ≡ true
    → fold (origin_after p) o (c ∷ cs) ≡ cond (reached p (c ∷ cs)) (Wrote page) Added
origin-written p o c cs page some none =
    origin-unwritten p (origin_after p o c) cs none
    ∙ ap (λ (x : Origin). cond (reached p cs) x Added) (origin-wrote p o c page some)
    ∙ cond-cond (nat_le p c.size) (reached p cs) (Wrote page)

-- ---- the last commit of a view that writes a page
cond-cons : {A : Type 0} (o : Option A) (n m : ℕ) (ns : List ℕ) → cond (is_some o) (n ∷ ns) ns ≡ m ∷ [] → ((k : ℕ) → k < length ns → suc m ≤ get_or ns k 0) → (is_some o ≡ true) × (ns ≡ [])
cond-cons (Some x) n m [] same low = (refl, refl)
cond-cons (Some x) n m (k ∷ ns) same low = cc
cond-cons None n m [] same low = cc
cond-cons None n m (k ∷ ns) same low =
    let first : suc m ≤ k = low 0 (omega arith) in
    let is : k ≡ m = cc in
    absurd (omega arith)

-- a view of which its first commit alone writes a page
pub first-writes : (number : ℕ) (c : Writes) (cs : List Writes) (p : ℕ) → writing number (c ∷ cs) p ≡ number ∷ [] → (is_some (written c.pages p) ≡ true) × (unwritten p cs ≡ true)
first-writes number c cs p only =
    let parts = cond-cons (written c.pages p) number number (writing (number + 1) cs p) only (λ k lt. omega (arith, writing-low (number + 1) (number + 1) cs p k (omega arith) lt)) in
    (parts.0, unwritten-from (number + 1) cs p parts.1)

push-nil : (ns : List ℕ) (n : ℕ) → [] ≡ ns ++ n ∷ [] → ⊥
push-nil [] n is = cc
push-nil (m ∷ ns) n is = cc

-- one commit more in front of those among which the last one is sought
abbrev pub LastFrom : ℕ → List Writes → ℕ → ℕ → Type 0
LastFrom first cs p n = (first ≤ n) × (n < first + length cs) × (writing n (drop (n - first) cs) p ≡ n ∷ [])

last-later : (first : ℕ) (c : Writes) (cs : List Writes) (p n : ℕ) → LastFrom (first + 1) cs p n → LastFrom first (c ∷ cs) p n
last-later first c cs p n (low, high, only) =
    let more : n - first ≡ suc (n - (first + 1)) = omega arith in
    (omega arith, omega arith, ap (λ k. writing n (drop k (c ∷ cs)) p) more ∙ only)

last-step : (first : ℕ) (c : Writes) (cs : List Writes) (p n : ℕ) (ns : List ℕ) (b : Bool) → is_some (written c.pages p) ≡ b → writing first (c ∷ cs) p ≡ ns ++ n ∷ []
    → ((ns : List ℕ) → writing (first + 1) cs p ≡ ns ++ n ∷ [] → LastFrom (first + 1) cs p n) → LastFrom first (c ∷ cs) p n
last-step first c cs p n ns false isnt is later = last-later first c cs p n (later ns (rw isnt at is))
last-step first c cs p n [] true is_there is later =
    let here : first ∷ writing (first + 1) cs p ≡ n ∷ [] = rw is_there at is in
    let same : first ≡ n = cc in
    let none : n - first ≡ 0 = omega arith in
    (omega arith, omega arith, ap (λ k. writing n (drop k (c ∷ cs)) p) none ∙ subst (λ m. writing m (c ∷ cs) p ≡ n ∷ []) same is)
last-step first c cs p n (m ∷ ns) true is_there is later =
    let here : first ∷ writing (first + 1) cs p ≡ m ∷ (ns ++ n ∷ []) = rw is_there at is in
    let rest : writing (first + 1) cs p ≡ ns ++ n ∷ [] = cc in
    last-later first c cs p n (later ns rest)

-- from the last commit that writes a page on, it alone writes it
pub last-writes : (first : ℕ) (cs : List Writes) (p n : ℕ) (ns : List ℕ) → writing first cs p ≡ ns ++ n ∷ []
    → LastFrom first cs p n
last-writes first [] p n ns is = absurd (push-nil ns n is)
last-writes first (c ∷ cs) p n ns is = last-step first c cs p n ns (is_some (written c.pages p)) refl is (last-writes (first + 1) cs p n)

-- ---- the origin of a page that the first commit of a view alone writes
some-of : {A : Type 0} (o : Option A) → is_some o ≡ true → (x : A) × (o ≡ Some x)
some-of (Some x) is = (x, refl)
some-of None is = cc

-- wherever it came from before
pub same-origin : (number p : ℕ) (cs : List Writes) (o q : Origin) → writing number cs p ≡ number ∷ [] → fold (origin_after p) o cs ≡ fold (origin_after p) q cs
same-origin number p [] o q only = cc
same-origin number p (c ∷ cs) o q only =
    let parts = first-writes number c cs p only in
    let page = some-of (written c.pages p) parts.0 in
    origin-written p o c cs page.0 page.1 parts.1 ∙ sym (origin-written p q c cs page.0 page.1 parts.1)

reaches-self : (p : ℕ) (cs : List Writes) → nat_le p (pages_kept p cs) ≡ reached p cs
reaches-self p cs =
    let self : nat_le p p ≡ true = grind (arith, nat_tests) in
    kept-reaches p p cs ∙ ap (λ b. b && reached p cs) self

pub origin-zeros : (number p base : ℕ) (cs : List Writes) → writing number cs p ≡ number ∷ [] → pages_kept p cs < p → Added ≡ origin base cs p
origin-zeros number p base [] only less = cc
origin-zeros number p base (c ∷ cs) only less =
    let parts = first-writes number c cs p only in
    let page = some-of (written c.pages p) parts.0 in
    let test : nat_le p (pages_kept p (c ∷ cs)) ≡ false = grind (arith, nat_tests) in
    let few : reached p (c ∷ cs) ≡ false = sym (reaches-self p (c ∷ cs)) ∙ test in
    sym (origin-written p _ c cs page.0 page.1 parts.1 ∙ ap (λ b. cond b (Wrote page.0) Added) few)

pub origin-local : (number p base : ℕ) (c : Writes) (cs : List Writes) (page : Page) → writing number (c ∷ cs) p ≡ number ∷ [] → p ≤ pages_kept p (c ∷ cs) → written c.pages p ≡ Some page
    → Wrote page ≡ origin base (c ∷ cs) p
origin-local number p base c cs page only enough is =
    let parts = first-writes number c cs p only in
    let test : nat_le p (pages_kept p (c ∷ cs)) ≡ true = grind (arith, nat_tests) in
    let all : reached p (c ∷ cs) ≡ true = sym (reaches-self p (c ∷ cs)) ∙ test in
    sym (origin-written p _ c cs page is parts.1 ∙ ap (λ b. cond b (Wrote page) Added) all)

-- the origin in a view, by the part of it from the last commit on that writes the page
pub origin-later : (base number p k : ℕ) (cs : List Writes) → writing number (drop k cs) p ≡ number ∷ [] → origin base (drop k cs) p ≡ origin base cs p
origin-later base number p k cs only =
    let start : Origin = cond (nat_le p base) FromBase Added in
    same-origin number p (drop k cs) start (fold (origin_after p) start (take k cs)) only
    ∙ sym (fold-append (origin_after p) start (take k cs) (drop k cs))
    ∙ ap (fold (origin_after p) start) (take-append-drop k cs)

-- and where no commit writes it
cond-first : (a b : Bool) (o : Origin) → (a && b) ≡ true → cond b (cond a o Added) Added ≡ o
cond-first true true o is = refl
cond-first true false o is = cc
cond-first false b o is = cc

cond-added : (a b : Bool) (o : Origin) → (a && b) ≡ false → cond b (cond a o Added) Added ≡ Added
cond-added true true o is = cc
cond-added true false o is = refl
cond-added false true o is = refl
cond-added false false o is = refl

pub origin-base : (first base p : ℕ) (cs : List Writes) → writing first cs p ≡ [] → p ≤ pages_kept base cs → FromBase ≡ origin base cs p
origin-base first base p cs none enough =
    let test : nat_le p (pages_kept base cs) ≡ true = grind (arith, nat_tests) in
    sym (origin-unwritten p _ cs (unwritten-from first cs p none) ∙ cond-first (nat_le p base) (reached p cs) FromBase (sym (kept-reaches p base cs) ∙ test))

pub origin-added : (first base p : ℕ) (cs : List Writes) → writing first cs p ≡ [] → pages_kept base cs < p → Added ≡ origin base cs p
origin-added first base p cs none few =
    let test : nat_le p (pages_kept base cs) ≡ false = grind (arith, nat_tests) in
    sym (origin-unwritten p _ cs (unwritten-from first cs p none) ∙ cond-added (nat_le p base) (reached p cs) FromBase (sym (kept-reaches p base cs) ∙ test))

-- ---- parts of a view
pub view-head : (cs : List Writes) (place count : ℕ) (c : Writes) → place < length cs → 0 < count
    → take count (drop place cs) ≡ get_or cs place c ∷ take (count - 1) (drop (place + 1) cs)
view-head cs place count c inside some =
    let more : count ≡ suc (count - 1) = omega arith in
    ap (λ (xs : List Writes). take count xs) (drop_more cs place c inside) ∙ ap (λ n. take n (get_or cs place c ∷ drop (place + 1) cs)) more

pub view-later : (cs : List Writes) (start count k rest : ℕ) → count ≡ k + rest → drop k (take count (drop start cs)) ≡ take rest (drop (start + k) cs)
view-later cs start count k rest is =
    ap (λ n. drop k (take n (drop start cs))) is ∙ drop-take k rest (drop start cs) ∙ ap (λ (xs : List Writes). take rest xs) (drop-drop k start cs)

pub view-from : (commits : List Commit) (place count : ℕ) (x : Commit) → place < length commits → 0 < count → x ≡ get_or commits place x
    → take count (drop place (map writes_of commits)) ≡ writes_of x ∷ take (count - 1) (drop (place + 1) (map writes_of commits))
view-from commits place count x inside some is =
    let at : get_or (map writes_of commits) place (writes_of x) ≡ writes_of x = get_or-map writes_of commits place x (writes_of x) inside ∙ ap writes_of (sym is) in
    view-head (map writes_of commits) place count (writes_of x) (omega (arith, length-map commits writes_of)) some
    ∙ ap (λ (c : Writes). c ∷ take (count - 1) (drop (place + 1) (map writes_of commits))) at

-- numbers up to their last one
last-of : (ns : List ℕ) (n : ℕ) → slice_get ns (length ns - 1) ≡ Some n → ns ≡ take (length ns - 1) ns ++ n ∷ []
last-of ns n is =
    let inside : length ns - 1 < length ns = slice_get_within ns (length ns - 1) n is in
    let more : length ns - 1 + 1 ≡ length ns = omega arith in
    let here : get_or ns (length ns - 1) 0 ≡ n = get_or_from_slice_get ns (length ns - 1) n 0 is in
    let all : take (length ns - 1 + 1) ns ≡ ns = ap (λ k. take k ns) more ∙ take_all _ ns (le_refl _) in
    sym all ∙ take_more ns (length ns - 1) 0 inside ∙ ap (λ (x : ℕ). take (length ns - 1) ns ++ x ∷ []) here

-- the last number of a view under a page: the view from it on, which says where the page comes from
pub view-last : (h : Held) (from to p n : ℕ) (ns : List ℕ) → CanView h from to → ns ≡ writing (from + 1) (view_of h from to) p → slice_get ns (length ns - 1) ≡ Some n
    → (1 ≤ n) × (n ≤ to) × CanView h (n - 1) to × (writing n (view_of h (n - 1) to) p ≡ n ∷ []) × ((base : ℕ) → origin base (view_of h (n - 1) to) p ≡ origin base (view_of h from to) p)
view-last h from to p n ns can are last =
    let V : List Writes = view_of h from to in
    let (low, high, only) = last-writes (from + 1) V p n (take (length ns - 1) ns) (sym are ∙ last-of ns n last) in
    let long : length V ≤ to - from = omega (arith, length-take (to - from) (drop (from - h.forgotten) h.kept)) in
    let many : to - from ≡ (n - (from + 1)) + (to - (n - 1)) = omega (arith, can.order) in
    let at : from - h.forgotten + (n - (from + 1)) ≡ n - 1 - h.forgotten = omega (arith, can.kept) in
    let view : drop (n - (from + 1)) V ≡ view_of h (n - 1) to =
    view-later h.kept (from - h.forgotten) (to - from) (n - (from + 1)) (to - (n - 1)) many ∙ ap (λ i. take (to - (n - 1)) (drop i h.kept)) at in (
      omega arith,
      omega (arith, can.order),
      record { kept = omega (arith, can.kept); order = omega (arith, can.order); there = can.there },
      subst (λ (cs : List Writes). writing n cs p ≡ n ∷ []) view only,
      λ base. ap (λ (cs : List Writes). origin base cs p) (sym view) ∙ origin-later base n p (n - (from + 1)) V only,
    )

-- a list with no last number
pub none-last : (ns : List ℕ) → None ≡ slice_get ns (length ns - 1) → ns ≡ []
none-last [] none = refl
none-last (n ∷ ns) none =
    let inside : length (n ∷ ns) - 1 < length (n ∷ ns) = omega arith in
    absurd (none-some _ (none ∙ slice_get-get_or (n ∷ ns) (length (n ∷ ns) - 1) 0 inside))
