-- Laws of overlays and views.
use Rattle.std.proofs.Common.{◌≡◌, ℕ, zero, suc, ◌-◌, ◌<◌, ◌≤◌, Bool, true, false, ◌&&◌, ◌==◌, nat_lt, nat_le, cond, eq-eqb, eqb-true, List, [], ◌∷◌, ◌++◌, length, map, get_or, Option, Some, None, unwrap_or, is_none, slice_get, inl, inr, refl, sym, ◌∙◌, ap, subst, arith}
use Rattle.std.specs.Option.{option_map}
use Rattle.std.specs.List.{range_with_len, fold, list_all}
use Rattle.std.proofs.lemmas.Bool.{cases_lt, and_parts}
use Rattle.std.proofs.lemmas.Bool.Decides.{nat_tests}
use Rattle.std.proofs.lemmas.List.Folds.{list_all-append}
use Rattle.std.proofs.lemmas.List.{length-replicate}
use Rattle.std.proofs.lemmas.List.FromFn.{length-map-range_with_len, get_or-map-range_with_len}
use Rattle.std.proofs.lemmas.Option.{slice_get_past, slice_get-get_or}
use Rattle.bcv_base.specs.Image.{Page, Writes, zeros, page_of, written, or_else, overlaid, overlay, view_image, leaves_page, is_base}
use Rattle.bcv_base.specs.Views.{ascends, view_size, Origin, FromBase, Added, Wrote, origin_after, origin, is_from_base, page_from, have_size, is_commit, is_image}

pub length-overlay : (page_size : ℕ) (image : List Page) (c : Writes) → length (overlay page_size image c) ≡ c.size
length-overlay page_size image c = length-map-range_with_len (overlaid page_size image c) 1 c.size

pub length-view_image : (page_size : ℕ) (base : List Page) (cs : List Writes) → length (view_image page_size base cs) ≡ view_size (length base) cs
length-view_image page_size base [] = refl
length-view_image page_size base (c ∷ cs) =
    length-view_image page_size (overlay page_size base c) cs ∙ ap (λ n. view_size n cs) (length-overlay page_size base c)

page_of-at : (image : List Page) (p : ℕ) → 1 ≤ p → page_of image p ≡ slice_get image (p - 1)
page_of-at image p low = grind (arith, nat_tests)

-- no page is past the end
pub page_of-outside : (image : List Page) (p : ℕ) → length image < p → page_of image p ≡ None
page_of-outside image p high = page_of-at image p (omega arith) ∙ slice_get_past image (p - 1) (omega arith)

-- a page within the size is there
pub page_of-inside : (image : List Page) (p : ℕ) (d : Page) → 1 ≤ p → p ≤ length image → page_of image p ≡ Some (get_or image (p - 1) d)
page_of-inside image p d low high = page_of-at image p low ∙ slice_get-get_or image (p - 1) d (omega arith)

-- a page of the image after a commit
pub page_of-overlay : (page_size : ℕ) (image : List Page) (c : Writes) (p : ℕ) → 1 ≤ p → p ≤ c.size
    → page_of (overlay page_size image c) p ≡ Some (overlaid page_size image c p)
page_of-overlay page_size image c p low high =
    page_of-inside (overlay page_size image c) p [] low (rw length-overlay high)
    ∙ ap (λ (x : Page). Some x) (get_or-map-range_with_len (overlaid page_size image c) 1 c.size (p - 1) p [] (omega arith) (omega arith))

-- a page that a commit writes or leaves
unwrap-or_else : (w o : Option Page) (z : Page) → unwrap_or (or_else w o) z ≡ unwrap_or w (unwrap_or o z)
unwrap-or_else None o z = refl
unwrap-or_else (Some x) o z = refl

-- no page of the image after a commit is past its size, and the others are the commit's or as before
page-past : (page_size : ℕ) (image : List Page) (c : Writes) (p : ℕ) → c.size < p → page_of (overlay page_size image c) p ≡ None
page-past page_size image c p high = page_of-outside (overlay page_size image c) p (rw length-overlay high)

page-within : (page_size : ℕ) (image : List Page) (c : Writes) (p : ℕ) → 1 ≤ p → p ≤ c.size
    → unwrap_or (page_of (overlay page_size image c) p) (zeros page_size) ≡ unwrap_or (written c.pages p) (unwrap_or (page_of image p) (zeros page_size))
page-within page_size image c p low high =
    ap (λ (o : Option Page). unwrap_or o (zeros page_size)) (page_of-overlay page_size image c p low high)
    ∙ unwrap-or_else (written c.pages p) (page_of image p) (zeros page_size)

origin-past : (c : Writes) (p : ℕ) (o : Origin) → c.size < p → origin_after p o c ≡ Added
origin-past c p o high = grind (arith, nat_tests)

origin-within : (c : Writes) (p : ℕ) (o : Origin) → p ≤ c.size → origin_after p o c ≡ unwrap_or (option_map Wrote (written c.pages p)) o
origin-within c p o high = grind (arith, nat_tests)

page_from-written : (b z : Page) (w : Option Page) (o : Origin) → page_from b z (unwrap_or (option_map Wrote w) o) ≡ unwrap_or w (page_from b z o)
page_from-written b z None o = refl
page_from-written b z (Some x) o = refl

-- the bytes of a page before and after a commit
pub origin_after-page : (page_size : ℕ) (image : List Page) (c : Writes) (p : ℕ) (b : Page) (o : Origin) → 1 ≤ p
    → unwrap_or (page_of image p) (zeros page_size) ≡ page_from b (zeros page_size) o
    → unwrap_or (page_of (overlay page_size image c) p) (zeros page_size) ≡ page_from b (zeros page_size) (origin_after p o c)
origin_after-page page_size image c p b o low same =
    elim (cases_lt c.size p) [
      | inl past ↦ rw (page-past page_size image c p past, origin-past c p o past) refl
      | inr within ↦
          page-within page_size image c p low within
          ∙ ap (λ (x : Page). unwrap_or (written c.pages p) x) same
          ∙ sym (page_from-written b (zeros page_size) (written c.pages p) o)
          ∙ sym (ap (λ (x : Origin). page_from b (zeros page_size) x) (origin-within c p o within))
    ]

-- the bytes of a page after these commits
pub fold-origin-page : (page_size : ℕ) (image : List Page) (cs : List Writes) (p : ℕ) (b : Page) (o : Origin) → 1 ≤ p
    → unwrap_or (page_of image p) (zeros page_size) ≡ page_from b (zeros page_size) o
    → unwrap_or (page_of (view_image page_size image cs) p) (zeros page_size) ≡ page_from b (zeros page_size) (fold (origin_after p) o cs)
fold-origin-page page_size image [] p b o low same = same
fold-origin-page page_size image (c ∷ cs) p b o low same =
    fold-origin-page page_size (overlay page_size image c) cs p b (origin_after p o c) low (origin_after-page page_size image c p b o low same)

base-page : (base : List Page) (p : ℕ) (z : Page) → 1 ≤ p
    → unwrap_or (page_of base p) z ≡ page_from (unwrap_or (page_of base p) z) z (cond (nat_le p (length base)) FromBase Added)
base-page base p z low =
    elim (cases_lt (length base) p) [
      | inl past ↦
          let away : page_of base p ≡ None = page_of-outside base p past in
          let test : nat_le p (length base) ≡ false = grind (arith, nat_tests) in
          rw (test, away) refl
      | inr within ↦
          let test : nat_le p (length base) ≡ true = grind (arith, nat_tests) in
          rw test refl
    ]

-- a page of a view: what its origin says, for every base image of the base's size
pub page_of-view_image : (page_size : ℕ) (base : List Page) (cs : List Writes) (p : ℕ) → 1 ≤ p → p ≤ view_size (length base) cs
    → page_of (view_image page_size base cs) p ≡ Some (page_from (unwrap_or (page_of base p) (zeros page_size)) (zeros page_size) (origin (length base) cs p))
page_of-view_image page_size base cs p low high =
    let within : p ≤ length (view_image page_size base cs) = rw length-view_image high in
    let there = page_of-inside (view_image page_size base cs) p (zeros page_size) low within in
    there
    ∙ ap (λ (x : Page). Some x)
    (sym (ap (λ (o : Option Page). unwrap_or o (zeros page_size)) there)
    ∙ fold-origin-page page_size base cs p (unwrap_or (page_of base p) (zeros page_size)) _ low (base-page base p (zeros page_size) low))

-- a view has no page past its size
pub page_of-view_image-outside : (page_size : ℕ) (base : List Page) (cs : List Writes) (p : ℕ) → view_size (length base) cs < p
    → page_of (view_image page_size base cs) p ≡ None
page_of-view_image-outside page_size base cs p high = page_of-outside (view_image page_size base cs) p (rw length-view_image high)

and-true : (b : Bool) → (b && true) ≡ b
and-true true = refl
and-true false = refl

and-false : (b : Bool) → (b && false) ≡ false
and-false true = refl
and-false false = refl

and-and : (a b c : Bool) → ((a && b) && c) ≡ (a && (b && c))
and-and true b c = refl
and-and false b c = refl

is_from_base-written : (w : Option Page) (o : Origin) → is_from_base (unwrap_or (option_map Wrote w) o) ≡ (is_from_base o && is_none w)
is_from_base-written None o = sym (and-true (is_from_base o))
is_from_base-written (Some x) o = sym (and-false (is_from_base o))

is_from_base-after : (p : ℕ) (o : Origin) (c : Writes) → is_from_base (origin_after p o c) ≡ (is_from_base o && leaves_page p c)
is_from_base-after p o c =
    elim (cases_lt c.size p) [
      | inl past ↦
          let test : nat_le p c.size ≡ false = grind (arith, nat_tests) in
          rw (origin-past c p o past, test, and-false (is_none (written c.pages p)), and-false (is_from_base o)) refl
      | inr within ↦
          let test : nat_le p c.size ≡ true = grind (arith, nat_tests) in
          rw (origin-within c p o within, test, and-true (is_none (written c.pages p))) (is_from_base-written (written c.pages p) o)
    ]

fold-is_from_base : (p : ℕ) (o : Origin) (cs : List Writes) → is_from_base (fold (origin_after p) o cs) ≡ (is_from_base o && list_all (leaves_page p) cs)
fold-is_from_base p o [] = sym (and-true (is_from_base o))
fold-is_from_base p o (c ∷ cs) =
    fold-is_from_base p (origin_after p o c) cs
    ∙ ap (λ (b : Bool). b && list_all (leaves_page p) cs) (is_from_base-after p o c)
    ∙ and-and (is_from_base o) (leaves_page p c) (list_all (leaves_page p) cs)

first-origin : (b : Bool) → is_from_base (cond b FromBase Added) ≡ b
first-origin true = refl
first-origin false = refl

-- a base page is one that comes from the base
pub is_base-origin : (base_pages : ℕ) (cs : List Writes) (p : ℕ) → is_base base_pages cs p ≡ is_from_base (origin base_pages cs p)
is_base-origin base_pages cs p =
    sym (fold-is_from_base p (cond (nat_le p base_pages) FromBase Added) cs
    ∙ ap (λ (b : Bool). b && list_all (leaves_page p) cs) (first-origin (nat_le p base_pages)))

-- the view of some commits and then others
pub view_image-append : (page_size : ℕ) (base : List Page) (cs ds : List Writes) → view_image page_size base (cs ++ ds) ≡ view_image page_size (view_image page_size base cs) ds
view_image-append page_size base [] ds = refl
view_image-append page_size base (c ∷ cs) ds = view_image-append page_size (overlay page_size base c) cs ds

pub view_size-append : (base_pages : ℕ) (cs ds : List Writes) → view_size base_pages (cs ++ ds) ≡ view_size (view_size base_pages cs) ds
view_size-append base_pages [] ds = refl
view_size-append base_pages (c ∷ cs) ds = view_size-append c.size cs ds

pub is_base-append : (base_pages : ℕ) (cs ds : List Writes) (p : ℕ) → is_base base_pages (cs ++ ds) p ≡ (is_base base_pages cs p && list_all (leaves_page p) ds)
is_base-append base_pages cs ds p =
    ap (λ (b : Bool). nat_le p base_pages && b) (list_all-append (leaves_page p) cs ds)
    ∙ sym (and-and (nat_le p base_pages) (list_all (leaves_page p) cs) (list_all (leaves_page p) ds))

-- what is written has the page size where all of it has, and so has a page of an image
written-length : (page_size : ℕ) (ws : List (ℕ × Page)) (p : ℕ) (d : Page) → length d ≡ page_size → have_size page_size ws ≡ true
    → length (unwrap_or (written ws p) d) ≡ page_size
written-length page_size [] p d len well = len
written-length page_size (w ∷ ws) p d len well =
    let parts = and_parts (length w.1 == page_size) (have_size page_size ws) well in
    elim (w.0 == p) as (λ b. length (unwrap_or (cond b (Some w.1) (written ws p)) d) ≡ page_size) [
      | true ↦ eqb-true (length w.1) page_size parts.0
      | false ↦ written-length page_size ws p d len parts.1
    ]

get-length : (page_size : ℕ) (image : List Page) (i : ℕ) (d : Page) → length d ≡ page_size → is_image page_size image ≡ true
    → length (unwrap_or (slice_get image i) d) ≡ page_size
get-length page_size [] i d len well = len
get-length page_size (x ∷ xs) zero d len well = eqb-true (length x) page_size (and_parts (length x == page_size) (is_image page_size xs) well).0
get-length page_size (x ∷ xs) (suc i) d len well = get-length page_size xs i d len (and_parts (length x == page_size) (is_image page_size xs) well).1

-- a page of an image as it should be, or zeros in its place, has the page size
pub page_of-length : (page_size : ℕ) (image : List Page) (p : ℕ) → is_image page_size image ≡ true → length (unwrap_or (page_of image p) (zeros page_size)) ≡ page_size
page_of-length page_size image p well =
    elim (p == 0) as (λ b. length (unwrap_or (cond b None (slice_get image (p - 1))) (zeros page_size)) ≡ page_size) [
      | true ↦ length-replicate {A = ℕ} page_size 0
      | false ↦ get-length page_size image (p - 1) (zeros page_size) (length-replicate {A = ℕ} page_size 0) well
    ]

is_image-map : (page_size : ℕ) (f : ℕ → Page) (ns : List ℕ) → ((p : ℕ) → length (f p) ≡ page_size) → is_image page_size (map f ns) ≡ true
is_image-map page_size f [] len = refl
is_image-map page_size f (n ∷ ns) len = rw (eq-eqb (length (f n)) page_size (len n)) (is_image-map page_size f ns len)

-- an image stays as it should be under a commit as it should be
pub is_image-overlay : (page_size : ℕ) (image : List Page) (c : Writes) → is_image page_size image ≡ true → is_commit page_size c ≡ true
    → is_image page_size (overlay page_size image c) ≡ true
is_image-overlay page_size image c image_well commit_well =
    is_image-map page_size (overlaid page_size image c) (range_with_len 1 c.size)
    (λ p. ap length (unwrap-or_else (written c.pages p) (page_of image p) (zeros page_size))
    ∙ written-length page_size c.pages p _ (page_of-length page_size image p image_well)
    (and_parts (ascends 0 c.size c.pages) (have_size page_size c.pages) commit_well).1)

-- each page of a view has the page size
pub is_image-view_image : (page_size : ℕ) (base : List Page) (cs : List Writes) → is_image page_size base ≡ true → list_all (is_commit page_size) cs ≡ true
    → is_image page_size (view_image page_size base cs) ≡ true
is_image-view_image page_size base [] image_well commits_well = image_well
is_image-view_image page_size base (c ∷ cs) image_well commits_well =
    let parts = and_parts (is_commit page_size c) (list_all (is_commit page_size) cs) commits_well in
    is_image-view_image page_size (overlay page_size base c) cs (is_image-overlay page_size base c image_well parts.0) parts.1

-- where a page was written it has the page size
abbrev SizedFrom : ℕ → Origin → Type 0
SizedFrom page_size FromBase = Unit {0}
SizedFrom page_size Added = Unit {0}
SizedFrom page_size (Wrote page) = length page ≡ page_size

sized-written : (page_size : ℕ) (w : Option Page) (o : Origin) → length (unwrap_or w (zeros page_size)) ≡ page_size → SizedFrom page_size o
    → SizedFrom page_size (unwrap_or (option_map Wrote w) o)
sized-written page_size None o len before = before
sized-written page_size (Some x) o len before = len

sized-after : (page_size : ℕ) (p : ℕ) (o : Origin) (c : Writes) → is_commit page_size c ≡ true → SizedFrom page_size o → SizedFrom page_size (origin_after p o c)
sized-after page_size p o c well before =
    let pages = (and_parts (ascends 0 c.size c.pages) (have_size page_size c.pages) well).1 in
    elim (nat_lt c.size p) as (λ b. SizedFrom page_size (cond b Added (unwrap_or (option_map Wrote (written c.pages p)) o))) [
      | true ↦ tt
      | false ↦ sized-written page_size (written c.pages p) o (written-length page_size c.pages p (zeros page_size) (length-replicate {A = ℕ} page_size 0) pages) before
    ]

sized-fold : (page_size : ℕ) (p : ℕ) (o : Origin) (cs : List Writes) → list_all (is_commit page_size) cs ≡ true → SizedFrom page_size o
    → SizedFrom page_size (fold (origin_after p) o cs)
sized-fold page_size p o [] well before = before
sized-fold page_size p o (c ∷ cs) well before =
    let parts = and_parts (is_commit page_size c) (list_all (is_commit page_size) cs) well in
    sized-fold page_size p (origin_after p o c) cs parts.1 (sized-after page_size p o c parts.0 before)

sized-first : (page_size : ℕ) (b : Bool) → SizedFrom page_size (cond b FromBase Added)
sized-first page_size true = tt
sized-first page_size false = tt

pub origin-length : (page_size base_pages : ℕ) (cs : List Writes) (p : ℕ) (page : Page) → list_all (is_commit page_size) cs ≡ true
    → origin base_pages cs p ≡ Wrote page → length page ≡ page_size
origin-length page_size base_pages cs p page well same =
    subst (SizedFrom page_size) same (sized-fold page_size p (cond (nat_le p base_pages) FromBase Added) cs well (sized-first page_size (nat_le p base_pages)))
