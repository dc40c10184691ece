-- Where a page comes from, by the last commit of a view.
use Rattle.std.proofs.Common.{◌≡◌, ℕ, Bool, true, ◌&&◌, List, [], ◌∷◌, ◌++◌, map, refl, sym, ◌∙◌, ap}
use Rattle.std.specs.List.{list_all}
use Rattle.std.proofs.lemmas.Bool.{and_parts}
use Rattle.std.proofs.lemmas.List.Folds.{list_all-append}
use Rattle.std.proofs.lemmas.List.Sums.{fold_push}
use Rattle.bcv_base.specs.Image.{Writes}
use Rattle.bcv_base.specs.Views.{ascends, origin, origin_after, have_size, is_commit, view_size}
use Rattle.bcv_base.proofs.Views.{view_size-append}
use Rattle.bcv_model.specs.declared.ask.Commit.{Commit}
use Rattle.bcv_model.specs.Commits.{writes_of}
use Rattle.bcv_pages.specs.Placed.{all_ascend}

map-push : {A B : Type 0} (f : A → B) (xs : List A) (x : A) → map f (xs ++ x ∷ []) ≡ map f xs ++ f x ∷ []
map-push f [] x = refl
map-push f (y ∷ xs) x = ap (λ ys. f y ∷ ys) (map-push f xs x)

pub origin-push : (base_pages : ℕ) (commits : List Commit) (commit : Commit) (p : ℕ)
    → origin base_pages (map writes_of (commits ++ commit ∷ [])) p ≡ origin_after p (origin base_pages (map writes_of commits) p) (writes_of commit)
origin-push base_pages commits commit p = ap (λ cs. origin base_pages cs p) (map-push writes_of commits commit) ∙ fold_push (origin_after p) _ (map writes_of commits) (writes_of commit)

pub view_size-push : (base_pages : ℕ) (commits : List Commit) (commit : Commit) → view_size base_pages (map writes_of (commits ++ commit ∷ [])) ≡ commit.size
view_size-push base_pages commits commit = ap (view_size base_pages) (map-push writes_of commits commit) ∙ view_size-append base_pages (map writes_of commits) (writes_of commit ∷ [])

pub all_ascend-push : (commits : List Commit) (commit : Commit) → all_ascend (map writes_of (commits ++ commit ∷ [])) ≡ true
    → (all_ascend (map writes_of commits) ≡ true) × (ascends 0 commit.size commit.pages ≡ true)
all_ascend-push commits commit up =
    let test : Writes → Bool = λ c. ascends 0 c.size c.pages in
    let both = sym (ap (list_all test) (map-push writes_of commits commit) ∙ list_all-append test (map writes_of commits) (writes_of commit ∷ [])) ∙ up in
    let parts = and_parts (all_ascend (map writes_of commits)) (ascends 0 commit.size commit.pages && true) both in
    (parts.0, (and_parts (ascends 0 commit.size commit.pages) true parts.1).0)

pub all_ascend-commits : (page_size : ℕ) (cs : List Writes) → list_all (is_commit page_size) cs ≡ true → all_ascend cs ≡ true
all_ascend-commits page_size [] well = refl
all_ascend-commits page_size (c ∷ cs) well =
    let parts = and_parts (is_commit page_size c) (list_all (is_commit page_size) cs) well in
    rw (and_parts (ascends 0 c.size c.pages) (have_size page_size c.pages) parts.0).0 (all_ascend-commits page_size cs parts.1)
