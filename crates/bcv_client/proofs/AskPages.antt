-- The pages of a new database that were tested are as they have to be.
use Rattle.std.proofs.Common.{◌≡◌, ◌==◌, ◌&&◌, ℕ, Bool, true, false, eqb-true, List, [], ◌∷◌, length, nat_lt, refl}
use Rattle.std.proofs.lemmas.Bool.{eq-eqb, lt-ltb, ltb-true}
use Rattle.std.specs.List.{AllByRecursion, list_all}
use Rattle.bcv_base.specs.Image.{Page}
use Rattle.bcv_base.specs.ManifestRules.{is_page_size}
use Rattle.bcv_dbcopy.specs.State.{FitsPages}
use Rattle.bcv_dbcopy.specs.declared.plan.CopyPlan.TheVariants as plan
use Rattle.bcv_client.specs.AskCalls.{are_pages_of}

both : (a b : Bool) → (a && b) ≡ true → (a ≡ true) × (b ≡ true)
both true b is = (refl, is)
both false b is = absurd (let no : false ≡ true = is in cc)

and : (a b : Bool) → a ≡ true → b ≡ true → (a && b) ≡ true
and true b one two = two
and false b one two = absurd (let no : false ≡ true = one in cc)

sized : (n : ℕ) (ps : List Page) → list_all (λ (p : Page). length p == n) ps ≡ true → AllByRecursion (λ (p : Page). length p ≡ n) ps
sized n [] all = tt
sized n (p ∷ ps) all =
    let parts = both (length p == n) (list_all (λ (q : Page). length q == n) ps) all in
    (eqb-true (length p) n parts.0, sized n ps parts.1)

unsized : (n : ℕ) (ps : List Page) → AllByRecursion (λ (p : Page). length p ≡ n) ps → list_all (λ (p : Page). length p == n) ps ≡ true
unsized n [] all = refl
unsized n (p ∷ ps) all = and (length p == n) (list_all (λ (q : Page). length q == n) ps) (eq-eqb (length p) n all.0) (unsized n ps all.1)

pub fits : (db : List ℕ) (size : ℕ) (pages : List Page) → are_pages_of size pages ≡ true → FitsPages (plan.New db size pages)
fits db size pages is =
    let one = both (is_page_size 16777216 size && nat_lt (length pages) 2147483648) (list_all (λ (p : Page). length p == size) pages) is in
    let two = both (is_page_size 16777216 size) (nat_lt (length pages) 2147483648) one.0 in
    (two.0, sized size pages one.1, ltb-true (length pages) 2147483648 two.1)

pub only : (db : List ℕ) (size : ℕ) (pages : List Page) → FitsPages (plan.New db size pages) → are_pages_of size pages ≡ true
only db size pages is =
    and (is_page_size 16777216 size && nat_lt (length pages) 2147483648) (list_all (λ (p : Page). length p == size) pages)
    (and (is_page_size 16777216 size) (nat_lt (length pages) 2147483648) is.0 (lt-ltb (length pages) 2147483648 is.2)) (unsized size pages is.1)
