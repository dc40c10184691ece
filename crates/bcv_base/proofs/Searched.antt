-- Look-ups in sorted lists.
use Rattle.std.proofs.Common.{◌≡◌, ℕ, List, length, get_or, Result, Ok, Err, sym, ap, ◌∙◌, arith, inl, inr}
use Rattle.std.specs.Prelude.{IsSorted}
use Rattle.std.specs.List.Sorted.{IsSearchInRange, IsBinarySearchResult}
use Rattle.std.specs.List.{list_any}
use Rattle.std.specs.Ordering.{is_eq, nat_cmp}
use Rattle.std.specs.Cmp.Lexicographic.{slice_cmp, texts_ties, nat_list_cmp_total}
use Rattle.std.specs.Result.{is_ok}
use Rattle.std.specs.Str.{bytes_eq}
use Rattle.std.proofs.lemmas.Bool.{cases_lt}
use Rattle.std.proofs.lemmas.List.Folds.{list_any_at, list_any_none}
use Rattle.std.proofs.lemmas.List.Sorted.{searchable_from_sorted}

-- a search by key answers whether the key is there
pub searched : {A : Type 0} (key : A → List ℕ) (d : A) (xs : List A) (x : List ℕ) (r : Result ℕ ℕ) → IsSorted (λ a b. slice_cmp nat_cmp (key a) (key b)) xs → IsSearchInRange r (length xs)
    → IsBinarySearchResult (λ y. slice_cmp nat_cmp (key y) x) xs r → is_ok r ≡ list_any (λ y. bytes_eq (key y) x) xs
searched key d xs x (Ok i) sorted range found = sym (list_any_at (λ y. bytes_eq (key y) x) xs i d range (texts_ties (key (get_or xs i d)) x ∙ ap is_eq (found d)))
searched key d xs x (Err i) sorted range found =
    let parts = found (searchable_from_sorted nat_list_cmp_total key xs x sorted) in
    sym (list_any_none (λ y. bytes_eq (key y) x) xs (λ k e lt. elim (cases_lt k i) [
      | inl below ↦ texts_ties (key (get_or xs k e)) x ∙ ap is_eq (parts.0 k e (omega arith) below)
      | inr above ↦ texts_ties (key (get_or xs k e)) x ∙ ap is_eq (parts.1 k e above lt)
    ]))
