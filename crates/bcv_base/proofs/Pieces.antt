-- The front and the rest of what is left of a list.
use Rattle.std.proofs.Common.{◌≡◌, ℕ, ◌+◌, List, ◌++◌, take, drop, sym, take-append-drop}
use Rattle.std.proofs.lemmas.List.{drop-drop}

-- what is left after `at` is its front and what is left after that
pub left_after : (at count : ℕ) (front xs : List ℕ) → front ≡ take count (drop at xs) → drop at xs ≡ front ++ drop (at + count) xs
left_after at count front xs same = rw (same, ← drop-drop count at xs) (sym (take-append-drop count (drop at xs)))
