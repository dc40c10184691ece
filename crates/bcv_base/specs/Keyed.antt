-- Lists of values with keys, ascending by their keys, which are lists of bytes: databases by name, writers and dead blocks by id.
use Rattle.std.specs.Prelude.{ℕ, Bool, List, [], ◌∷◌, Option, Some, None, if◌then◌else◌}
use Rattle.std.specs.Ordering.{nat_cmp, is_lt}
use Rattle.std.specs.Cmp.Lexicographic.{slice_cmp}
use Rattle.std.specs.Str.{bytes_eq}

-- the first key stands before the second, as bytes; a key that begins another one stands before it
abbrev pub comes_before : List ℕ → List ℕ → Bool
comes_before a b = is_lt (slice_cmp nat_cmp a b)

-- the value of a key, where there is one
abbrev pub keyed : {A : Type 0} → (A → List ℕ) → List ℕ → List A → Option A
keyed key k [] = None
keyed key k (x ∷ xs) = if bytes_eq (key x) k then Some x else keyed key k xs

-- with a value at its place, over the one of the same key
abbrev pub with_keyed : {A : Type 0} → (A → List ℕ) → A → List A → List A
with_keyed key a [] = a ∷ []
with_keyed key a (x ∷ xs) =
    if bytes_eq (key x) (key a) then a ∷ xs else (if comes_before (key a) (key x) then a ∷ x ∷ xs else x ∷ with_keyed key a xs)

-- without the values of a key
abbrev pub without_keyed : {A : Type 0} → (A → List ℕ) → List ℕ → List A → List A
without_keyed key k [] = []
without_keyed key k (x ∷ xs) = if bytes_eq (key x) k then without_keyed key k xs else x ∷ without_keyed key k xs

-- with one more value, where there is one
abbrev pub with_made : {A : Type 0} → (A → List ℕ) → Option A → List A → List A
with_made key None xs = xs
with_made key (Some a) xs = with_keyed key a xs
