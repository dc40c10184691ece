-- Where a name stands in a list that ascends by name.
use Rattle.std.specs.Prelude.{◌≡◌, ℕ, ◌<◌, ◌≤◌, List, None, length, slice_get, set}
use Rattle.std.specs.List.{insert, remove}
use Rattle.bcv_base.specs.Keyed.{keyed, with_keyed, without_keyed}
use Rattle.bcv_base.specs.ManifestRules.{Ascends}

module _ {A : Type 0} (key : A → List ℕ) where
  -- it stands there, and a value of the name goes over it
  pub record IsThere (name : List ℕ) (xs : List A) (i : ℕ) : Type 0 where
    pub inside : i < length xs
    pub found : keyed key name xs ≡ slice_get xs i
    pub over : (a : A) → key a ≡ name → with_keyed key a xs ≡ set xs i a
    pub left : Ascends key xs → without_keyed key name xs ≡ remove xs i

  -- it stands nowhere, and a value of the name goes there
  pub record IsFree (name : List ℕ) (xs : List A) (i : ℕ) : Type 0 where
    pub inside : i ≤ length xs
    pub none : Ascends key xs → keyed key name xs ≡ None
    pub between : (a : A) → key a ≡ name → with_keyed key a xs ≡ insert xs i a
