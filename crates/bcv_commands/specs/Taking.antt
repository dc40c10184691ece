-- How an argument is taken.
use Rattle.std.specs.Prelude.{◌≡◌, ℕ, List, [], ◌∷◌, Option, Some, None}
use denote.Ref.{Bor}

-- an argument is taken, or none is left
abbrev pub TakesArgument : Option (Bor (List ℕ)) → List (List ℕ) → List (List ℕ) → Type 0
TakesArgument (Some a) old new = old ≡ a.now ∷ new
TakesArgument None old new = old ≡ []
