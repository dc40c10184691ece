-- The words that are left of a line.
use Rattle.std.specs.Prelude.{◌≡◌, ℕ, List, [], ◌∷◌, Option, Some, None, Result, Ok, Err}
use Rattle.bcv_model.specs.Words.{words_of, bytes_left}
use Rattle.bcv_script.specs.declared.stop.Stop.{Stop}
use Rattle.bcv_script.specs.declared.stop.Stop.TheVariants as stop
use denote.Ref.{Bor}

-- none where the line was taken to its end
abbrev pub words_left : Option (Bor (List ℕ)) → List (List ℕ)
words_left None = []
words_left (Some rest) = words_of rest.now

-- a word is taken with the number of bytes from it on; or none is left, and the line ends too early
abbrev pub TakesWord : Result (Bor (List ℕ) × ℕ) Stop → List (List ℕ) → List (List ℕ) → Type 0
TakesWord (Ok x) old new = (old ≡ x.0.now ∷ new) × (x.1 ≡ bytes_left old)
TakesWord (Err e) old new = (old ≡ []) × (e ≡ stop.Fault 0)

-- another word is left
abbrev pub HasMore : List (List ℕ) → Type 0
HasMore words = (w : List ℕ) × (ws : List (List ℕ)) × (words ≡ w ∷ ws)
