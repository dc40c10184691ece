-- What one more line does to the pairs that were read.
use Rattle.std.specs.Prelude.{◌≡◌, ℕ, ◌+◌, List, [], ◌∷◌, ◌++◌, length, Result, Ok, Err}
use Rattle.bcv_model.specs.Script.{pair_line_of}
use Rattle.bcv_commands.specs.declared.pairs.PairsFault.{PairsFault}
use Rattle.bcv_commands.specs.declared.pairs.PairsFault.TheVariants as fault

-- the pair that a line writes is added, and its number answered; a bad line is the one after those of the pairs
abbrev pub TakesPair : Result ℕ PairsFault → ℕ → List ℕ → List (ℕ × List ℕ) → List (ℕ × List ℕ) → Type 0
TakesPair (Ok page) after line old new = (bytes : List ℕ) × (pair_line_of after line ≡ Ok (page, bytes)) × (new ≡ old ++ (page, bytes) ∷ [])
TakesPair (Err (fault.BadScript number at)) after line old new = (number ≡ length old + 1) × (pair_line_of after line ≡ Err at)
TakesPair (Err fault.NoMemory) after line old new = Unit {0}
TakesPair (Err _) after line old new = ⊥
