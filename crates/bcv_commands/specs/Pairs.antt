-- The input of the command `commit`: lines of one pair each, a page's number and its text.
use Rattle.std.specs.Prelude.{◌≡◌, ℕ, ◌+◌, List, [], ◌∷◌, ◌++◌, length, Result, Ok, Err}
use Rattle.bcv_base.specs.ManifestGrammar.{◌>>=◌}
use Rattle.bcv_model.specs.Script.{pair_line_of}
use Rattle.bcv_lines.specs.Lines.{Splits, IsOpen, IsTooLong, IsNext, AreAll}
use Rattle.bcv_commands.specs.declared.pairs.PairsFault.{PairsFault}
use Rattle.bcv_commands.specs.declared.pairs.PairsFault.TheVariants as fault

-- the pairs that lines write, their numbers ascending above one; or the place in the first line that writes none
abbrev pub pairs_of : ℕ → List (List ℕ) → Result (List (ℕ × List ℕ)) ℕ
pairs_of after [] = Ok []
pairs_of after (line ∷ lines) = do
  pair ← pair_line_of after line
  pairs ← pairs_of pair.0 lines
  Ok (pair ∷ pairs)

-- lines are pairs
abbrev pub ArePairs : List (List ℕ) → Type 0
ArePairs lines = (pairs : List (ℕ × List ℕ)) × (pairs_of 0 lines ≡ Ok pairs)

-- what the bytes that were taken of an input come to
abbrev pub ReadsPairs : Result (List (ℕ × List ℕ)) PairsFault → List ℕ → Type 0 → Type 0
-- the input has ended, and its lines write the pairs
ReadsPairs (Ok pairs) taken ended = ended × ((lines : List (List ℕ)) × AreAll taken lines × (pairs_of 0 lines ≡ Ok pairs))
-- the lines in front are pairs, and with the next one, which isn't too long, they are none
ReadsPairs (Err (fault.BadScript number at)) taken ended =
    (lines : List (List ℕ)) × (rest line : List ℕ) × (number ≡ length lines + 1) × Splits taken lines rest × IsNext ended lines rest line
    × ArePairs lines × (pairs_of 0 (lines ++ line ∷ []) ≡ Err at)
-- the lines in front are pairs, and what comes next passes a limit
ReadsPairs (Err fault.TooLong) taken ended =
    (lines : List (List ℕ)) × (rest : List ℕ) × Splits taken lines rest × IsTooLong lines rest × ArePairs lines
-- all lines that were taken whole are pairs
ReadsPairs (Err fault.ReadFault) taken ended =
    (lines : List (List ℕ)) × (rest : List ℕ) × Splits taken lines rest × IsOpen lines rest × ArePairs lines
ReadsPairs (Err fault.NoMemory) taken ended = Unit {0}
