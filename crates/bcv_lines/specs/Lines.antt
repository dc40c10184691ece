-- The lines of an input.
use Rattle.std.specs.Prelude.{◌≡◌, ℕ, ◌+◌, ◌-◌, ◌<◌, ◌≤◌, Bool, false, ◌==◌, ◌⊎◌, List, [], ◌∷◌, ◌++◌, length, take}
use Rattle.std.specs.List.{flat_map, list_any}

-- the most bytes of a script, and of a line without its newline
abbrev pub most_of_script : ℕ
most_of_script = 67108864

abbrev pub most_of_line : ℕ
most_of_line = 1048576

-- a line ends in these bytes
abbrev pub has_newline : List ℕ → Bool
has_newline bytes = list_any (λ b. b == 10) bytes

-- no newline is inside, and it isn't too long
pub record IsLine (line : List ℕ) : Type 0 where
  pub whole : has_newline line ≡ false
  pub short : length line ≤ most_of_line

abbrev pub AreLines : List (List ℕ) → Type 0
AreLines [] = Unit {0}
AreLines (line ∷ lines) = IsLine line × AreLines lines

-- lines, each with its newline
abbrev pub text_of : List (List ℕ) → List ℕ
text_of lines = flat_map (λ line. line ++ 10 ∷ []) lines

-- bytes begin with these lines, within the limit of a script, and then have a rest
pub record Splits (bytes : List ℕ) (lines : List (List ℕ)) (rest : List ℕ) : Type 0 where
  pub joined : bytes ≡ text_of lines ++ rest
  pub are_lines : AreLines lines
  pub within : length (text_of lines) ≤ most_of_script

-- a rest in which no line ends yet, and which passes no limit yet
pub record IsOpen (lines : List (List ℕ)) (rest : List ℕ) : Type 0 where
  pub is_line : IsLine rest
  pub within : length (text_of lines) + length rest ≤ most_of_script

-- the rest after some lines passes a limit before a line ends in it: that of a line, or that of the script
abbrev pub IsTooLong : List (List ℕ) → List ℕ → Type 0
IsTooLong lines rest =
    ((most_of_line < length rest) × (has_newline (take (most_of_line + 1) rest) ≡ false))
    ⊎ ((most_of_script < length (text_of lines) + length rest) × (has_newline (take (most_of_script - length (text_of lines)) rest) ≡ false))

-- the last line may end with the input: it isn't empty then, but where it is the only one
abbrev pub IsLast : List (List ℕ) → List ℕ → Type 0
IsLast [] line = Unit {0}
IsLast (first ∷ lines) line = 0 < length line

-- the next line after some lines: it ends within the script's limit, or with the input, where that has ended
abbrev pub IsNext : Type 0 → List (List ℕ) → List ℕ → List ℕ → Type 0
IsNext ended lines rest line =
    IsLine line
    × (((more : List ℕ) × (rest ≡ line ++ 10 ∷ more) × (length (text_of lines) + length line < most_of_script)) ⊎ (ended × IsLast lines line × IsOpen lines rest × (rest ≡ line)))

-- all lines of an input that has ended
abbrev pub AreAll : List ℕ → List (List ℕ) → Type 0
AreAll bytes lines =
    Splits bytes lines []
    ⊎ ((front : List (List ℕ)) × (line : List ℕ) × (lines ≡ front ++ line ∷ []) × Splits bytes front line × IsOpen front line × (0 < length line))

-- the bytes begin with these lines, or they are all that an input which has ended holds
abbrev pub BeginsWith : Type 0 → List ℕ → List (List ℕ) → Type 0
BeginsWith ended bytes lines = ((rest : List ℕ) × Splits bytes lines rest) ⊎ (ended × AreAll bytes lines)
