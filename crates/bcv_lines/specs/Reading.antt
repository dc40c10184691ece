-- What a reader of lines hands out, by the bytes that it has and takes.
use Rattle.std.specs.Prelude.{◌≡◌, ℕ, ◌+◌, ◌-◌, ◌<◌, ◌≤◌, false, ◌⊎◌, List, [], ◌∷◌, ◌++◌, length, take, drop, Option}
use Rattle.std.specs.Io.KnownBytes.{Keeps, Consumes, IsAtEnd}
use Rattle.bcv_base.specs.declared.source.Took.{Took}
use Rattle.bcv_base.specs.declared.source.Took.TheVariants as took
use Rattle.bcv_lines.specs.declared.lines.Piece.{Piece}
use Rattle.bcv_lines.specs.declared.lines.Piece.TheVariants as piece
use Rattle.bcv_lines.specs.declared.lines.Next.{Next}
use Rattle.bcv_lines.specs.declared.lines.Next.TheVariants as next
use Rattle.bcv_lines.specs.Lines.{IsLine, has_newline, most_of_line, most_of_script}

-- the first newline of some bytes
pub record IsFirstNewline (bytes : List ℕ) (end : ℕ) : Type 0 where
  pub within : end < length bytes
  pub none_before : has_newline (take end bytes) ≡ false
  pub here : bytes ≡ take end bytes ++ 10 ∷ drop (end + 1) bytes

-- after lines of so many bytes, these pass the limit of a line or of the script before a line ends in them
abbrev pub PassesLimit : ℕ → List ℕ → Type 0
PassesLimit used bytes =
    ((most_of_line < length bytes) × (has_newline (take (most_of_line + 1) bytes) ≡ false))
    ⊎ ((most_of_script < used + length bytes) × (has_newline (take (most_of_script - used) bytes) ≡ false))

-- a whole line with its newline fits
pub record FitsWhole (used : ℕ) (line : List ℕ) : Type 0 where
  pub is_line : IsLine line
  pub fits : used + length line < most_of_script

-- the front of a line fits
pub record FitsFront (used : ℕ) (line : List ℕ) : Type 0 where
  pub is_line : IsLine line
  pub fits : used + length line ≤ most_of_script

-- what a refill of an empty chunk takes
abbrev pub Refills : Option (List ℕ) → Option (List ℕ) → Took → List ℕ → Type 0
Refills old new (took.Some n) chunk = (0 < length chunk) × Consumes old new chunk
Refills old new took.End chunk = (chunk ≡ []) × IsAtEnd new × Keeps old new
Refills old new took.Failed chunk = (chunk ≡ []) × Keeps old new

-- a line's front and a chunk, moved on to the first newline of the chunk or to its end
abbrev pub Gathers : Piece → ℕ → List ℕ → List ℕ → List ℕ → Type 0
Gathers piece.Whole used bytes line rest = (bytes ≡ line ++ 10 ∷ rest) × FitsWhole used line
Gathers piece.Part used bytes line rest = (bytes ≡ line) × (rest ≡ []) × FitsFront used line
Gathers piece.TooLong used bytes line rest = PassesLimit used bytes
Gathers piece.NoMemory used bytes line rest = Unit {0}

-- the next line of the bytes that were left over and taken, or why there is none
abbrev pub GivesLine : Next → ℕ → List ℕ → Type 0 → List ℕ → List ℕ → Type 0
GivesLine next.Line used bytes ended line rest = (bytes ≡ line ++ 10 ∷ rest) × FitsWhole used line
GivesLine next.Last used bytes ended line rest = ended × (bytes ≡ line) × (0 < length line) × FitsFront used line
GivesLine next.End used bytes ended line rest = ended × (bytes ≡ [])
GivesLine next.TooLong used bytes ended line rest = PassesLimit used bytes
GivesLine next.ReadFault used bytes ended line rest = FitsFront used bytes
GivesLine next.NoMemory used bytes ended line rest = Unit {0}

-- the bytes of whole lines grow by a line that was handed out whole
abbrev pub CountsLine : Next → ℕ → ℕ → List ℕ → Type 0
CountsLine next.Line old new line = new ≡ old + length line + 1
CountsLine _ old new line = new ≡ old

abbrev pub CountsPiece : Piece → ℕ → ℕ → List ℕ → Type 0
CountsPiece piece.Whole old new line = new ≡ old + length line + 1
CountsPiece _ old new line = new ≡ old

-- what an input that has ended leaves: nothing, or a last line
abbrev pub Leaves : Next → List ℕ → Type 0
Leaves next.End line = line ≡ []
Leaves next.Last line = 0 < length line
Leaves _ line = ⊥
