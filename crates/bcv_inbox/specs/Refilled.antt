-- What a refill of an inbox takes.
use Rattle.std.specs.Prelude.{◌≡◌, ℕ, ◌+◌, ◌<◌, ◌≤◌, List, ◌++◌, length, take, Option}
use Rattle.std.specs.Io.KnownBytes.{Keeps, Consumes, IsAtEnd}
use Rattle.bcv_base.specs.declared.source.Took.{Took}
use Rattle.bcv_base.specs.declared.source.Took.TheVariants as took

-- how many bytes an inbox holds at most
abbrev pub most_held : ℕ
most_held = 65536

-- bytes of the source follow those that were held
pub record Grows (old new : Option (List ℕ)) (held later : List ℕ) : Type 0 where
  pub more : List ℕ
  pub some : 0 < length more
  pub joined : later ≡ held ++ more
  pub consumes : Consumes old new more

-- bytes were added, the source has none left, or it failed
abbrev pub Refills : Option (List ℕ) → Option (List ℕ) → Took → List ℕ → List ℕ → Type 0
Refills old new (took.Some n) held later = Grows old new held later
Refills old new took.End held later = (later ≡ held) × IsAtEnd new × Keeps old new
Refills old new took.Failed held later = (later ≡ held) × Keeps old new

-- a room after so many bytes that stay
abbrev pub Fills : Option (List ℕ) → Option (List ℕ) → Took → ℕ → List ℕ → List ℕ → Type 0
Fills old new (took.Some n) held before after =
    (held + n ≤ length after) × Grows old new (take held before) (take (held + n) after)
Fills old new took.End held before after = (take held after ≡ take held before) × IsAtEnd new × Keeps old new
Fills old new took.Failed held before after = (take held after ≡ take held before) × Keeps old new
