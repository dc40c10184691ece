-- What sources give and sinks take, where they tell their bytes.
use Rattle.std.specs.Prelude.{◌≡◌, ℕ, ◌<◌, ◌≤◌, Bool, true, false, List, length, take, Option}
use Rattle.std.specs.Io.KnownBytes.{Keeps, Appends, Consumes, IsAtEnd}
use Rattle.bcv_base.specs.Faults.{Rose}
use Rattle.bcv_base.specs.declared.source.Took.{Took}
use Rattle.bcv_base.specs.declared.source.Took.TheVariants as took
use Rattle.bcv_base.specs.declared.sink.Gave.{Gave}
use Rattle.bcv_base.specs.declared.sink.Gave.TheVariants as gave

-- what a take does to the bytes that are left: those that it gives are their front, the end comes where none is left, and a failed take moves none
abbrev pub Takes : Option (List ℕ) → Option (List ℕ) → Took → List ℕ → Type 0
Takes old new (took.Some n) into = (0 < n) × (n ≤ length into) × Consumes old new (take n into)
Takes old new took.End into = IsAtEnd new × Keeps old new
Takes old new took.Failed into = Keeps old new

-- the answer is that no byte is left
abbrev pub is_end : Took → Bool
is_end (took.Some n) = false
is_end took.End = true
is_end took.Failed = false

-- a take fails exactly where the count of faults rose
abbrev pub TakeCause : ℕ → ℕ → Took → Type 0
TakeCause before now (took.Some n) = now ≡ before
TakeCause before now took.End = now ≡ before
TakeCause before now took.Failed = (before ≤ now) × Rose before now

-- some front of the bytes was added
abbrev pub AppendsFront : Option (List ℕ) → Option (List ℕ) → List ℕ → Type 0
AppendsFront old new bytes = (k : ℕ) × (k ≤ length bytes) × Appends old new (take k bytes)

-- what a give adds to the bytes that were given: the front that it says, none where memory ran out, and some front where it failed
abbrev pub Gives : Option (List ℕ) → Option (List ℕ) → Gave → List ℕ → Type 0
Gives old new (gave.Some n) bytes = (0 < n) × (n ≤ length bytes) × Appends old new (take n bytes)
Gives old new gave.Failed bytes = AppendsFront old new bytes
Gives old new gave.NoMemory bytes = Keeps old new

-- a give fails exactly where the count of faults rose
abbrev pub GiveCause : ℕ → ℕ → Gave → Type 0
GiveCause before now (gave.Some n) = now ≡ before
GiveCause before now gave.Failed = (before ≤ now) × Rose before now
GiveCause before now gave.NoMemory = now ≡ before
