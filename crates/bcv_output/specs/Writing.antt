-- What was written of a text.
use Rattle.std.specs.Prelude.{◌≡◌, ℕ, ◌<◌, List, length, take}
use Rattle.bcv_output.specs.declared.Wrote.{Wrote}
use Rattle.bcv_output.specs.declared.Wrote.TheVariants as wrote

-- all of it, or some front of a text that isn't empty
abbrev pub Writes : Wrote → List ℕ → List ℕ → Type 0
Writes wrote.All text written = written ≡ text
Writes _ text written = (0 < length text) × ((k : ℕ) × (written ≡ take k text))

-- the sink's count of faults stayed, unless it failed
abbrev pub IsSteady : Wrote → ℕ → ℕ → Type 0
IsSteady wrote.Failed before now = Unit {0}
IsSteady _ before now = now ≡ before
