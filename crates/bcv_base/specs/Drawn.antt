-- What a source of names shows, and what a draw does to it.
use Rattle.std.specs.Prelude.{◌≡◌, ℕ, ◌≤◌, List, [], ◌∷◌, ◌++◌, Option, Some, None}
use Rattle.bcv_base.specs.Faults.{Rose}
use Rattle.bcv_base.specs.declared.id.Id16.{Id16}
use Rattle.bcv_base.specs.declared.names.Draw.{Draw}
use Rattle.bcv_base.specs.declared.names.Draw.TheVariants as draw

-- what a source of names shows: the names that were drawn, in order, where it tells them, and how many draws have failed
pub record NamesShown : Type 0 where
  pub drawn : Option (List Id16)
  pub faults : ℕ

-- the told names are those of before and then these
abbrev pub AddsNames : Option (List Id16) → Option (List Id16) → List Id16 → Type 0
AddsNames None new ids = Unit {0}
AddsNames (Some old) None ids = ⊥
AddsNames (Some old) (Some new) ids = new ≡ old ++ ids

-- the names that a draw gives: one, or none where it failed
abbrev pub drawn_of : Draw → List Id16
drawn_of (draw.Drawn id) = id ∷ []
drawn_of draw.Failed = []

-- a draw fails exactly where the count of faults rose
abbrev pub DrawCause : ℕ → ℕ → Draw → Type 0
DrawCause before now (draw.Drawn id) = now ≡ before
DrawCause before now draw.Failed = (before ≤ now) × Rose before now

-- a draw: a name that is drawn is told as the last one, a draw that failed tells none and is counted
pub record Draws (old new : NamesShown) (result : Draw) : Type 0 where
  pub names : AddsNames old.drawn new.drawn (drawn_of result)
  pub cause : DrawCause old.faults new.faults result
