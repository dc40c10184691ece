-- The places of a world that begins: clients that came up for the first time, one after the other.
use Rattle.std.specs.Prelude.{◌≡◌, ℕ, List, [], length}
use Rattle.std.specs.List.{AllByRecursion}
use Rattle.bcv_base.specs.Numbered.{Counter, numbered_names}
use Rattle.bcv_slots.specs.declared.Slot.{Slot}
use Rattle.bcv_worldlaws.specs.Places.{ClientPlace, PlacesFit}
use Rattle.bcv_worldlaws.specs.WorldLaws.{AreNewPlaces}
use Rattle.bcv_world.specs.declared.place.Place.{Place}
use Rattle.bcv_world.specs.Standing.{StandsAt, slots_in}
use Rattle.bcv_world.specs.WorldForm.{HasPlaces}

-- so many places stand for new clients of the machine, with the first names as their ids
pub record FirstPlaces (count : ℕ) (names : Counter) (slots : ℕ) (items : List (Slot Place)) : Type 0 where
  pub places : List ClientPlace
  pub many : length places ≡ count
  pub drawn : names.count ≡ count
  pub each : HasPlaces (StandsAt [] places) count items
  pub fit : PlacesFit [] places
  pub are_new : AreNewPlaces slots (numbered_names count) places
  pub slots_are : AllByRecursion (λ p. slots_in p ≡ slots) places
