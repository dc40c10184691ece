-- What always holds of a world: its clients are in form, each under its number.
use Rattle.std.specs.Prelude.{◌≡◌, ℕ, ◌+◌, ◌<◌, ◌≤◌, false, List, Option, None, Some, MatchOption, nat_lt, if◌then◌else◌}
use Rattle.bcv_client.specs.InForm.{IsClient}
use Rattle.bcv_slots.specs.declared.Slot.{Slot}
use Rattle.bcv_slots.specs.Numbered.{AreDifferent, has_number, item_at, numbers_of}
use Rattle.bcv_world.specs.declared.place.Place.{Place}
use Rattle.bcv_world.specs.declared.place.Place.TheVariants as place
use Rattle.bcv_world.specs.declared.world.World.{World}
use Rattle.bcv_world.specs.LineEvents.{IsSpec}
use Rattle.bcv_world.specs.Tallies.{IsTally}

-- ---- one place

-- a client that is up is in form
abbrev pub PlaceInForm : Place → Type 0
PlaceInForm (place.Up c) = IsClient c
PlaceInForm (place.Down disk) = Unit {0}

-- how many commits a client was given since it is up
abbrev pub taken_in : Place → ℕ
taken_in (place.Up c) = c.taken
taken_in (place.Down disk) = 0

-- it is in form, and was given no more commits than this
pub record PlaceWithin (most : ℕ) (p : Place) : Type 0 where
  pub form : PlaceInForm p
  pub taken : taken_in p ≤ most

-- ---- many places

-- the numbers from 1 to this one have places of which this holds, and no other number has one
pub record HasPlaces {T : Type 0} (Is : ℕ → T → Type 0) (count : ℕ) (slots : List (Slot T)) : Type 0 where
  pub differ : AreDifferent (numbers_of slots)
  pub at : (n : ℕ) → 1 ≤ n → n ≤ count → MatchOption (item_at n slots) ⊥ (Is n)
  pub others : (n : ℕ) → count < n → has_number n (numbers_of slots) ≡ false

-- ---- the world

-- its sizes are within the limits, each client of its first line has a place in form, with no more commits than events, at most one
-- name was drawn for each client and each event, its clock is set to its moment, and
-- its tally counts one reply for each event
pub record IsWorld (w : World) : Type 0 where
  pub sizes : IsSpec w.spec
  pub clients : w.spec.clients ≤ 16
  pub places_are : HasPlaces (λ n. PlaceWithin w.tally.events) w.spec.clients w.places.items
  pub names : w.around.names.count ≤ w.tally.events + w.spec.clients
  pub clock : w.around.clock.moment ≡ w.moment
  pub tally_is : IsTally w.tally

-- ---- versions

-- the number of the last version, where there were fewer before
abbrev pub last_of_more : ℕ → ℕ → Option ℕ
last_of_more before now = if nat_lt before now then Some now else None
