use Rattle.std.proofs.Common.{ℕ, ◌-◌}
use Rattle.bcv_world.specs.FirstPlaces.{FirstPlaces}
use Rattle.bcv_world.specs.WorldForm.{HasPlaces, PlaceWithin}
use Rattle.bcv_world.proofs.world.first_places.Given as goal

-- those before the number have their places
abbrev pub invariant-loop-number : goal.invariant-loop-number
invariant-loop-number l = record {
  within : HasPlaces (λ (n : ℕ). PlaceWithin 0) (l.number - 1) l.places.items;
  first : FirstPlaces (l.number - 1) l.names l.spec.slots l.places.items;
}
