use Rattle.std.proofs.Common.{◌≡◌, ◌∙◌, ◌+◌, ◌-◌, ◌++◌, ◌∷◌, ℕ, List, [], sym, ap, subst, arith}
use Rattle.bcv_slots.specs.declared.Slot.{Slot}
use Rattle.bcv_world.specs.declared.place.Place.{Place}
use Rattle.bcv_world.specs.FirstPlaces.{FirstPlaces}
use Rattle.bcv_world.specs.WorldForm.{HasPlaces, PlaceWithin}
use Rattle.bcv_world.proofs.PlacesKept.{places_more}
use Rattle.bcv_world.proofs.WorldBegins.{one_more_place}
use Rattle.bcv_world.proofs.world.first_places.Goals as goal

pub loop-number-preserved : goal.loop-number-preserved
loop-number-preserved c =
    let n : ℕ = c.loop-number.number in
    let one : List (Slot Place) = record { number = n; item = c.in_ok-place.place } ∷ [] in
    let items : c.add.new.slots.items ≡ c.loop-number.places.items ++ one = c.add.ensures ∙ ap (λ (l : List (Slot Place)). l ++ one) c.reserve.ensures.items in
    let back : n ≡ n + 1 - 1 = omega arith in
    let next : n ≡ n - 1 + 1 = omega (arith, c.loop-number.auto.number) in
    record {
      within =
          subst (λ (k : ℕ). HasPlaces (λ (m : ℕ). PlaceWithin 0) k c.add.new.slots.items) back
          (subst (HasPlaces (λ (m : ℕ). PlaceWithin 0) n) (sym items)
          (places_more (λ (m : ℕ). PlaceWithin 0) (λ (m : ℕ). PlaceWithin 0) (n - 1) n c.loop-number.places.items c.in_ok-place.place next c.numbers_differ.ensures.with
          c.loop-number.invariant.within (λ m x low high at. at) c.in_ok-place.ensures.within));
      first =
          subst (λ (k : ℕ). FirstPlaces k c.new.new.names c.args.spec.now.slots c.add.new.slots.items) back
          (subst (λ (l : List (Slot Place)). FirstPlaces n c.new.new.names c.args.spec.now.slots l) (sym items)
          (one_more_place (n - 1) n c.loop-number.names c.new.new.names c.args.spec.now.slots c.loop-number.places.items c.in_ok-place.place next c.numbers_differ.ensures.with
          c.loop-number.invariant.first c.in_ok-place.ensures.is_new));
    }
