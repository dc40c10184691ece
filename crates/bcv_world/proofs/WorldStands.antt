-- A world stands for places by a few of its parts.
use Rattle.std.proofs.Common.{◌≡◌, ◌∙◌, ℕ, List, length, sym, subst}
use Rattle.std.specs.List.{AllByRecursion}
use Rattle.bcv_base.specs.declared.log.Entry.{Entry}
use Rattle.bcv_base.specs.Numbered.{Counter, numbered_names}
use Rattle.bcv_memstore.specs.Told.{log_of}
use Rattle.bcv_slots.specs.declared.Slot.{Slot}
use Rattle.bcv_worldlaws.specs.Places.{ClientPlace, WorldFits}
use Rattle.bcv_world.specs.declared.place.Place.{Place}
use Rattle.bcv_world.specs.declared.world.World.{World}
use Rattle.bcv_world.specs.Standing.{Stands, StandsAt, slots_in}
use Rattle.bcv_world.specs.WorldForm.{HasPlaces}

pub stands_as : (w : World) (places : List ClientPlace) (clients slots : ℕ) (names : Counter) (log : List Entry) (items : List (Slot Place)) → w.spec.clients ≡ clients
    → w.spec.slots ≡ slots → w.around.names ≡ names → log_of w.around.store ≡ log → w.places.items ≡ items → length places ≡ clients
    → WorldFits (numbered_names names.count) log places → HasPlaces (StandsAt log places) clients items → AllByRecursion (λ p. slots_in p ≡ slots) places → Stands w places
stands_as w places clients slots names log items same_clients same_slots same_names same_log same_items many fits each given = record {
  count = many ∙ sym same_clients;
  fits =
      subst (λ (l : List Entry). WorldFits (numbered_names w.around.names.count) l places) (sym same_log)
      (subst (λ (c : Counter). WorldFits (numbered_names c.count) log places) (sym same_names) fits);
  each =
      subst (λ (l : List Entry). HasPlaces (StandsAt l places) w.spec.clients w.places.items) (sym same_log)
      (subst (λ (n : ℕ). HasPlaces (StandsAt log places) n w.places.items) (sym same_clients) (subst (HasPlaces (StandsAt log places) clients) (sym same_items) each));
  slots = subst (λ (n : ℕ). AllByRecursion (λ p. slots_in p ≡ n) places) (sym same_slots) given;
}
