-- The databases after a set without commits was opened at a free place.
use Rattle.std.proofs.Common.{◌≡◌, ◌∙◌, ◌<◌, ℕ, List, length, set, refl, sym, ap, Option, Some, None}
use Rattle.bcv_base.specs.Keyed.{keyed}
use Rattle.bcv_model.specs.Notes.{kept_name}
use Rattle.bcv_pages.specs.Held.{Held}
use Rattle.bcv_databases.specs.Catalog.{Catalog, Rooms, set_at, use_name}
use Rattle.bcv_databases.specs.Slots.{OpensSet, empty_set}
use Rattle.bcv_databases.specs.Sound.{AreDatabases, KeepsViews}
use Rattle.bcv_databases.specs.declared.set_use.SetUse.{SetUse}
use Rattle.bcv_databases.proofs.FirstAdded.{set_used}
use Rattle.bcv_databases.proofs.OneChanged.{has_moved, if_found}
use Rattle.bcv_databases.proofs.Slots.{at_other, at_same}

-- the places before, those with a free one found or made, and the free one
module _ (c : Catalog) (mid : List (Option Held)) (place : ℕ) (h : Held) (s : AreDatabases c) (same : (p : ℕ) → set_at mid p ≡ set_at c.sets p)
    (inside : place < length mid) (free : set_at mid place ≡ None) where
  abbrev pub opened : List (Option Held)
  opened = set mid place (Some h)

  was_free : set_at c.sets place ≡ None
  was_free = sym (same place) ∙ free

  pub opened_sound : (rooms : Rooms) → AreDatabases (record { kept = c.kept; known = c.known; uses = c.uses; sets = opened; rooms = rooms })
  opened_sound rooms = record {
    order = s.order;
    known_order = s.known_order;
    without = s.without;
    held = λ a.
        has_moved c.sets opened (keyed kept_name a c.kept.locals) (keyed use_name a c.uses)
        (if_found (λ (v : SetUse). set_at opened v.set ≡ set_at c.sets v.set) (keyed use_name a c.uses)
        (λ v found. at_other mid place v.set (Some h) (λ e. set_used c a v s found (ap (set_at c.sets) e ∙ was_free)) ∙ same v.set)) (s.held a);
    uses_order = s.uses_order;
    apart = s.apart;
    pending = s.pending;
  }

  pub opened_views : KeepsViews c.sets opened
  opened_views p g at =
      (g, at_other mid place p (Some h) (λ e. let both : Some g ≡ None = sym at ∙ ap (set_at c.sets) e ∙ was_free in absurd cc) ∙ same p ∙ at, (λ from to can. (can, refl)), refl)

  pub opens : (page_size : ℕ) (rooms : Rooms) → h ≡ empty_set page_size → OpensSet c (record { kept = c.kept; known = c.known; uses = c.uses; sets = opened; rooms = rooms }) page_size place
  opens page_size rooms is = record {
    free = was_free;
    there = at_same mid place (Some h) inside ∙ ap Some is;
    others = λ p other. at_other mid place p (Some h) other ∙ same p;
  }
