-- How the fields of a cache stand for its entries.
use Rattle.std.specs.Prelude.{◌≡◌, ℕ, ◌<◌, ◌≤◌, List, [], ◌∷◌, length, map, slice_get, Option, Some, None, option_map}
use Rattle.std.specs.Option.{option_map_or}
use Rattle.std.specs.Map.{lookup}
use Rattle.bcv_base.specs.declared.id.Id16.{Id16}
use Rattle.bcv_cache.specs.Entry.{Entry}
use Rattle.bcv_cache.specs.Cache.{id_eq}
use Rattle.bcv_cache.specs.declared.held.Held.{Held}

-- the entry of a place, an id with its slot
abbrev pub entry_at : List Held → Id16 × ℕ → Entry
entry_at slots place = record { slot = place.1; id = place.0; count = option_map_or (λ h. h.count) (slice_get slots place.1) 0; bytes = option_map_or (λ h. h.bytes.items) (slice_get slots place.1) [] }

-- the entries of the places
abbrev pub seen : List Held → List (Id16 × ℕ) → List Entry
seen slots places = map (entry_at slots) places

-- the name of the block in a slot, and its length
abbrev pub block_in : List Held → ℕ → Option (Id16 × ℕ)
block_in slots k = option_map (λ h. (h.id, length h.bytes.items)) (slice_get slots k)

-- each place is of a slot with a whole block of that name, and no name has two places
abbrev pub ArePlaced : ℕ → List Held → List (Id16 × ℕ) → Type 0
ArePlaced block slots [] = Unit {0}
ArePlaced block slots (p ∷ ps) = (block_in slots p.1 ≡ Some (p.0, block)) × (lookup (id_eq p.0) ps ≡ None) × ArePlaced block slots ps

-- each slot in use has one place, and the order takes one place more than there are slots
pub record IsSound (slots : List Held) (places : List (Id16 × ℕ)) (cap most block : ℕ) : Type 0 where
  pub placed : ArePlaced block slots places
  pub one_each : length places ≡ length slots
  pub at_most : length slots ≤ most
  pub spare : most < cap
