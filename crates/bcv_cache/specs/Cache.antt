-- The cache as a list of entries, and what each call does to that list.
use Rattle.std.specs.Prelude.{◌≡◌, ℕ, ◌+◌, ◌-◌, ◌<◌, ◌≤◌, Bool, cond, ◌||◌, List, [], ◌∷◌, length, map, reverse, find, Option, Some, option_map, IsSomeAnd, All, nat_eq, nat_lt, if◌then◌else◌}
use Rattle.std.specs.List.{list_any, IsDistinct}
use Rattle.std.specs.Option.{option_map_or}
use Rattle.std.specs.Str.{bytes_eq}
use Rattle.bcv_base.specs.declared.id.Id16.{Id16}
use Rattle.bcv_cache.specs.Entry.{Entry, Blocks, Pinned}

-- the same 16 bytes
abbrev pub id_eq : Id16 → Id16 → Bool
id_eq a b = bytes_eq a.0 b.0

-- the entry is of this block
abbrev pub has_id : Id16 → Entry → Bool
has_id id e = id_eq id e.id

-- the entry is in this slot
abbrev pub has_slot : ℕ → Entry → Bool
has_slot slot e = nat_eq slot e.slot

-- no pin holds the entry
abbrev pub is_unpinned : Entry → Bool
is_unpinned e = nat_eq e.count 0

-- the list without its first element that passes
abbrev pub without : {X : Type 0} → (X → Bool) → List X → List X
without test [] = []
without test (x ∷ xs) = cond (test x) xs (x ∷ without test xs)

-- the entry of a slot
abbrev pub entry_in : ℕ → List Entry → Option Entry
entry_in slot es = find (has_slot slot) es

-- the slot of a block
abbrev pub slot_of : Id16 → List Entry → Option ℕ
slot_of id es = option_map (λ e. e.slot) (find (has_id id) es)

-- a block that is there goes to the front, and the others keep their order
abbrev pub found_first : Id16 → List Entry → List Entry
found_first id es = option_map_or (λ e. e ∷ without (has_id id) es) (find (has_id id) es) es

-- the last entry that no pin holds
abbrev pub last_unpinned : List Entry → Option Entry
last_unpinned es = find is_unpinned (reverse es)

-- the list without the last entry that no pin holds
abbrev pub last_unpinned_dropped : List Entry → List Entry
last_unpinned_dropped es = option_map_or (λ e. without (has_id e.id) es) (last_unpinned es) es

-- a slot is free
abbrev pub has_free_slot : Blocks → Bool
has_free_slot c = nat_lt (length c.entries) c.most

-- a slot is free, or no pin holds one of the entries
abbrev pub has_room : Blocks → Bool
has_room c = has_free_slot c || list_any is_unpinned c.entries

-- what stays where one more entry comes
abbrev pub room_made : Blocks → List Entry
room_made c = if has_free_slot c then c.entries else last_unpinned_dropped c.entries

-- a new block comes first, in a slot, with no pin
abbrev pub filled : ℕ → Id16 → List ℕ → Blocks → Blocks
filled new_slot new_id new_bytes c = record c { entries = record { slot = new_slot; id = new_id; count = 0; bytes = new_bytes } ∷ room_made c }

-- one pin more, if the entry is in this slot
abbrev pub counted_up : ℕ → Entry → Entry
counted_up slot e = if has_slot slot e then record e { count = e.count + 1 } else e

-- one pin less, if the entry is in this slot
abbrev pub counted_down : ℕ → Entry → Entry
counted_down slot e = if has_slot slot e then record e { count = e.count - 1 } else e

-- a pin on the entry
abbrev pub pin_on : Entry → Pinned
pin_on e = record { slot = e.slot; id = e.id }

-- the slot has an entry
abbrev pub IsInUse : ℕ → List Entry → Type 0
IsInUse slot es = IsSomeAnd (entry_in slot es) (λ _. Unit {0})

-- the slot has an entry, to which one more pin can be given
abbrev pub IsPinnable : ℕ → List Entry → Type 0
IsPinnable slot es = IsSomeAnd (entry_in slot es) (λ e. e.count < 4294967295)

-- the entry that the pin holds is there
abbrev pub IsHeld : Pinned → List Entry → Type 0
IsHeld pin es = IsSomeAnd (entry_in pin.slot es) (λ e. (e.id ≡ pin.id) × (0 < e.count))

-- the slot has an entry, which is of this block
abbrev pub IsSlotOf : ℕ → Id16 → List Entry → Type 0
IsSlotOf slot id es = IsSomeAnd (entry_in slot es) (λ e. e.id ≡ id)

-- each slot has the entry that it had
abbrev pub KeepsEntries : List Entry → List Entry → Type 0
KeepsEntries old new = (slot : ℕ) → entry_in slot new ≡ entry_in slot old

-- each entry that a pin held is there as it was
abbrev pub KeepsPinned : List Entry → List Entry → Type 0
KeepsPinned old new = (slot : ℕ) (e : Entry) → entry_in slot old ≡ Some e → 0 < e.count → entry_in slot new ≡ Some e

-- what holds of every cache
pub record IsCache (c : Blocks) : Type 0 where
  pub slots_differ : IsDistinct nat_eq (map (λ e. e.slot) c.entries)
  pub ids_differ : IsDistinct id_eq (map (λ e. e.id) c.entries)
  pub at_most : length c.entries ≤ c.most
  pub whole : All (λ e. length e.bytes ≡ c.block) c.entries
