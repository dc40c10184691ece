-- The pins of transactions on the entries of a cache.
use Rattle.std.specs.Prelude.{ℕ, ◌-◌, ◌≤◌, Bool, nat_eq, List, ◌++◌}
use Rattle.std.specs.List.{AllByRecursion, count_by}
use Rattle.std.specs.Option.{option_map_or}
use Rattle.bcv_cache.specs.Entry.{Entry}
use Rattle.bcv_cache.specs.Cache.{entry_in, IsSlotOf, KeepsEntries, KeepsPinned}
use Rattle.bcv_snapshot.specs.declared.held_block.HeldBlock.{HeldBlock}

-- the held block lies in this slot
abbrev pub is_in : ℕ → HeldBlock → Bool
is_in slot h = nat_eq h.pin.slot slot

-- how many of these pins are on a slot
abbrev pub pins_in : ℕ → List HeldBlock → ℕ
pins_in slot hs = count_by (is_in slot) hs

-- how many pins the entry of a slot has
abbrev pub pin_count : ℕ → List Entry → ℕ
pin_count slot es = option_map_or (λ e. e.count) (entry_in slot es) 0

-- the entries have these pins: each is on the entry of its block, and no entry has fewer pins than are on its slot
pub record HasPins (hs : List HeldBlock) (es : List Entry) : Type 0 where
  pub ids : AllByRecursion (λ h. IsSlotOf h.pin.slot h.pin.id es) hs
  pub counts : (slot : ℕ) → pins_in slot hs ≤ pin_count slot es

-- where the entries had these pins beside those of others, they have these others now beside the same of others
abbrev pub KeepsPins : List HeldBlock → List Entry → List HeldBlock → List Entry → Type 0
KeepsPins old before new after = (others : List HeldBlock) → HasPins (old ++ others) before → HasPins (new ++ others) after

-- an entry without these pins
abbrev pub given_back : List HeldBlock → Entry → Entry
given_back hs e = record e { count = e.count - pins_in e.slot hs }

-- ---- the laws

-- pins stay where each slot keeps its entry, or where each pinned entry stays; a call that
-- keeps pins keeps those of its transaction; some of the pins are there where all are, in any order
pub record PinsStay : Type 0 where
  pub found : (hs : List HeldBlock) (old new : List Entry) → KeepsEntries old new → HasPins hs old → HasPins hs new
  pub filled : (hs : List HeldBlock) (old new : List Entry) → KeepsPinned old new → HasPins hs old → HasPins hs new
  pub own : (old new : List HeldBlock) (before after : List Entry) → KeepsPins old before new after → HasPins old before → HasPins new after
  pub some : (hs others : List HeldBlock) (es : List Entry) → HasPins (hs ++ others) es → HasPins hs es
  pub swapped : (hs others : List HeldBlock) (es : List Entry) → HasPins (hs ++ others) es → HasPins (others ++ hs) es
