-- What a caller that holds a pin cites.
use Rattle.std.proofs.Common.{◌≡◌, ◌<◌, List, Option, Some, None, refl}
use Rattle.std.specs.Option.{IsSomeAnd}
use Rattle.bcv_cache.specs.Entry.{Entry, Pinned}
use Rattle.bcv_cache.specs.Cache.{entry_in, IsHeld, KeepsEntries, KeepsPinned}

-- where pinned entries stay, what a pin holds stays
pub held_kept : (pin : Pinned) (old new : List Entry) → KeepsPinned old new → IsHeld pin old → IsHeld pin new
held_kept pin old new keeps held = by_cases (entry_in pin.slot old) refl held
  where
    by_cases : (o : Option Entry) → entry_in pin.slot old ≡ o → IsSomeAnd o (λ e. (e.id ≡ pin.id) × (0 < e.count)) → IsHeld pin new
    by_cases None is h = absurd h
    by_cases (Some e) is h = rw (keeps pin.slot e is h.1) h

-- where each slot keeps its entry too
pub held_same : (pin : Pinned) (old new : List Entry) → KeepsEntries old new → IsHeld pin old → IsHeld pin new
held_same pin old new keeps held = rw (keeps pin.slot) held
