use Rattle.std.proofs.Common.{◌≤◌, length, sym, ◌∙◌, arith}
use Rattle.bcv_cache.proofs.Places.{IsCache-seen}
use Rattle.bcv_cache.proofs.Found.{in_range, has_room-full}
use Rattle.bcv_cache.proofs.cache.BlockCache.room.Goals as goal

pub last_unpinned-requires : goal.last_unpinned-requires
last_unpinned-requires c = rw c.deref.ensures.value (in_range _ _ _ _ _ c.self.invariant)

pub returns-then-len-from-clause-cache : goal.returns-then-len-from-clause-cache
returns-then-len-from-clause-cache c = rw (← c.self.view_is) (IsCache-seen _ _ _ _ _ c.self.invariant)

pub returns-else-len-from-clause-room : goal.returns-else-len-from-clause-room
returns-else-len-from-clause-room c =
    let full : c.self.inside.most ≤ length c.self.inside.slots.items = omega (arith, c.self.inside.slots.ok.0) in
    let last = rw c.deref.ensures.value at c.last_unpinned.ensures in
    rw (← c.self.view_is) (c.is_some.ensures ∙ sym (has_room-full _ _ _ _ _ _ c.self.invariant full last))

pub returns-else-len-from-clause-cache : goal.returns-else-len-from-clause-cache
returns-else-len-from-clause-cache c = rw (← c.self.view_is) (IsCache-seen _ _ _ _ _ c.self.invariant)
