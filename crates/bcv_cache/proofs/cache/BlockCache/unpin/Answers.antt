use Rattle.std.proofs.Common.{◌-◌, arith}
use Rattle.bcv_cache.specs.Inside.{seen}
use Rattle.bcv_cache.proofs.Places.{IsCache-seen}
use Rattle.bcv_cache.proofs.Steps.{IsSound-counted, recounted-seen, entry_in-recounted}
use Rattle.bcv_cache.proofs.Found.{in_use, reads}
use Rattle.bcv_cache.proofs.cache.BlockCache.unpin.Goals as goal

pub index_mut-requires : goal.index_mut-requires
index_mut-requires c = let some = rw (← c.self.view_is, ← c.pin.view_is) at c.requires in
    omega (arith, c.index.ensures, c.self.inside.slots.ok.0, in_use _ _ _ _ _ _ _ c.self.invariant some)

pub overflow_sub-index_mut : goal.overflow_sub-index_mut
overflow_sub-index_mut c = let some = rw (← c.self.view_is, ← c.pin.view_is) at c.requires in
    let r = reads _ _ _ _ _ _ _ c.index_mut.result.now c.self.invariant some (rw (← c.index.ensures) c.index_mut.ensures.value) in
    omega (arith, r.found.holds.1, r.entry.count)

pub invariant_of-self : goal.invariant_of-self
invariant_of-self c = let some = rw (← c.self.view_is, ← c.pin.view_is) at c.requires in
    let r = reads _ _ _ _ _ _ _ c.index_mut.result.now c.self.invariant some (rw (← c.index.ensures) c.index_mut.ensures.value) in
    rw c.index.ensures (IsSound-counted (λ n. n - 1) c.self.inside.slots.items c.pin.inside.slot c.index_mut.result.now r.entry.at _ _ _ _ c.self.invariant)

pub returns-clause-entries : goal.returns-clause-entries
returns-clause-entries c = let some = rw (← c.self.view_is, ← c.pin.view_is) at c.requires in
    let r = reads _ _ _ _ _ _ _ c.index_mut.result.now c.self.invariant some (rw (← c.index.ensures) c.index_mut.ensures.value) in
    rw (c.index.ensures, ← c.self.view_is, ← c.pin.view_is) (let e = recounted-seen (λ n. n - 1) c.self.inside.slots.items c.pin.inside.slot c.index_mut.result.now r.entry.at c.self.inside.places.entries in cc)

pub returns-clause-slots : goal.returns-clause-slots
returns-clause-slots c = let some = rw (← c.self.view_is, ← c.pin.view_is) at c.requires in
    let r = reads _ _ _ _ _ _ _ c.index_mut.result.now c.self.invariant some (rw (← c.index.ensures) c.index_mut.ensures.value) in
    rw (c.index.ensures, ← c.self.view_is, ← c.pin.view_is) (rw (← recounted-seen (λ n. n - 1) c.self.inside.slots.items c.pin.inside.slot c.index_mut.result.now r.entry.at c.self.inside.places.entries) (entry_in-recounted (λ n. n - 1) c.pin.inside.slot (seen c.self.inside.slots.items c.self.inside.places.entries)))

pub returns-clause-cache : goal.returns-clause-cache
returns-clause-cache c = let some = rw (← c.self.view_is, ← c.pin.view_is) at c.requires in
    let r = reads _ _ _ _ _ _ _ c.index_mut.result.now c.self.invariant some (rw (← c.index.ensures) c.index_mut.ensures.value) in
    rw c.index.ensures (IsCache-seen _ _ _ _ _ (IsSound-counted (λ n. n - 1) c.self.inside.slots.items c.pin.inside.slot c.index_mut.result.now r.entry.at _ _ _ _ c.self.invariant))
