use Rattle.std.proofs.Common.{◌+◌, sym, arith}
use Rattle.std.proofs.lemmas.Bool.{eq-eqb}
use Rattle.bcv_cache.specs.Inside.{seen}
use Rattle.bcv_cache.proofs.Places.{IsCache-seen}
use Rattle.bcv_cache.proofs.Steps.{IsSound-counted, recounted-seen, entry_in-recounted}
use Rattle.bcv_cache.proofs.Found.{in_use, reads}
use Rattle.bcv_cache.proofs.cache.BlockCache.pin.Goals as goal

pub index_mut-held-requires : goal.index_mut-held-requires
index_mut-held-requires c = let some = rw (← c.self.view_is) at c.requires in
    omega (arith, c.index.ensures, c.self.inside.slots.ok.0, in_use _ _ _ _ _ _ _ c.self.invariant some)

pub overflow_add-held : goal.overflow_add-held
overflow_add-held c = let some = rw (← c.self.view_is) at c.requires in
    let r = reads _ _ _ _ _ _ _ c.index_mut-held.result.now c.self.invariant some (rw (← c.index.ensures) c.index_mut-held.ensures.value) in
    omega (arith, r.found.holds, r.entry.count)

pub invariant_of-self : goal.invariant_of-self
invariant_of-self c = let some = rw (← c.self.view_is) at c.requires in
    let r = reads _ _ _ _ _ _ _ c.index_mut-held.result.now c.self.invariant some (rw (← c.index.ensures) c.index_mut-held.ensures.value) in
    rw c.index.ensures (IsSound-counted (λ n. n + 1) c.self.inside.slots.items c.args.slot c.index_mut-held.result.now r.entry.at _ _ _ _ c.self.invariant)

pub returns-clause-pin : goal.returns-clause-pin
returns-clause-pin c = let some = rw (← c.self.view_is) at c.requires in
    let r = reads _ _ _ _ _ _ _ c.index_mut-held.result.now c.self.invariant some (rw (← c.index.ensures) c.index_mut-held.ensures.value) in
    rw (← c.self.view_is) (rw r.found.is (let slot_is = r.entry.slot in let id_is = r.entry.id in cc))

pub returns-clause-entries : goal.returns-clause-entries
returns-clause-entries c = let some = rw (← c.self.view_is) at c.requires in
    let r = reads _ _ _ _ _ _ _ c.index_mut-held.result.now c.self.invariant some (rw (← c.index.ensures) c.index_mut-held.ensures.value) in
    rw (c.index.ensures, ← c.self.view_is) (let e = recounted-seen (λ n. n + 1) c.self.inside.slots.items c.args.slot c.index_mut-held.result.now r.entry.at c.self.inside.places.entries in cc)

pub returns-clause-slots : goal.returns-clause-slots
returns-clause-slots c = let some = rw (← c.self.view_is) at c.requires in
    let r = reads _ _ _ _ _ _ _ c.index_mut-held.result.now c.self.invariant some (rw (← c.index.ensures) c.index_mut-held.ensures.value) in
    rw (c.index.ensures, ← c.self.view_is) (rw (← recounted-seen (λ n. n + 1) c.self.inside.slots.items c.args.slot c.index_mut-held.result.now r.entry.at c.self.inside.places.entries) (entry_in-recounted (λ n. n + 1) c.args.slot (seen c.self.inside.slots.items c.self.inside.places.entries)))

pub returns-clause-held : goal.returns-clause-held
returns-clause-held c = let some = rw (← c.self.view_is) at c.requires in
    let r = reads _ _ _ _ _ _ _ c.index_mut-held.result.now c.self.invariant some (rw (← c.index.ensures) c.index_mut-held.ensures.value) in
    let es = seen c.self.inside.slots.items c.self.inside.places.entries in
    let here = eq-eqb c.args.slot r.found.entry.slot (sym r.entry.slot) in
    rw (c.index.ensures, ← recounted-seen (λ n. n + 1) c.self.inside.slots.items c.args.slot c.index_mut-held.result.now r.entry.at c.self.inside.places.entries) (rw (entry_in-recounted (λ n. n + 1) c.args.slot es c.args.slot) (rw r.found.is (rw here (r.entry.id, omega arith))))

pub returns-clause-cache : goal.returns-clause-cache
returns-clause-cache c = let some = rw (← c.self.view_is) at c.requires in
    let r = reads _ _ _ _ _ _ _ c.index_mut-held.result.now c.self.invariant some (rw (← c.index.ensures) c.index_mut-held.ensures.value) in
    rw c.index.ensures (IsCache-seen _ _ _ _ _ (IsSound-counted (λ n. n + 1) c.self.inside.slots.items c.args.slot c.index_mut-held.result.now r.entry.at _ _ _ _ c.self.invariant))
