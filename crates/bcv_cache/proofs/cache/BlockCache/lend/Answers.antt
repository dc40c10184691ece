use Rattle.std.proofs.Common.{Some, sym, ap, ◌∙◌, arith}
use Rattle.bcv_cache.proofs.Places.{IsCache-seen}
use Rattle.bcv_cache.proofs.Found.{in_use, reads}
use Rattle.bcv_cache.proofs.cache.BlockCache.lend.Goals as goal

pub index-requires-2 : goal.index-requires-2
index-requires-2 c = let there = rw (← c.self.view_is) at c.requires in
    omega (arith, c.index.ensures, c.self.inside.slots.ok.0, in_use _ _ _ _ _ _ _ c.self.invariant there)

pub returns-clause-bytes : goal.returns-clause-bytes
returns-clause-bytes c = let there = rw (← c.self.view_is) at c.requires in
    let r = reads _ _ _ _ _ _ _ c.index-2.result.now c.self.invariant there (rw (← c.index.ensures) c.index-2.ensures) in
    rw (← c.self.view_is) (rw r.found.is (ap (λ bs. Some bs) (r.entry.bytes ∙ sym c.deref.ensures.value)))

pub returns-clause-cache : goal.returns-clause-cache
returns-clause-cache c = rw (← c.self.view_is) (IsCache-seen _ _ _ _ _ c.self.invariant)
