use Rattle.std.proofs.Common.{◌≡◌, ◌<◌, length, All}
use Rattle.bcv_cache.specs.Cache.{last_unpinned}
use Rattle.bcv_cache.specs.Inside.{seen}
use Rattle.bcv_cache.proofs.fill.last_unpinned.Given as goal

abbrev pub invariant-loop-id : goal.invariant-loop-id
invariant-loop-id l = record {
  same : last_unpinned (seen l.slots l.places.entries) ≡ last_unpinned (seen l.slots l.rest);
  in_range : All (λ p. p.1 < length l.slots) l.rest;
}

abbrev pub decreases-loop-id : goal.decreases-loop-id
decreases-loop-id l = length l.rest
