use Rattle.std.proofs.Common.{◌≡◌}
use Rattle.bcv_cache.specs.Cache.{KeepsPinned}
use Rattle.client_tests.proofs.cache.walk.Given as goal

abbrev pub invariant-loop-step : goal.invariant-loop-step
invariant-loop-step g l = record {
  block : l.cache.block ≡ 2;
  pinned_stay : KeepsPinned l.initial.cache.entries l.cache.entries;
}
