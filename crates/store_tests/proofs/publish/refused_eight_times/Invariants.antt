use Rattle.std.proofs.Common.{◌≤◌, length}
use Rattle.store_tests.proofs.publish.refused_eight_times.Given as goal

abbrev pub invariant-loop-tried : goal.invariant-loop-tried
invariant-loop-tried g l = length l.publication.refused ≤ l.tried-counter
