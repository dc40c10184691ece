use Rattle.bcv_top.specs.MadeRun.{Playing}
use Rattle.bcv_top.proofs.generate.ran.Given as goal

abbrev pub invariant-loop-left : goal.invariant-loop-left
invariant-loop-left g l = Playing l.n l.world l.draws.x l.left

abbrev pub decreases-loop-left : goal.decreases-loop-left
decreases-loop-left g l = l.left
