use Rattle.bcv_cleanup.specs.State.{IsRunning}
use Rattle.task_tests.proofs.cleanup.run.Given as goal

abbrev pub invariant-loop : goal.invariant-loop
invariant-loop g l = IsRunning l.cleanup
