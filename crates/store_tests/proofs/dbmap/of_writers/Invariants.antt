use Rattle.store_tests.specs.Tried.{IsTried}
use Rattle.store_tests.proofs.dbmap.of_writers.Given as goal

abbrev pub invariant-loop-number : goal.invariant-loop-number
invariant-loop-number l = IsTried l.m
