use Rattle.std.proofs.Common.{◌≡◌, max, length}
use Rattle.bcv_risen.specs.SeenBases.{greatest_base}
use Rattle.bcv_risen.proofs.seen.greatest_base.Given as goal

abbrev pub invariant-loop-local : goal.invariant-loop-local
invariant-loop-local l = max l.number (greatest_base l.rest) ≡ greatest_base l.locals

abbrev pub decreases-loop-local : goal.decreases-loop-local
decreases-loop-local l = length l.rest
