use Rattle.bcv_notes.proofs.Placing.{IsPastName}
use Rattle.bcv_notes.proofs.folding.first_of.Given as goal

abbrev pub invariant-loop-place : goal.invariant-loop-place
invariant-loop-place l = IsPastName l.db l.locals l.place
