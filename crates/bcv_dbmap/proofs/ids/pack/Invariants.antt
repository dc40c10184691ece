use Rattle.bcv_dbmap.proofs.Packed.{IsPacked}
use Rattle.bcv_dbmap.proofs.ids.pack.Given as goal

abbrev pub invariant-loop-place : goal.invariant-loop-place
invariant-loop-place l = IsPacked l.initial.ids l.ids l.kept l.place
