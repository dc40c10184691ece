use Rattle.bcv_databases.proofs.Places.{IsPast}
use Rattle.bcv_databases.proofs.named.place_of.Given as goal

abbrev pub invariant-loop-place : goal.invariant-loop-place
invariant-loop-place g l = IsPast g.T.Named.key l.name l.items l.place
