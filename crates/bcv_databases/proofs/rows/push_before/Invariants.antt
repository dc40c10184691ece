use Rattle.bcv_databases.proofs.Merged.{GoesOn}
use Rattle.bcv_databases.proofs.rows.push_before.Given as goal

abbrev pub invariant-loop-place : goal.invariant-loop-place
invariant-loop-place l = GoesOn l.locals l.from l.name l.initial.rows.items l.rows.items l.place
