use Rattle.std.proofs.Common.{◌≡◌, ◌++◌, map, take}
use Rattle.bcv_databases.specs.Table.{local_row}
use Rattle.bcv_databases.proofs.rows.push_rows.Given as goal

abbrev pub invariant-loop-local : goal.invariant-loop-local
invariant-loop-local l = l.rows.items ≡ l.initial.rows.items ++ map local_row (take l.local-index l.locals)
