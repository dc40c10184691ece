use Rattle.std.proofs.Common.{◌≡◌, ◌≤◌, ◌++◌, map, drop, length}
use Rattle.bcv_databases.specs.Table.{local_row, merged_rows}
use Rattle.bcv_databases.proofs.rows.table.Given as goal

abbrev pub invariant-loop-database : goal.invariant-loop-database
invariant-loop-database l =
    (l.next ≤ length l.locals) × (l.rows.items ++ merged_rows (drop l.database-index l.known) (map local_row (drop l.next l.locals)) ≡ merged_rows l.known (map local_row l.locals))
