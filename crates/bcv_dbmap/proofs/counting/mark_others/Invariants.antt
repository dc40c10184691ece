use Rattle.std.proofs.Common.{◌≡◌, take}
use Rattle.bcv_dbmap.specs.Counted.{lists_other}
use Rattle.bcv_dbmap.specs.Merged.{marked}
use Rattle.bcv_dbmap.proofs.counting.mark_others.Given as goal

abbrev pub invariant-loop-db : goal.invariant-loop-db
invariant-loop-db l = l.marks ≡ marked (lists_other l.name (take l.db-index l.dbs)) l.ids l.initial.marks
