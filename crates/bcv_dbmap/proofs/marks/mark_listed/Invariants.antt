use Rattle.std.proofs.Common.{◌≡◌, take}
use Rattle.bcv_base.specs.ManifestRules.{lists}
use Rattle.bcv_dbmap.specs.Merged.{marked}
use Rattle.bcv_dbmap.proofs.marks.mark_listed.Given as goal

abbrev pub invariant-loop-db : goal.invariant-loop-db
invariant-loop-db l = l.marks ≡ marked (lists (take l.db-index l.dbs)) l.ids l.initial.marks
