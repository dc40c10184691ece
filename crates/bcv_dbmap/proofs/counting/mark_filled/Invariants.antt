use Rattle.std.proofs.Common.{◌≡◌, take}
use Rattle.bcv_dbmap.specs.Counted.{is_filled}
use Rattle.bcv_dbmap.specs.Merged.{marked}
use Rattle.bcv_dbmap.proofs.counting.mark_filled.Given as goal

abbrev pub invariant-loop-id : goal.invariant-loop-id
invariant-loop-id l = l.marks ≡ marked (is_filled (take l.id-index l.filled)) l.ids l.initial.marks
