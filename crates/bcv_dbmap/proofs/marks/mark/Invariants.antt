use Rattle.std.proofs.Common.{◌≡◌, take}
use Rattle.bcv_base.specs.Ids.{has_id}
use Rattle.bcv_dbmap.specs.Merged.{marked}
use Rattle.bcv_dbmap.proofs.marks.mark.Given as goal

abbrev pub invariant-loop-other : goal.invariant-loop-other
invariant-loop-other l = l.marks ≡ marked (λ i. has_id i (take l.other-index l.others)) l.ids l.initial.marks
