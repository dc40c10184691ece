use Rattle.std.proofs.Common.{◌+◌, ◌-◌, length}
use Rattle.bcv_dbmap.proofs.Merging.{IsMerged}
use Rattle.bcv_dbmap.proofs.dead.with_dead.Given as goal

abbrev pub invariant-loop-id : goal.invariant-loop-id
invariant-loop-id l = IsMerged l.stamp l.ids l.dead l.merged.items l.id l.entry

abbrev pub decreases-loop-id : goal.decreases-loop-id
decreases-loop-id l = (length l.ids - l.id) + (length l.dead - l.entry)
