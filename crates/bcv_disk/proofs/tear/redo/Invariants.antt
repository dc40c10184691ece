use Rattle.std.proofs.Common.{◌≡◌, ◌≤◌, length, vec_capacity}
use Rattle.bcv_disk.proofs.Redoing.{IsRedone}
use Rattle.bcv_disk.proofs.tear.redo.Given as goal

abbrev pub invariant-loop-rest : goal.invariant-loop-rest
invariant-loop-rest l = IsRedone l.acts l.rest l.bytes.items l.image l.spare.items × (vec_capacity l.initial.bytes ≤ vec_capacity l.bytes)

abbrev pub decreases-loop-rest : goal.decreases-loop-rest
decreases-loop-rest l = length l.rest
