use Rattle.std.proofs.Common.{◌≤◌, length, vec_capacity}
use Rattle.bcv_disk.proofs.Undoing.{IsUndone}
use Rattle.bcv_disk.proofs.tear.undo.Given as goal

abbrev pub invariant-loop-over : goal.invariant-loop-over
invariant-loop-over l = IsUndone l.acts l.rest l.bytes.items l.saved.items × (vec_capacity l.initial.bytes ≤ vec_capacity l.bytes)

abbrev pub decreases-loop-over : goal.decreases-loop-over
decreases-loop-over l = length l.rest
