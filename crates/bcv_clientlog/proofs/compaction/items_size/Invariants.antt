use Rattle.std.proofs.Common.{◌≡◌, ◌+◌, ◌-◌, ◌^◌, ◌<◌, length, min}
use Rattle.bcv_notes.specs.KeptBy.{items_of}
use Rattle.bcv_notes.specs.KeptNotes.{items_size}
use Rattle.bcv_clientlog.proofs.compaction.items_size.Given as goal

abbrev pub invariant-loop-item : goal.invariant-loop-item
invariant-loop-item l = (l.size < 2 ^ 64) × (min (l.size + items_size (items_of l.rest)) (2 ^ 64 - 1) ≡ min (items_size (items_of l.items)) (2 ^ 64 - 1))

abbrev pub decreases-loop-item : goal.decreases-loop-item
decreases-loop-item l = length l.rest
