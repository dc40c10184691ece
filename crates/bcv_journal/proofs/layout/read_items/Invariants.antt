use Rattle.std.proofs.Common.{length, take}
use Rattle.bcv_journal.specs.Settled.{items_of}
use Rattle.bcv_journal.proofs.Reader.{IsReading}
use Rattle.bcv_journal.proofs.layout.read_items.Given as goal

abbrev pub invariant-loop-after : goal.invariant-loop-after
invariant-loop-after l = IsReading l.bytes (take l.start l.bytes) (items_of l.items.items) l.rest

abbrev pub decreases-loop-after : goal.decreases-loop-after
decreases-loop-after l = length l.rest
