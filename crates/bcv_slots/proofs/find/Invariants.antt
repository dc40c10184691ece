use Rattle.std.proofs.Common.{◌≡◌, drop}
use Rattle.bcv_slots.specs.Numbered.{item_at}
use Rattle.bcv_slots.proofs.find.Given as goal

abbrev pub invariant-loop-slot : goal.invariant-loop-slot
invariant-loop-slot g l = item_at l.number (drop l.slot-index l.slots) ≡ item_at l.number l.slots
