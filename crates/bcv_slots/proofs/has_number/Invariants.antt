use Rattle.std.proofs.Common.{◌≡◌, drop}
use Rattle.bcv_slots.specs.Numbered.{has_number, numbers_of}
use Rattle.bcv_slots.proofs.has_number.Given as goal

abbrev pub invariant-loop-slot : goal.invariant-loop-slot
invariant-loop-slot g l = has_number l.number (numbers_of (drop l.slot-index l.slots)) ≡ has_number l.number (numbers_of l.slots)
