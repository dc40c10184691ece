use Rattle.bcv_slots.specs.Numbered.{numbers_of}
use Rattle.bcv_slots.proofs.FreeNumbers.{AreTaken}
use Rattle.bcv_slots.proofs.free_number.Given as goal

-- each number below this one is taken
abbrev pub invariant-loop-number : goal.invariant-loop-number
invariant-loop-number g l = AreTaken (numbers_of l.slots) l.number
