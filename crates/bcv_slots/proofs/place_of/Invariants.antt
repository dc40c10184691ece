use Rattle.std.proofs.Common.{◌≡◌, false, take}
use Rattle.std.specs.List.{list_any}
use Rattle.bcv_slots.proofs.PlacesFound.{passes}
use Rattle.bcv_slots.proofs.place_of.Given as goal

-- none of the slots that were passed has the number
abbrev pub invariant-loop-place : goal.invariant-loop-place
invariant-loop-place g l = list_any (passes l.number) (take l.place l.slots) ≡ false
