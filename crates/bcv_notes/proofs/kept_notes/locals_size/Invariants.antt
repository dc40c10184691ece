use Rattle.std.proofs.Common.{◌≡◌, ◌+◌, ◌-◌, ◌^◌, ◌<◌, length, min}
use Rattle.std.specs.List.{flat_map}
use Rattle.bcv_notes.specs.KeptNotes.{local_notes, notes_size}
use Rattle.bcv_notes.proofs.kept_notes.locals_size.Given as goal

abbrev pub invariant-loop-local : goal.invariant-loop-local
invariant-loop-local l =
    (l.size < 2 ^ 64) × (min (l.size + notes_size (flat_map local_notes l.rest)) (2 ^ 64 - 1) ≡ min (notes_size (flat_map local_notes l.locals)) (2 ^ 64 - 1))

abbrev pub decreases-loop-local : goal.decreases-loop-local
decreases-loop-local l = length l.rest
