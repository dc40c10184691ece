use Rattle.std.proofs.Common.{◌≡◌, ◌++◌, ◌^◌, ◌<◌, length, map}
use Rattle.std.specs.List.{flat_map}
use Rattle.bcv_model.specs.Notes.{note_text}
use Rattle.bcv_notes.specs.KeptBy.{items_of}
use Rattle.bcv_notes.specs.KeptNotes.{local_notes, notes_size}
use Rattle.bcv_notes.proofs.kept_notes.push_locals.Given as goal

abbrev pub invariant-loop-local : goal.invariant-loop-local
invariant-loop-local l =
    (items_of l.items.items ++ map note_text (flat_map local_notes l.rest) ≡ items_of l.initial.items.items ++ map note_text (flat_map local_notes l.locals)) × (notes_size (flat_map local_notes l.rest) < 2 ^ 32)

abbrev pub decreases-loop-local : goal.decreases-loop-local
decreases-loop-local l = length l.rest
