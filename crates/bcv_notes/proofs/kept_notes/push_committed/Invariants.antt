use Rattle.std.proofs.Common.{◌≡◌, ◌++◌, ◌^◌, ◌<◌, length, map}
use Rattle.bcv_model.specs.Notes.{note_text}
use Rattle.bcv_notes.specs.KeptBy.{items_of}
use Rattle.bcv_notes.specs.KeptNotes.{committed_notes, notes_size}
use Rattle.bcv_notes.proofs.kept_notes.push_committed.Given as goal

abbrev pub invariant-loop-commit : goal.invariant-loop-commit
invariant-loop-commit l =
    (items_of l.items.items ++ map note_text (committed_notes l.db l.rest) ≡ items_of l.initial.items.items ++ map note_text (committed_notes l.db l.commits)) × (notes_size (committed_notes l.db l.rest) < 2 ^ 32)

abbrev pub decreases-loop-commit : goal.decreases-loop-commit
decreases-loop-commit l = length l.rest
