use Rattle.std.proofs.Common.{◌≡◌, ◌+◌, ◌-◌, ◌^◌, ◌<◌, ℕ, List, length, min}
use Rattle.bcv_notes.specs.KeptNotes.{committed_notes, notes_size}
use Rattle.bcv_notes.proofs.kept_notes.committed_size.Given as goal

abbrev pub invariant-loop-commit : goal.invariant-loop-commit
invariant-loop-commit l =
    (l.size < 2 ^ 64) × ((db : List ℕ) → length db ≡ l.name → min (l.size + notes_size (committed_notes db l.rest)) (2 ^ 64 - 1) ≡ min (notes_size (committed_notes db l.commits)) (2 ^ 64 - 1))

abbrev pub decreases-loop-commit : goal.decreases-loop-commit
decreases-loop-commit l = length l.rest
