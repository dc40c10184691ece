use Rattle.std.proofs.Common.{take}
use Rattle.bcv_notes.specs.KeptBy.{AreNotes, items_of}
use Rattle.bcv_notes.proofs.keeping.keep_all.Given as goal

abbrev pub invariant-loop-place : goal.invariant-loop-place
invariant-loop-place l = AreNotes (take l.place (items_of l.items)) l.kept
