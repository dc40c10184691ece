-- That what a crash leaves of a client's notes fits a log, whichever of them it leaves.
use Rattle.std.specs.Prelude.{List, [], ◌∷◌}
use Rattle.bcv_base.specs.declared.id.Id16.{Id16}
use Rattle.bcv_base.specs.declared.log.Entry.{Entry}
use Rattle.bcv_model.specs.declared.kept.Kept.{Kept}
use Rattle.bcv_model.specs.declared.note.Note.{Note}
use Rattle.bcv_model.specs.Notes.{after_note}
use Rattle.bcv_clientlaws.specs.OtherParts.{FitsKept}

-- what is kept fits the log of this writer, and so does that with the first of these notes, with two of them, and so on
abbrev pub FoldsFit : List Entry → Id16 → Kept → List Note → Type 0
FoldsFit log id k [] = FitsKept log id k []
FoldsFit log id k (x ∷ xs) = FitsKept log id k [] × FoldsFit log id (after_note k x) xs
