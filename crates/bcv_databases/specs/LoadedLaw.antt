-- A law on what a client's log came to.
use Rattle.std.specs.Prelude.{List}
use Rattle.bcv_model.specs.declared.kept.Kept.{Kept}
use Rattle.bcv_model.specs.declared.note.Note.{Note}
use Rattle.bcv_model.specs.NoteRules.{Folds}
use Rattle.bcv_model.specs.Notes.{nothing_kept}
use Rattle.bcv_databases.specs.Sound.{AreLoaded}

-- what notes come to, each of which may stand, may be loaded
abbrev pub FoldsAreLoaded : Type 0
FoldsAreLoaded = (notes : List Note) (k : Kept) → Folds nothing_kept notes k → AreLoaded k
