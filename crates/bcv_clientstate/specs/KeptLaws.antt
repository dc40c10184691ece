-- Laws on what is kept: a note of the log does what the machine's note does.
use Rattle.std.specs.Prelude.{◌≡◌, Option, Some, None}
use Rattle.bcv_base.specs.ManifestRules.{Ascends}
use Rattle.bcv_model.specs.declared.kept.Kept.{Kept}
use Rattle.bcv_model.specs.declared.note.Note as bytes
use Rattle.bcv_model.specs.NoteRules.{MayStand}
use Rattle.bcv_model.specs.Notes.{after_note, kept_name}
use Rattle.bcv_machine.specs.Noting.{kept_after}
use Rattle.bcv_machine.specs.State.{KeptState, Note}
use Rattle.bcv_clientstate.specs.SeenKept.{seen_kept, seen_note}

-- the databases with commits ascend by name
abbrev pub IsOrdered : Kept → Type 0
IsOrdered k = Ascends kept_name k.locals

-- what is kept afterwards is what the machine keeps after the note, or what it kept where the machine has no such note
abbrev pub IsKeptAfter : KeptState → Option Note → KeptState → Type 0
IsKeptAfter k None after = after ≡ k
IsKeptAfter k (Some x) after = after ≡ kept_after k x

-- a note that may stand does to what is kept what the machine's note does to what it sees of it
abbrev pub NotesAreSteps : Type 0
NotesAreSteps = (k : Kept) (x : bytes.Note) → IsOrdered k → MayStand k x → IsKeptAfter (seen_kept k) (seen_note k x) (seen_kept (after_note k x))

-- a note that may stand leaves the databases in order
abbrev pub NotesKeepOrder : Type 0
NotesKeepOrder = (k : Kept) (x : bytes.Note) → IsOrdered k → MayStand k x → IsOrdered (after_note k x)
