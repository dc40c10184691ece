-- What a reader of fields answers.
use Rattle.std.specs.Prelude.{◌≡◌, ℕ, List, Option, Some, None, Result, Ok, Err}
use Rattle.bcv_model.specs.declared.kept.Kept.{Kept}
use Rattle.bcv_model.specs.declared.note.Note.{Note}
use Rattle.bcv_model.specs.NoteRules.{MayStand}
use Rattle.bcv_model.specs.Notes.{note_text}
use Rattle.bcv_notes.specs.declared.stop.Stop.{Stop}
use Rattle.bcv_notes.specs.declared.stop.Stop.TheVariants.{NoMemory, NoNote}

-- it stopped where the grammar reads nothing, unless memory ran out
abbrev pub StopsOn : {Y : Type 0} → Stop → Option Y → Type 0
StopsOn NoMemory read = Unit {0}
StopsOn NoNote read = read ≡ None

-- it gave, as seen by view, what the grammar reads
abbrev pub Yields : {X Y : Type 0} → (X → Y) → Result X Stop → Option Y → Type 0
Yields view (Ok x) read = read ≡ Some (view x)
Yields view (Err e) read = StopsOn e read

-- the bytes are those of this note, which may stand where this is kept, or of none that may
abbrev pub IsNoteAt : Kept → List ℕ → Option Note → Type 0
IsNoteAt k bytes (Some x) = MayStand k x × (bytes ≡ note_text x)
IsNoteAt k bytes None = (x : Note) → MayStand k x → bytes ≡ note_text x → ⊥
