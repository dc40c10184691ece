-- What the machine says of a note, where a client tried it.
use Rattle.std.specs.Prelude.{◌≡◌, ◌^◌, ◌+◌, ◌*◌, ◌<◌, ℕ, true, List, Some}
use Rattle.std.specs.List.{AllByRecursion}
use Rattle.bcv_base.specs.History.{Item}
use Rattle.bcv_dbmap.specs.Sound.{Sound}
use Rattle.bcv_machine.specs.Noting.{noted, note_failed, MayBeFull}
use Rattle.bcv_machine.specs.State as m
use Rattle.bcv_model.specs.declared.note.Note as bytes
use Rattle.bcv_model.specs.NoteRules.{MayStand}
use Rattle.bcv_model.specs.Notes.{after_note, note_size}
use Rattle.bcv_clientstate.specs.BaseLaws.{FitsLocal, FitsNote}
use Rattle.bcv_clientstate.specs.Journaled.{free_failed, free_noted}
use Rattle.bcv_clientstate.specs.KeptLaws.{IsOrdered}
use Rattle.bcv_clientstate.specs.Parts.{Parts}
use Rattle.bcv_clientstate.specs.SeenClient.{Free, seen_client, side_of}
use Rattle.bcv_clientstate.specs.SeenKept.{seen_note}

-- a note may stand where the client is, over what the log has
pub record MayNote (past : List Item) (p : Parts) (x : bytes.Note) (y : m.Note) : Type 0 where
  pub sound : Sound past
  pub ordered : IsOrdered p.kept
  pub locals : AllByRecursion (FitsLocal past) p.kept.locals
  pub may : MayStand p.kept x
  pub fits : FitsNote past p.kept x
  pub is : seen_note p.kept x ≡ Some y

-- the client that keeps what it keeps after a note
abbrev pub with_note : bytes.Note → Parts → Parts
with_note x p = record p { kept = after_note p.kept x }

-- the machine's client with this, while it is up
abbrev pub while_up : m.Client → m.Up → m.Client
while_up c u = record c { up = Some u }

-- a note that stands is the machine's
abbrev pub StandsAsNoted : Type 0
StandsAsNoted =
    (moment : ℕ) (past : List Item) (p : Parts) (f : Free) (u : m.Up) (x : bytes.Note) (y : m.Note) → MayNote past p x y
    → noted (side_of moment past p f) u y ≡ while_up (seen_client past (with_note x p) (free_noted (note_size x) f)) u

-- so is one that met a fault of the disk
abbrev pub FailsAsNoted : Type 0
FailsAsNoted =
    (moment : ℕ) (past : List Item) (p : Parts) (f : Free) (u : m.Up) (x : bytes.Note) (y : m.Note) → MayNote past p x y
    → note_failed (side_of moment past p f) u y ≡ while_up (seen_client past p (free_failed (note_size x) y f)) (record u { closed = true })

-- where a note but the end of a publication found the journal too full, the machine says that it may be
abbrev pub EndsPublication : m.Note → Type 0
EndsPublication (m.Committing name base w) = ⊥
EndsPublication (m.Reverting name) = ⊥
EndsPublication (m.Intending p) = ⊥
EndsPublication (m.Finishing number) = Unit {0}
EndsPublication m.Voiding = Unit {0}

abbrev pub FullAsNoted : Type 0
FullAsNoted =
    (moment : ℕ) (past : List Item) (p : Parts) (f : Free) (x : bytes.Note) (y : m.Note) → MayNote past p x y → (EndsPublication y → ⊥)
    → 2 ^ 31 < 2 * f.noted + 87 + note_size x → MayBeFull (side_of moment past p f) y
