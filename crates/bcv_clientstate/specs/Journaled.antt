-- What ties the journal of a client to what it keeps: every image that a crash may leave holds this, with or without the note in
-- flight; and what a note comes to.
use Rattle.std.specs.Prelude.{◌≡◌, ◌⊎◌, ℕ, ◌+◌, ◌*◌, ◌^◌, ◌<◌, ◌≤◌, false, List, Option, Some, None}
use Rattle.bcv_clientlog.specs.declared.log.ClientLog.{ClientLog}
use Rattle.bcv_clientlog.specs.LogParts.{Holds, LoadsAs, is_shut, log_area, log_disk, log_start, log_tail}
use Rattle.bcv_clientlog.specs.Noting.{LogCompacts, LogNotes}
use Rattle.bcv_disk.specs.DiskShown.{DiskShown, DiskTold}
use Rattle.bcv_journal.specs.declared.fault.Noted.{Noted}
use Rattle.bcv_journal.specs.declared.fault.Noted.TheVariants.{Done, JournalFull, DiskFault, Closed, NoMemory}
use Rattle.bcv_machine.specs.State as m
use Rattle.bcv_model.specs.declared.kept.Kept.{Kept}
use Rattle.bcv_model.specs.declared.note.Note as bytes
use Rattle.bcv_model.specs.NoteRules.{MayStand}
use Rattle.bcv_model.specs.Notes.{after_note, note_size}
use Rattle.bcv_clientstate.specs.SeenClient.{Free}
use Rattle.bcv_clientstate.specs.SeenKept.{seen_note}

-- what the tail of a log and the bytes of its notes come to at most, together, by the bytes noted
abbrev pub most_of : Free → ℕ
most_of f = 17 + 2 * f.noted

-- the image holds what is kept with the note in flight
pub record HoldsFlight (image : List ℕ) (k : Kept) (most : ℕ) (flight : Option m.Note) : Type 0 where
  pub note : bytes.Note
  pub may : MayStand k note
  pub seen : m.Note
  pub is_seen : seen_note k note ≡ Some seen
  pub flies : flight ≡ Some seen
  pub loads : LoadsAs image (after_note k note) most

-- an image holds what is kept, or that with the note in flight
abbrev pub HoldsKept : List ℕ → Kept → ℕ → Option m.Note → Type 0
HoldsKept image k most flight = LoadsAs image k most ⊎ HoldsFlight image k most flight

-- the log of a client that is up
pub record Journaled {D : Type 0} {g : _} (shown : D → DiskShown) (log : ClientLog D g) (k : Kept) (f : Free) : Type 0 where
  pub settled : is_shut log ≡ false → Holds shown log k
  pub still : is_shut log ≡ false → f.flight ≡ None
  pub images : (image : List ℕ) → (shown (log_disk log)).may_leave image → HoldsKept image k (most_of f) f.flight
  pub within : log_tail log + log_area log ≤ most_of f

-- ---- after a note

-- the note was noted
abbrev pub free_noted : ℕ → Free → Free
free_noted size f = record f { noted = f.noted + (5 + size) }

-- a device call failed: the note is in flight
abbrev pub free_failed : ℕ → m.Note → Free → Free
free_failed size y f = record f { failing = false; noted = f.noted + (5 + size); flight = Some y }

-- where the note of so many bytes is tried, its answer says what the client keeps then and what is in flight; the journal is too
-- full only where the machine says that it may be
abbrev pub NoteGoes : {D : Type 0} {g : _} → (D → DiskShown) → ClientLog D g → Kept → Free → bytes.Note → m.Note → Noted → Type 0
NoteGoes shown new k f x y Done = Journaled shown new (after_note k x) (free_noted (note_size x) f)
NoteGoes shown new k f x y JournalFull = Journaled shown new k f × (2 ^ 31 < 2 * f.noted + 87 + note_size x)
NoteGoes shown new k f x y DiskFault = Journaled shown new k (free_failed (note_size x) y f)
NoteGoes shown new k f x y NoMemory = Journaled shown new k f
NoteGoes shown new k f x y Closed = ⊥

-- a note that may stand is tried of an open log that holds what the client keeps; a crash now is one since the call began, and
-- what a log holds at rest is what a crash leaves of it
pub record IsTried {D : Type 0} {g : _} (shown : D → DiskShown) (old new : ClientLog D g) (k : Kept) (f : Free) (x : bytes.Note) (y : m.Note) : Type 0 where
  pub journaled : Journaled shown old k f
  pub is_open : is_shut old ≡ false
  pub may : MayStand k x
  pub is : seen_note k x ≡ Some y
  pub now : (image : List ℕ) → (shown (log_disk new)).may_leave image → (shown (log_disk new)).left_since (shown (log_disk old)).moment image
  pub rest : (kept : Kept) → Holds shown new kept → (image : List ℕ) → (shown (log_disk new)).may_leave image → LoadsAs image kept (log_tail new + log_area new)

-- a note that is added to the others goes so
abbrev pub NoteGoesOn : {D : Type 0} {g : _} → DiskTold → (D → DiskShown) → ClientLog D g → ClientLog D g → Type 0
NoteGoesOn told shown old new =
    (k : Kept) (f : Free) (x : bytes.Note) (y : m.Note) (result : Noted) → told.tells → IsTried shown old new k f x y → LogNotes told shown old new x result
    → NoteGoes shown new k f x y result

-- and so does one before which the log may be written anew
abbrev pub CompactGoesOn : {D : Type 0} {g : _} → DiskTold → (D → DiskShown) → ClientLog D g → ClientLog D g → Type 0
CompactGoesOn told shown old new =
    (k : Kept) (f : Free) (x : bytes.Note) (y : m.Note) (result : Noted) → told.tells → log_start old ≤ log_tail old → IsTried shown old new k f x y → LogCompacts told shown old new k x result
    → NoteGoes shown new k f x y result
