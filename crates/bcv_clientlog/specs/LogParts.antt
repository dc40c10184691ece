-- What a client's log is made of, and what it holds.
use Rattle.std.specs.Prelude.{◌≡◌, ◌⊎◌, ℕ, ◌+◌, ◌-◌, ◌*◌, ◌<◌, ◌≤◌, Bool, true, List, [], ◌∷◌, is_some}
use Rattle.bcv_disk.specs.DiskShown.{DiskShown}
use Rattle.bcv_journal.specs.Layout.{EndsAt}
use Rattle.bcv_journal.specs.Parts.{HasItems, disk_of, is_closed, start_at, tail_at}
use Rattle.bcv_model.specs.declared.kept.Kept.{Kept}
use Rattle.bcv_model.specs.declared.note.Note.{Note}
use Rattle.bcv_model.specs.NoteRules.{HasRoom}
use Rattle.bcv_model.specs.Notes.{after_note, note_size}
use Rattle.bcv_notes.specs.KeptBy.{AreNotes}
use Rattle.bcv_notes.specs.KeptNotes.{items_size, kept_notes, notes_size}
use Rattle.bcv_clientlog.specs.declared.log.ClientLog.{ClientLog}

-- the disk that it stands on
abbrev pub log_disk : {D : Type 0} {g : _} → ClientLog D g → D
log_disk log = disk_of log.journal

-- the place where its notes begin
abbrev pub log_start : {D : Type 0} {g : _} → ClientLog D g → ℕ
log_start log = start_at log.journal

-- the place after its notes
abbrev pub log_tail : {D : Type 0} {g : _} → ClientLog D g → ℕ
log_tail log = tail_at log.journal

-- the bytes that its notes take
abbrev pub log_area : {D : Type 0} {g : _} → ClientLog D g → ℕ
log_area log = log_tail log - log_start log

-- it met a fault of its disk
abbrev pub is_shut : {D : Type 0} {g : _} → ClientLog D g → Bool
is_shut log = is_closed log.journal

-- a publication is pending in it
abbrev pub is_waiting : {D : Type 0} {g : _} → ClientLog D g → Bool
is_waiting log = log.pending

-- it is long, and more than half of it stays, as far as it was looked into
abbrev pub is_dense : {D : Type 0} {g : _} → ClientLog D g → Bool
is_dense log = log.dense

-- the bytes that the fewest notes take which come to this
abbrev pub size_kept : Kept → ℕ
size_kept k = notes_size (kept_notes k)

-- the bytes load as notes that come to this, the rules on the tail hold, and the tail and the notes' bytes together
-- are no more than this
pub record LoadsAs (bytes : List ℕ) (k : Kept) (most : ℕ) : Type 0 where
  pub items : List (List ℕ)
  pub tail : ℕ
  pub ends : EndsAt bytes items tail
  pub are : AreNotes items k
  pub room : HasRoom k tail
  pub within : tail + items_size items ≤ most

-- a law: bytes load as one thing
abbrev pub LoadsOnce : Type 0
LoadsOnce = (bytes : List ℕ) (a b : Kept) (most long : ℕ) → LoadsAs bytes a most → LoadsAs bytes b long → a ≡ b

-- the image loads as what was kept, or as that with the first of these notes, with two of them, and so on
abbrev pub LoadsUpTo : Kept → ℕ → List Note → List ℕ → Type 0
LoadsUpTo k most [] image = LoadsAs image k most
LoadsUpTo k most (x ∷ xs) image = LoadsAs image k most ⊎ LoadsUpTo (after_note k x) (most + 2 * (5 + note_size x)) xs image

-- an open log that holds this, all of it on its disk
pub record Holds {D : Type 0} {g : _} (shown : D → DiskShown) (log : ClientLog D g) (k : Kept) : Type 0 where
  pub items : List (List ℕ)
  pub has : HasItems shown log.journal items
  pub are : AreNotes items k
  pub waits : is_waiting log ≡ is_some k.pending
  pub room : HasRoom k (log_tail log)
  pub dense : is_dense log ≡ true → log_area log < 2 * (size_kept k + 1)
