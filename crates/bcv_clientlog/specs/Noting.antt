-- What a call that notes something promises, from the log before the call and after it.
use Rattle.std.specs.Prelude.{◌≡◌, ◌≢◌, ◌⊎◌, ◌↔◌, ℕ, ◌+◌, ◌*◌, ◌^◌, ◌<◌, ◌≤◌, Bool, true, false, [], ◌∷◌, length}
use Rattle.bcv_disk.specs.Crash.{LeavesOnly}
use Rattle.bcv_disk.specs.DiskShown.{DiskShown, DiskTold, Trouble}
use Rattle.bcv_disk.specs.DiskCalls.{DiskFails, DiskPlans}
use Rattle.bcv_disk.specs.Troubles.{counted}
use Rattle.bcv_journal.specs.declared.fault.Noted.{Noted}
use Rattle.bcv_journal.specs.declared.fault.Noted.TheVariants.{Done, JournalFull, DiskFault, Closed, NoMemory}
use Rattle.bcv_model.specs.declared.kept.Kept.{Kept}
use Rattle.bcv_model.specs.declared.note.Note.{Note}
use Rattle.bcv_model.specs.declared.note.Note.TheVariants as note
use Rattle.bcv_model.specs.Notes.{after_note, note_size, note_text}
use Rattle.bcv_model.specs.NoteRules.{MayStand}
use Rattle.bcv_clientlog.specs.declared.log.ClientLog.{ClientLog}
use Rattle.bcv_clientlog.specs.Compaction.{MovesTo}
use Rattle.bcv_clientlog.specs.LogParts.{Holds, LoadsUpTo, is_shut, is_waiting, log_area, log_disk, log_start, log_tail, size_kept}

-- how many bytes stay free after a note, so that a publication which began can end
abbrev pub spare_after : Note → ℕ
spare_after (note.Me id) = 64
spare_after (note.First entry number block c) = 64
spare_after (note.Committed db c) = 64
spare_after (note.Intent p) = 64
spare_after (note.Done id number) = 0
spare_after (note.Void id) = 0
spare_after (note.Revert db) = 64

-- whether a publication is pending after a note
abbrev pub waits_by : Note → Bool → Bool
waits_by (note.Me id) b = b
waits_by (note.First entry number block c) b = b
waits_by (note.Committed db c) b = b
waits_by (note.Intent p) b = true
waits_by (note.Done id number) b = false
waits_by (note.Void id) b = false
waits_by (note.Revert db) b = b

-- whatever the disk: when a call is refused, and what it leaves
pub record NoteLeaves {D : Type 0} {g : _} (told : DiskTold) (shown : D → DiskShown) (old new : ClientLog D g) (x : Note) (result : Noted) : Type 0 where
  pub closed : (result ≡ Closed) ↔ (is_shut old ≡ true)
  -- a fault closes the log, and nothing else does
  pub shuts : (is_shut new ≡ true) ↔ ((is_shut old ≡ true) ⊎ (result ≡ DiskFault))
  pub stays : result ≡ Closed → log_disk new ≡ log_disk old
  -- the note, its gate and what stays free would pass the limit of a file, and only then is it full
  pub full : result ≡ JournalFull → 2 ^ 31 < log_tail new + 6 + length (note_text x) + spare_after x
  pub room : result ≡ Done → log_tail new + 1 + spare_after x ≤ 2 ^ 31
  pub waits : result ≡ Done → is_waiting new ≡ waits_by x (is_waiting old)
  pub still : result ≢ Done → is_waiting new ≡ is_waiting old
  pub fails : DiskFails told (shown (log_disk old)) (shown (log_disk new)) (result ≡ DiskFault)

-- a note that may stand where this is kept; it goes after notes that begin and end there, in so many calls of the
-- disk
pub record NoteTells {D : Type 0} {g : _} (told : DiskTold) (shown : D → DiskShown) (old new : ClientLog D g) (x : Note) (result : Noted) (k : Kept) (begin end calls : ℕ) : Type 0 where
  -- a crash at any moment of the call leaves what was kept, or that with the note
  pub any_moment : LeavesOnly (shown (log_disk old)) (shown (log_disk new)) (LoadsUpTo k (log_tail old + log_area old) (x ∷ []))
  pub done : result ≡ Done → Holds shown new (after_note k x)
  pub kept : (result ≡ NoMemory) ⊎ (result ≡ JournalFull) → Holds shown new k
  pub starts : result ≡ Done → log_start new ≡ begin
  pub ends : result ≡ Done → log_tail new ≡ end + 5 + note_size x
  pub fits : result ≡ Done → end + 6 + note_size x + spare_after x ≤ 2 ^ 31
  pub full : result ≡ JournalFull → 2 ^ 31 < end + 6 + note_size x + spare_after x
  -- tail and notes' bytes together grow by twice what the note takes, or not at all
  pub within : log_tail new + log_area new ≤ log_tail old + log_area old + 2 * (5 + note_size x)
  pub unnoted : result ≢ Done → log_tail new + log_area new ≤ log_tail old + log_area old
  pub counts : told.troubled → result ≡ Done → (shown (log_disk new)).trouble.calls ≡ counted (shown (log_disk old)).trouble.calls calls

-- a note is tried after the others
pub record LogNotes {D : Type 0} {g : _} (told : DiskTold) (shown : D → DiskShown) (old new : ClientLog D g) (x : Note) (result : Noted) : Type 0 where
  pub leaves : NoteLeaves told shown old new x result
  pub tells : told.tells → (k : Kept) → Holds shown old k → MayStand k x → NoteTells told shown old new x result k (log_start old) (log_tail old) 4

-- what a note does that goes after the fewest notes which come to what is kept, where these take the others' place
-- first
pub record CompactNoteTells {D : Type 0} {g : _} (told : DiskTold) (shown : D → DiskShown) (old new : ClientLog D g) (k : Kept) (x : Note) (result : Noted) : Type 0 where
  pub begin : ℕ
  pub end : ℕ
  pub calls : ℕ
  pub moves : MovesTo (log_start old) (log_tail old) (size_kept k) (note_size x) begin end calls
  pub tells : NoteTells told shown old new x result k begin end calls
  -- a long log is not mostly dead, but where the file has no room for it beside itself
  pub area : result ≡ Done → log_tail old + 71 + size_kept k + note_size x ≤ 2 ^ 31 → log_area new ≤ 65536 + 2 * (size_kept k + 1) + 5 + note_size x

-- a note is tried, and the log is written anew before it, where more than half of it is dead
pub record LogCompacts {D : Type 0} {g : _} (told : DiskTold) (shown : D → DiskShown) (old new : ClientLog D g) (k : Kept) (x : Note) (result : Noted) : Type 0 where
  pub leaves : NoteLeaves told shown old new x result
  pub tells : told.tells → Holds shown old k → MayStand k x → CompactNoteTells told shown old new k x result

-- the troubles of the disk are planned to be these, and nothing else changes
pub record LogPlans {D : Type 0} {g : _} (shown : D → DiskShown) (old new : ClientLog D g) (planned : Trouble) : Type 0 where
  pub disk : DiskPlans (shown (log_disk old)) (shown (log_disk new)) planned
  pub start : log_start new ≡ log_start old
  pub tail : log_tail new ≡ log_tail old
  pub shut : is_shut new ≡ is_shut old
  pub waits : is_waiting new ≡ is_waiting old
  pub holds : (k : Kept) → Holds shown old k → Holds shown new k
