-- What a load of a client's log promises.
use Rattle.std.specs.Prelude.{◌≡◌, ◌⊎◌, ℕ, ◌+◌, ◌≤◌, false, List, Err, drop, is_some}
use Rattle.bcv_disk.specs.Crash.{LeavesOnly, Only}
use Rattle.bcv_disk.specs.DiskShown.{DiskShown, DiskTold}
use Rattle.bcv_disk.specs.DiskCalls.{DiskFails}
use Rattle.bcv_disk.specs.Troubles.{counted}
use Rattle.bcv_journal.specs.Layout.{EndsAt, Loads}
use Rattle.bcv_journal.specs.Loaded.{load_calls}
use Rattle.bcv_journal.specs.declared.fault.JournalFault.TheVariants.{NotJournal, DiskFault, NoMemory}
use Rattle.bcv_model.specs.declared.kept.Kept.{Kept}
use Rattle.bcv_model.specs.declared.note.Note.{Note}
use Rattle.bcv_model.specs.NoteRules.{Folds, HasRoom}
use Rattle.bcv_model.specs.Notes.{nothing_kept}
use Rattle.bcv_notes.specs.KeptBy.{AreNotes, StopsAt}
use Rattle.bcv_notes.specs.KeptNotes.{items_size}
use Rattle.bcv_clientlog.specs.declared.load.LogLoad.{LogLoad}
use Rattle.bcv_clientlog.specs.declared.load.LogLoad.TheVariants.{Ready, Refused}
use Rattle.bcv_clientlog.specs.declared.log.ClientLog.{ClientLog}
use Rattle.bcv_clientlog.specs.LogParts.{Holds, LoadsAs, is_shut, is_waiting, log_area, log_disk, log_tail}

-- the disk that a load hands on or back
abbrev pub loaded_disk : {D : Type 0} {g : _} → LogLoad D g → D
loaded_disk (Ready log kept) = log_disk log
loaded_disk (Refused disk fault) = disk

-- the file's item of some number is refused, and this is the place of its gate: the bytes before the items, and
-- those of
-- the items in front of it
pub record IsRefusedAt (bytes : List ℕ) (place : ℕ) : Type 0 where
  pub items : List (List ℕ)
  pub tail : ℕ
  pub ends : EndsAt bytes items tail
  pub number : ℕ
  pub stops : StopsAt items number
  pub is_place : place + items_size (drop number items) ≡ tail

-- the notes break a rule on the tail, and this is the tail
pub record HasNoRoom (bytes : List ℕ) (place : ℕ) : Type 0 where
  pub items : List (List ℕ)
  pub ends : EndsAt bytes items place
  pub kept : Kept
  pub are : AreNotes items kept
  pub breaks : HasRoom kept place → ⊥

-- the bytes are no log, for what stands at this place
abbrev pub IsNoLog : List ℕ → ℕ → Type 0
IsNoLog bytes place = Loads bytes (Err place) ⊎ (IsRefusedAt bytes place ⊎ HasNoRoom bytes place)

-- a log holds what the bytes load as, and a refusal is by the bytes, which the disk has still
abbrev pub LogGives : {D : Type 0} {g : _} → (D → DiskShown) → List ℕ → LogLoad D g → Type 0
LogGives shown bytes (Ready log kept) = LoadsAs bytes kept (log_tail log + log_area log) × Holds shown log kept
LogGives shown bytes (Refused disk (NotJournal place)) = IsNoLog bytes place × ((shown disk).seen ≡ bytes) × Only bytes (shown disk).may_leave
LogGives shown bytes (Refused disk DiskFault) = Unit {0}
LogGives shown bytes (Refused disk NoMemory) = Unit {0}

-- bytes that load as notes which come to something give this and no other, and are not refused; the log is no longer
-- than those bytes
abbrev pub GivesOnly : {D : Type 0} {g : _} → List ℕ → LogLoad D g → Type 0
GivesOnly bytes (Ready log kept) = (k : Kept) (most : ℕ) → LoadsAs bytes k most → (kept ≡ k) × (log_tail log + log_area log ≤ most)
GivesOnly bytes (Refused disk (NotJournal place)) = (k : Kept) (most : ℕ) → LoadsAs bytes k most → ⊥
GivesOnly bytes (Refused disk DiskFault) = Unit {0}
GivesOnly bytes (Refused disk NoMemory) = Unit {0}

abbrev pub LoadFails : {D : Type 0} {g : _} → LogLoad D g → Type 0
LoadFails (Ready log kept) = ⊥
LoadFails (Refused disk fault) = fault ≡ DiskFault

-- the log takes notes and has the room that what is kept needs, and this is what some notes come to, each of which may
-- stand where it stands
pub record IsLoadedLog {D : Type 0} {g : _} (log : ClientLog D g) (kept : Kept) : Type 0 where
  pub is_open : is_shut log ≡ false
  pub waits : is_waiting log ≡ is_some kept.pending
  pub room : HasRoom kept (log_tail log)
  pub notes : List Note
  pub folds : Folds nothing_kept notes kept

-- whatever the disk, so is a log that was loaded
abbrev pub TakesNotes : {D : Type 0} {g : _} → LogLoad D g → Type 0
TakesNotes (Ready log kept) = IsLoadedLog log kept
TakesNotes (Refused disk fault) = Unit {0}

-- the image was possible before, or loads as the file does
abbrev pub IsOldOrSame : DiskShown → List ℕ → Type 0
IsOldOrSame before image = before.may_leave image ⊎ ((k : Kept) (most : ℕ) → LoadsAs before.seen k most → LoadsAs image k most)

-- a load that reads the file makes so many calls of the disk, from this count on
abbrev pub CountsLogLoad : {D : Type 0} {g : _} → (D → DiskShown) → DiskShown → LogLoad D g → Type 0
CountsLogLoad shown before (Ready log kept) = (shown (log_disk log)).trouble.calls ≡ counted before.trouble.calls (load_calls before.seen)
CountsLogLoad shown before (Refused disk (NotJournal place)) = (shown disk).trouble.calls ≡ counted before.trouble.calls (load_calls before.seen)
CountsLogLoad shown before (Refused disk DiskFault) = Unit {0}
CountsLogLoad shown before (Refused disk NoMemory) = Unit {0}

-- a load of a disk
pub record LogLoads {D : Type 0} {g : _} (told : DiskTold) (shown : D → DiskShown) (disk : D) (result : LogLoad D g) : Type 0 where
  pub loaded : told.tells → LogGives shown (shown disk).seen result
  pub only : told.tells → GivesOnly (shown disk).seen result
  pub takes : TakesNotes result
  pub any_moment : told.tells → LeavesOnly (shown disk) (shown (loaded_disk result)) (IsOldOrSame (shown disk))
  pub fails : DiskFails told (shown disk) (shown (loaded_disk result)) (LoadFails result)
  pub calls : told.tells → told.troubled → CountsLogLoad shown (shown disk) result
