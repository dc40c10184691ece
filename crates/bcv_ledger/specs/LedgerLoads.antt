-- A ledger that was loaded or stands over a log, and the first note of a new one.
use Rattle.std.specs.Prelude.{◌≡◌, ◌⊎◌, Bool, true, false, []}
use Rattle.bcv_base.specs.declared.id.Id16.{Id16}
use Rattle.bcv_clientlog.specs.declared.load.LogLoad.{LogLoad}
use Rattle.bcv_clientlog.specs.declared.load.LogLoad.TheVariants as log_load
use Rattle.bcv_clientlog.specs.declared.log.ClientLog.{ClientLog}
use Rattle.bcv_clientlog.specs.LogLoads.{LogLoads}
use Rattle.bcv_clientlog.specs.LogParts.{log_disk}
use Rattle.bcv_clientlog.specs.Noting.{LogNotes}
use Rattle.bcv_databases.specs.Catalog.{Catalog}
use Rattle.bcv_disk.specs.DiskShown.{DiskShown, DiskTold}
use Rattle.bcv_journal.specs.declared.fault.JournalFault.TheVariants as fault
use Rattle.bcv_journal.specs.declared.fault.Noted.{Noted}
use Rattle.bcv_journal.specs.declared.fault.Noted.TheVariants as noted
use Rattle.bcv_model.specs.declared.kept.Kept.{Kept}
use Rattle.bcv_model.specs.declared.note.Note.TheVariants as note
use Rattle.bcv_model.specs.Notes.{after_note, nothing_kept}
use Rattle.bcv_ledger.specs.LedgerNotes.{stands}
use Rattle.bcv_ledger.specs.LocalCalls.{IsUnmoved}
use Rattle.bcv_ledger.specs.declared.ledger.Ledger.{Ledger}
use Rattle.bcv_ledger.specs.declared.load.LedgerLoad.{LedgerLoad}
use Rattle.bcv_ledger.specs.declared.load.LedgerLoad.TheVariants as load

-- ---- over a log

-- the ledger has this log and keeps this, and knows nothing else
pub record Has {D : Type 0} {g : _} (log : ClientLog D g) (k : Kept) (l : Ledger D g) : Type 0 where
  pub log_is : l.log ≡ log
  pub kept : l.databases.kept ≡ k
  pub known : l.databases.known ≡ []

-- or memory was missing, and the log's disk is back
abbrev pub IsOver : {D : Type 0} {g : _} → ClientLog D g → Kept → LedgerLoad D g → Type 0
IsOver log k (load.Ready l) = Has log k l
IsOver log k (load.Refused disk why) = (disk ≡ log_disk log) × (why ≡ fault.NoMemory)

-- ---- over a disk

-- what a load of a ledger is as one of its log
abbrev pub log_loaded : {D : Type 0} {g : _} → LedgerLoad D g → LogLoad D g
log_loaded (load.Ready l) = log_load.Ready l.log l.databases.kept
log_loaded (load.Refused disk why) = log_load.Refused disk why

-- no database without commits is known
abbrev pub KnowsNone : {D : Type 0} {g : _} → LedgerLoad D g → Type 0
KnowsNone (load.Ready l) = l.databases.known ≡ []
KnowsNone (load.Refused disk why) = Unit {0}

-- a load of a disk: the ledger keeps what its log was loaded with, or the log's refusal is answered, or memory was missing
pub record LedgerLoads {D : Type 0} {g : _} (told : DiskTold) (shown : D → DiskShown) (disk : D) (result : LedgerLoad D g) : Type 0 where
  pub log : LogLoads told shown disk (log_loaded result)
  pub known : KnowsNone result

-- ---- the first note

-- where the note of the id stands, it is kept and nothing else, and else nothing changes
abbrev pub NamedWhere : Bool → Catalog → Catalog → Id16 → Type 0
NamedWhere true old new id = (new.kept ≡ after_note nothing_kept (note.Me id)) × (new.known ≡ [])
NamedWhere false old new id = new ≡ old

-- the note of the id is tried of the log
pub record MeTried {D : Type 0} {g : _} (told : DiskTold) (shown : D → DiskShown) (old new : Ledger D g) (id : Id16) (result : Noted) : Type 0 where
  pub notes : LogNotes told shown old.log new.log (note.Me id) result
  pub databases : NamedWhere (stands result) old.databases new.databases id

-- the id is noted over a log that keeps nothing, or memory was missing before
abbrev pub NotesMe : {D : Type 0} {g : _} → DiskTold → (D → DiskShown) → Ledger D g → Ledger D g → Id16 → Noted → Type 0
NotesMe told shown old new id result = ((result ≡ noted.NoMemory) × IsUnmoved old new) ⊎ MeTried told shown old new id result
