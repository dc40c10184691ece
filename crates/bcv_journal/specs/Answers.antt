-- What a load hands back with a refusal.
use Rattle.std.specs.Prelude.{◌≡◌, ℕ, List, Err}
use Rattle.bcv_disk.specs.Crash.{Only}
use Rattle.bcv_disk.specs.DiskShown.{DiskShown}
use Rattle.bcv_journal.specs.Layout.{Loads}
use Rattle.bcv_journal.specs.declared.fault.JournalFault.{JournalFault}
use Rattle.bcv_journal.specs.declared.fault.JournalFault.TheVariants.{NotJournal, DiskFault, NoMemory}

-- a refusal by this fault, of the file that stood there before and the disk that is handed back
abbrev pub Refuses : List ℕ → DiskShown → JournalFault → Type 0
Refuses bytes now (NotJournal place) = Loads bytes (Err place) × (now.seen ≡ bytes) × Only bytes now.may_leave
Refuses bytes now DiskFault = Unit {0}
Refuses bytes now NoMemory = (now.seen ≡ bytes) × Only bytes now.may_leave
