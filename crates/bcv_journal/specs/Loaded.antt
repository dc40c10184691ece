-- What a load gives, journal or refusal.
use Rattle.std.specs.Prelude.{◌≡◌, ℕ, ◌^◌, ◌<◌, ◌≤◌, false, List, length, nat_le, if◌then◌else◌}
use Rattle.std.specs.List.{AllByRecursion}
use Rattle.bcv_disk.specs.Crash.{LeavesOnly}
use Rattle.bcv_disk.specs.DiskShown.{DiskShown, DiskTold}
use Rattle.bcv_disk.specs.DiskCalls.{DiskFails}
use Rattle.bcv_disk.specs.Troubles.{counted}
use Rattle.bcv_journal.specs.Answers.{Refuses}
use Rattle.bcv_journal.specs.Layout.{EndsAt, IsItem, found, tail_of}
use Rattle.bcv_journal.specs.Parts.{HasItems, is_closed, start_at, tail_at}
use Rattle.bcv_journal.specs.Settled.{IsOldOrAlike, items_of}
use Rattle.bcv_journal.specs.declared.fault.JournalFault.TheVariants.{NotJournal, DiskFault, NoMemory}
use Rattle.bcv_journal.specs.declared.load.Load.{Load}
use Rattle.bcv_journal.specs.declared.load.Load.TheVariants.{Ready, Refused}

-- the disk that a load hands on or back
abbrev pub disk_in : {D : Type 0} {g : _} → Load D g → D
disk_in (Ready journal items) = journal.disk
disk_in (Refused disk fault) = disk

-- a journal has the file's items, and nothing is written but a new file's head; a refusal is by the file's bytes
abbrev pub Gives : {D : Type 0} {g : _} → (D → DiskShown) → List ℕ → Load D g → Type 0
Gives shown bytes (Ready journal items) =
    EndsAt bytes (items_of items.items) (tail_at journal) × HasItems shown journal (items_of items.items) × ((shown journal.disk).seen ≡ found bytes)
Gives shown bytes (Refused disk fault) = Refuses bytes (shown disk) fault

abbrev pub IsDiskFault : {D : Type 0} {g : _} → Load D g → Type 0
IsDiskFault (Ready journal items) = ⊥
IsDiskFault (Refused disk fault) = fault ≡ DiskFault

-- whatever the disk, a journal that was loaded takes appends, and its tail is that of the items
abbrev pub IsOpen : {D : Type 0} {g : _} → Load D g → Type 0
IsOpen (Ready journal items) =
    (is_closed journal ≡ false) × (17 ≤ start_at journal) × (tail_at journal ≡ tail_of (start_at journal) (items_of items.items))
    × (tail_at journal < 2 ^ 31) × AllByRecursion IsItem (items_of items.items)
IsOpen (Refused disk fault) = Unit {0}

-- how many calls of the disk a load makes that reads the file: a sync, the length, one read or the write of a new file and a sync
abbrev pub load_calls : List ℕ → ℕ
load_calls bytes = if nat_le (length bytes) 18 then 4 else if nat_le (length bytes) (2 ^ 31) then 3 else 2

-- a load that reads the file makes so many calls, from this count on
abbrev pub CountsLoad : {D : Type 0} {g : _} → (D → DiskShown) → DiskShown → Load D g → Type 0
CountsLoad shown before (Ready journal items) = (shown journal.disk).trouble.calls ≡ counted before.trouble.calls (load_calls before.seen)
CountsLoad shown before (Refused disk (NotJournal place)) = (shown disk).trouble.calls ≡ counted before.trouble.calls (load_calls before.seen)
CountsLoad shown before (Refused disk DiskFault) = Unit {0}
CountsLoad shown before (Refused disk NoMemory) = Unit {0}

-- a load of a disk
pub record JournalLoads {D : Type 0} {g : _} (told : DiskTold) (shown : D → DiskShown) (disk : D) (result : Load D g) : Type 0 where
  pub loaded : told.tells → Gives shown (shown disk).seen result
  pub is_open : IsOpen result
  pub any_moment : told.tells → LeavesOnly (shown disk) (shown (disk_in result)) (IsOldOrAlike (shown disk))
  pub fails : DiskFails told (shown disk) (shown (disk_in result)) (IsDiskFault result)
  pub calls : told.tells → told.troubled → CountsLoad shown (shown disk) result
