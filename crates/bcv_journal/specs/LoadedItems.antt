-- What the parts of a load promise.
use Rattle.std.specs.Prelude.{◌≡◌, ℕ, ◌^◌, ◌<◌, ◌≤◌, List, Result, Ok, Err, Vec}
use Rattle.std.specs.List.{AllByRecursion}
use Rattle.std.specs.declared.alloc.Global.{Global}
use Rattle.bcv_disk.specs.Crash.{LeavesOnly, Only}
use Rattle.bcv_disk.specs.DiskShown.{DiskShown, DiskTold}
use Rattle.bcv_disk.specs.DiskCalls.{DiskFails}
use Rattle.bcv_disk.specs.Troubles.{counted}
use Rattle.bcv_journal.specs.Answers.{Refuses}
use Rattle.bcv_journal.specs.Layout.{EndsAt, IsItem, found, tail_of}
use Rattle.bcv_journal.specs.Settled.{IsOldOrAlike, IsSettled, items_of}
use Rattle.bcv_journal.specs.declared.area.Area.{Area}
use Rattle.bcv_journal.specs.declared.fault.JournalFault.{JournalFault}
use Rattle.bcv_journal.specs.declared.fault.JournalFault.TheVariants.{NotJournal, DiskFault, NoMemory}

-- the items and their area, or why there are none
abbrev pub Outcome : Type 0
Outcome = Result (Vec (Vec ℕ Global) Global × Area) JournalFault

-- whatever the disk, an area is that of the items
pub record IsArea (area : Area) (items : List (List ℕ)) : Type 0 where
  pub start : 17 ≤ area.start
  pub tail : area.tail ≡ tail_of area.start items
  pub short : area.tail < 2 ^ 31
  pub each : AllByRecursion IsItem items

abbrev pub HasArea : Outcome → Type 0
HasArea (Ok r) = IsArea r.1 (items_of r.0.items)
HasArea (Err fault) = Unit {0}

-- the items are those of the bytes and the disk has them, or the refusal is by the bytes
abbrev pub GivesItems : List ℕ → DiskShown → Outcome → Type 0
GivesItems bytes now (Ok r) = EndsAt bytes (items_of r.0.items) r.1.tail × IsSettled now r.1 (items_of r.0.items) × (now.seen ≡ found bytes)
GivesItems bytes now (Err fault) = Refuses bytes now fault

abbrev pub IsDiskRefusal : Outcome → Type 0
IsDiskRefusal (Ok r) = ⊥
IsDiskRefusal (Err fault) = fault ≡ DiskFault

-- where the file was read, so many calls were made
abbrev pub CountsItems : ℕ → DiskShown → DiskShown → Outcome → Type 0
CountsItems calls old new (Ok r) = new.trouble.calls ≡ counted old.trouble.calls calls
CountsItems calls old new (Err (NotJournal place)) = new.trouble.calls ≡ counted old.trouble.calls calls
CountsItems calls old new (Err DiskFault) = Unit {0}
CountsItems calls old new (Err NoMemory) = Unit {0}

-- the items of a file that is synced, in so many calls
pub record PartLoads (told : DiskTold) (old new : DiskShown) (calls : ℕ) (result : Outcome) : Type 0 where
  pub gives : told.tells → Only old.seen old.may_leave → GivesItems old.seen new result
  pub area : HasArea result
  pub any_moment : told.tells → Only old.seen old.may_leave → LeavesOnly old new (IsOldOrAlike old)
  pub fails : DiskFails told old new (IsDiskRefusal result)
  pub counts : told.troubled → CountsItems calls old new result

-- the items of a disk's file
pub record ItemsLoad (told : DiskTold) (old new : DiskShown) (calls : ℕ) (result : Outcome) : Type 0 where
  pub gives : told.tells → GivesItems old.seen new result
  pub area : HasArea result
  pub any_moment : told.tells → LeavesOnly old new (IsOldOrAlike old)
  pub fails : DiskFails told old new (IsDiskRefusal result)
  pub counts : told.tells → told.troubled → CountsItems calls old new result
