-- What a journal is made of, for the contracts of the crates above.
use Rattle.std.specs.Prelude.{◌≡◌, ℕ, Bool, false, List}
use Rattle.bcv_disk.specs.DiskShown.{DiskShown}
use Rattle.bcv_journal.specs.Layout.{EndsAt}
use Rattle.bcv_journal.specs.Settled.{IsSettled}
use Rattle.bcv_journal.specs.declared.journal.Journal.{Journal}

-- the disk that it stands on
abbrev pub disk_of : {D : Type 0} {g : _} → Journal D g → D
disk_of journal = journal.disk

-- the place of its first item's gate
abbrev pub start_at : {D : Type 0} {g : _} → Journal D g → ℕ
start_at journal = journal.area.start

-- the place of the closed gate after its items
abbrev pub tail_at : {D : Type 0} {g : _} → Journal D g → ℕ
tail_at journal = journal.area.tail

-- it met a fault of its disk
abbrev pub is_closed : {D : Type 0} {g : _} → Journal D g → Bool
is_closed journal = journal.closed

-- it is open and has these items, all of them on its disk
abbrev pub HasItems : {D : Type 0} {g : _} → (D → DiskShown) → Journal D g → List (List ℕ) → Type 0
HasItems shown journal items = (journal.closed ≡ false) × IsSettled (shown journal.disk) journal.area items

-- a crash at this moment leaves these items, which end at this tail
abbrev pub LeavesItems : DiskShown → List (List ℕ) → ℕ → Type 0
LeavesItems shown items tail = (image : List ℕ) → shown.may_leave image → EndsAt image items tail
