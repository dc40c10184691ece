-- What the reader of a journal's bytes answers.
use Rattle.std.specs.Prelude.{◌≡◌, ℕ, List, ◌∷◌, length, Err}
use Rattle.bcv_journal.specs.Layout.{IsSpelled, Loads, is_second, tail_of}
use Rattle.bcv_journal.specs.declared.area.Area.{Area}
use Rattle.bcv_journal.specs.declared.fault.JournalFault.{JournalFault}
use Rattle.bcv_journal.specs.declared.fault.JournalFault.TheVariants.{NotJournal, DiskFault, NoMemory}

-- the bytes have these items in this area
pub record IsRead (bytes : List ℕ) (area : Area) (items : List (List ℕ)) : Type 0 where
  pub spelled : IsSpelled bytes items
  pub start_is : area.start ≡ length spelled.front
  pub second_is : area.second ≡ is_second spelled.front
  pub tail_is : area.tail ≡ tail_of area.start items

-- the fault is the bytes' own, or memory ran out
abbrev pub IsReadFault : List ℕ → JournalFault → Type 0
IsReadFault bytes (NotJournal place) = Loads bytes (Err place)
IsReadFault bytes DiskFault = ⊥
IsReadFault bytes NoMemory = Unit {0}

-- no open gate stands at the front
abbrev pub IsShut : List ℕ → Type 0
IsShut rest = (after : List ℕ) → rest ≡ 1 ∷ after → ⊥
