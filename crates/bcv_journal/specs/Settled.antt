-- What a journal and its disk hold, and what its calls may leave.
use Rattle.std.specs.Prelude.{◌≡◌, ◌⊎◌, ℕ, ◌+◌, ◌^◌, ◌≤◌, List, [], ◌∷◌, ◌++◌, length, Result, map, Vec}
use Rattle.std.specs.declared.alloc.Global.{Global}
use Rattle.bcv_disk.specs.Crash.{Only}
use Rattle.bcv_disk.specs.DiskShown.{DiskShown}
use Rattle.bcv_journal.specs.Layout.{EndsAt, IsSpelled, Loads, is_second, tail_of}
use Rattle.bcv_journal.specs.declared.area.Area.{Area}

-- the bytes of each vector
abbrev pub items_of : List (Vec ℕ Global) → List (List ℕ)
items_of vectors = map (λ (v : Vec ℕ Global). v.items) vectors

-- a file with these items in this area, all of it on the disk
pub record IsSettled (shown : DiskShown) (area : Area) (items : List (List ℕ)) : Type 0 where
  pub spelled : IsSpelled shown.seen items
  pub short : length shown.seen ≤ 2 ^ 31
  pub start_is : area.start ≡ length spelled.front
  pub second_is : area.second ≡ is_second spelled.front
  pub tail_is : area.tail ≡ tail_of area.start items
  pub durable : Only shown.seen shown.may_leave

-- the image loads as the one list of items or as the other, each with its tail
abbrev pub IsEither : List (List ℕ) → ℕ → List (List ℕ) → ℕ → List ℕ → Type 0
IsEither old tail new after image = EndsAt image old tail ⊎ EndsAt image new after

-- the image loads as the items, which end at this tail, or as those and one more
abbrev pub IsBeforeOrAfter : List (List ℕ) → ℕ → List ℕ → List ℕ → Type 0
IsBeforeOrAfter items tail item image = IsEither items tail (items ++ item ∷ []) (tail + 5 + length item) image

-- the image loads as the file does, with the same tail
abbrev pub LoadsAlike : List ℕ → List ℕ → Type 0
LoadsAlike bytes image =
    ((outcome : Result (List (List ℕ)) ℕ) → Loads bytes outcome → Loads image outcome) × ((items : List (List ℕ)) (tail : ℕ) → EndsAt bytes items tail → EndsAt image items tail)

-- the image was possible before, or loads as the file does
abbrev pub IsOldOrAlike : DiskShown → List ℕ → Type 0
IsOldOrAlike before image = before.may_leave image ⊎ LoadsAlike before.seen image
