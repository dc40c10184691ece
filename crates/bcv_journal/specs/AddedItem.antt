-- What the two writes of an append promise.
use Rattle.std.specs.Prelude.{◌≡◌, ℕ, ◌+◌, ◌<◌, List, [], ◌∷◌, ◌++◌, length}
use Rattle.bcv_disk.specs.Crash.{LeavesOnly, put}
use Rattle.bcv_disk.specs.DiskShown.{DiskShown, DiskTold}
use Rattle.bcv_disk.specs.DiskCalls.{DiskFails}
use Rattle.bcv_disk.specs.Troubles.{counted}
use Rattle.bcv_disk.specs.declared.disk.DiskEnd.{DiskEnd}
use Rattle.bcv_disk.specs.declared.disk.DiskEnd.TheVariants.{Done, Failed, NoMemory}
use Rattle.bcv_journal.specs.Layout.{open_item}
use Rattle.bcv_journal.specs.Settled.{IsBeforeOrAfter, IsSettled}
use Rattle.bcv_journal.specs.declared.area.Area.{Area}

-- an area with so many bytes more at its tail
abbrev pub longer : Area → ℕ → Area
longer area more = record area { tail = area.tail + more }

-- a file with these items gets one more
pub record ItemTells (old new : DiskShown) (area : Area) (item : List ℕ) (result : DiskEnd) (items : List (List ℕ)) : Type 0 where
  pub any_moment : LeavesOnly old new (IsBeforeOrAfter items area.tail item)
  pub done : result ≡ Done → IsSettled new (longer area (5 + length item)) (items ++ item ∷ [])
  pub kept : result ≡ NoMemory → IsSettled new area items

-- an item is added at the tail of an area
pub record DiskAdds (told : DiskTold) (old new : DiskShown) (area : Area) (item : List ℕ) (result : DiskEnd) : Type 0 where
  pub fails : DiskFails told old new (result ≡ Failed)
  pub calls : told.troubled → result ≡ Done → new.trouble.calls ≡ counted old.trouble.calls 4
  pub bytes_are : told.tells → result ≡ Done → new.seen ≡ put old.seen area.tail (open_item item ++ 0 ∷ [])
  -- the new gate and the old one have their places
  pub room_done : told.tells → result ≡ Done → area.tail + 5 + length item < length new.seen
  pub room_kept : told.tells → result ≡ NoMemory → area.tail < length new.seen
  pub items : told.tells → (items : List (List ℕ)) → IsSettled old area items → ItemTells old new area item result items
