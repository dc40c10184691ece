-- What the parts of a restart promise.
use Rattle.std.specs.Prelude.{◌≡◌, ◌≢◌, ◌⊎◌, ℕ, ◌+◌, ◌^◌, ◌≤◌, Bool, not, List, [], ◌∷◌, ◌++◌, length, take, drop, nat_le, if◌then◌else◌}
use Rattle.std.specs.List.{AllByRecursion}
use Rattle.bcv_disk.specs.Crash.{LeavesOnly}
use Rattle.bcv_disk.specs.DiskShown.{DiskShown, DiskTold}
use Rattle.bcv_disk.specs.DiskCalls.{DiskFails}
use Rattle.bcv_disk.specs.Troubles.{counted}
use Rattle.bcv_disk.specs.declared.disk.DiskEnd.{DiskEnd}
use Rattle.bcv_disk.specs.declared.disk.DiskEnd.TheVariants.{Done, Failed, NoMemory}
use Rattle.bcv_journal.specs.Layout.{EndsAt, IsItem, area_of, start_in}
use Rattle.bcv_journal.specs.Settled.{IsEither, IsSettled}
use Rattle.bcv_journal.specs.declared.area.Area.{Area}

-- the bytes that these items take, without the closed gate after them
abbrev pub size_of : List (List ℕ) → ℕ
size_of items = length (area_of items)

-- where a restart puts an area of this size: before the old one where there is room, else after it
abbrev pub new_start : ℕ → ℕ → ℕ → ℕ
new_start size start tail = if nat_le (18 + size) start then 17 else tail + 1

-- the selector that chooses start 1, or start 0
abbrev pub selector_of : Bool → ℕ
selector_of second = if second then 1 else 0

-- the area of these items, the other start being chosen
abbrev pub moved : Area → ℕ → List (List ℕ) → Area
moved area start given = record { start = start; tail = start + size_of given; second = not area.second }

-- the bytes are these items with open gates, and a closed gate after them
abbrev pub IsWholeArea : List ℕ → List (List ℕ) → Type 0
IsWholeArea block given = AllByRecursion IsItem given × (block ≡ area_of given ++ 0 ∷ [])

-- the start of this number leads to these items and a closed gate after them
pub record LeadsTo (bytes : List ℕ) (second : Bool) (start : ℕ) (items : List (List ℕ)) : Type 0 where
  pub low : 17 ≤ start
  pub each : AllByRecursion IsItem items
  pub starts : start_in bytes second ≡ start
  pub gate : ℕ
  pub closed : gate ≢ 1
  pub window : take (size_of items + 1) (drop start bytes) ≡ area_of items ++ gate ∷ []

-- an area of this length at this start leaves the area of a file as it is, and fits
pub record IsApart (area : Area) (start size : ℕ) : Type 0 where
  pub low : 17 ≤ start
  pub upto : start ≤ area.tail + 1
  pub apart : (start + size ≤ area.start) ⊎ (area.tail + 1 ≤ start)
  pub fits : start + size ≤ 2 ^ 31

-- items are laid beside a file's own: a crash at any moment leaves its own
pub record LayTells (old new : DiskShown) (area : Area) (start : ℕ) (given : List (List ℕ)) (result : DiskEnd) (items : List (List ℕ)) : Type 0 where
  pub any_moment : LeavesOnly old new (λ image. EndsAt image items area.tail)
  pub done : result ≡ Done → IsSettled new area items × LeadsTo new.seen (not area.second) start given
  pub kept : result ≡ NoMemory → IsSettled new area items

-- an area is laid at this start, and the start that is not chosen leads to it
pub record DiskLays (told : DiskTold) (old new : DiskShown) (area : Area) (start : ℕ) (block : List ℕ) (result : DiskEnd) : Type 0 where
  pub fails : DiskFails told old new (result ≡ Failed)
  pub calls : told.troubled → result ≡ Done → new.trouble.calls ≡ counted old.trouble.calls 3
  pub room : told.tells → result ≡ Done → start + length block ≤ length new.seen
  pub no_shorter : told.tells → result ≢ Failed → length old.seen ≤ length new.seen
  pub items : told.tells → (items given : List (List ℕ)) → IsSettled old area items → IsWholeArea block given → LayTells old new area start given result items

-- a file's items give way to others: a crash at any moment leaves the ones or the others
pub record MoveTells (old new : DiskShown) (area : Area) (start : ℕ) (given : List (List ℕ)) (result : DiskEnd) (items : List (List ℕ)) : Type 0 where
  pub any_moment : LeavesOnly old new (IsEither items area.tail given (start + size_of given))
  pub done : result ≡ Done → IsSettled new (moved area start given) given
  pub kept : result ≡ NoMemory → IsSettled new area items

-- the other start is chosen
pub record DiskChooses (told : DiskTold) (old new : DiskShown) (area : Area) (result : DiskEnd) : Type 0 where
  pub fails : DiskFails told old new (result ≡ Failed)
  pub calls : told.troubled → result ≡ Done → new.trouble.calls ≡ counted old.trouble.calls 2
  pub no_shorter : told.tells → result ≢ Failed → length old.seen ≤ length new.seen
  pub items : told.tells → (items given : List (List ℕ)) (start : ℕ) → IsSettled old area items → LeadsTo old.seen (not area.second) start given → MoveTells old new area start given result items

-- an area is laid at this start and chosen
pub record DiskMoves (told : DiskTold) (old new : DiskShown) (area : Area) (start : ℕ) (block : List ℕ) (result : DiskEnd) : Type 0 where
  pub fails : DiskFails told old new (result ≡ Failed)
  pub calls : told.troubled → result ≡ Done → new.trouble.calls ≡ counted old.trouble.calls 5
  pub room_done : told.tells → result ≡ Done → start + length block ≤ length new.seen
  pub room_kept : told.tells → result ≡ NoMemory → length old.seen ≤ length new.seen
  pub items : told.tells → (items given : List (List ℕ)) → IsSettled old area items → IsWholeArea block given → MoveTells old new area start given result items
