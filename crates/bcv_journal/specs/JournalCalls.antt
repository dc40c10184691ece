-- What the calls of a journal promise, from the journal before the call and after it.
use Rattle.std.specs.Prelude.{◌≡◌, ◌≢◌, ◌⊎◌, ◌↔◌, ℕ, ◌+◌, ◌^◌, ◌<◌, true, false, List, [], ◌∷◌, ◌++◌, length}
use Rattle.bcv_disk.specs.Crash.{LeavesOnly, put}
use Rattle.bcv_disk.specs.DiskShown.{DiskShown, DiskTold, Trouble}
use Rattle.bcv_disk.specs.DiskCalls.{DiskFails, DiskPlans}
use Rattle.bcv_disk.specs.Troubles.{counted}
use Rattle.bcv_journal.specs.Layout.{open_item}
use Rattle.bcv_journal.specs.Moved.{new_start, size_of}
use Rattle.bcv_journal.specs.Parts.{HasItems, disk_of, is_closed, start_at, tail_at}
use Rattle.bcv_journal.specs.Settled.{IsBeforeOrAfter, IsEither}
use Rattle.bcv_journal.specs.declared.fault.Noted.{Noted}
use Rattle.bcv_journal.specs.declared.fault.Noted.TheVariants.{Done, JournalFull, DiskFault, Closed, NoMemory}
use Rattle.bcv_journal.specs.declared.journal.Journal.{Journal}

-- what an append does to the items of a journal that has them, at every moment and at its end
pub record AppendTells {D : Type 0} {g : _} (shown : D → DiskShown) (old new : Journal D g) (bytes : List ℕ) (result : Noted) (items : List (List ℕ)) : Type 0 where
  -- a crash at any moment of the call leaves the items before it, or those and the new one
  pub any_moment : LeavesOnly (shown (disk_of old)) (shown (disk_of new)) (IsBeforeOrAfter items (tail_at old) bytes)
  pub done : result ≡ Done → HasItems shown new (items ++ bytes ∷ [])
  pub kept : (result ≡ NoMemory) ⊎ (result ≡ JournalFull) → HasItems shown new items

-- an append of these bytes that leaves so much room after them
pub record JournalAppends {D : Type 0} {g : _} (told : DiskTold) (shown : D → DiskShown) (old new : Journal D g) (bytes : List ℕ) (spare : ℕ) (result : Noted) : Type 0 where
  -- when each answer comes
  pub closed : (result ≡ Closed) ↔ (is_closed old ≡ true)
  pub full : (result ≡ JournalFull) ↔ ((is_closed old ≡ false) × (2 ^ 31 < tail_at old + 6 + length bytes + spare))
  pub fails : DiskFails told (shown (disk_of old)) (shown (disk_of new)) (result ≡ DiskFault)
  -- a fault closes the journal, and nothing else does
  pub shuts : (is_closed new ≡ true) ↔ ((is_closed old ≡ true) ⊎ (result ≡ DiskFault))
  pub start : start_at new ≡ start_at old
  pub tail : result ≡ Done → tail_at new ≡ tail_at old + 5 + length bytes
  pub tail_stays : result ≢ Done → tail_at new ≡ tail_at old
  pub refused : (result ≡ Closed) ⊎ (result ≡ JournalFull) → disk_of new ≡ disk_of old
  pub calls : told.troubled → result ≡ Done → (shown (disk_of new)).trouble.calls ≡ counted (shown (disk_of old)).trouble.calls 4
  -- the item stands at the tail, with an open gate before it and a closed one after it
  pub bytes_are : told.tells → result ≡ Done → (shown (disk_of new)).seen ≡ put (shown (disk_of old)).seen (tail_at old) (open_item bytes ++ 0 ∷ [])
  pub items : told.tells → (items : List (List ℕ)) → HasItems shown old items → AppendTells shown old new bytes result items

-- what a restart does to the items of a journal that has them, at every moment and at its end
pub record RestartTells {D : Type 0} {g : _} (shown : D → DiskShown) (old new : Journal D g) (given : List (List ℕ)) (result : Noted) (items : List (List ℕ)) : Type 0 where
  -- a crash at any moment of the call leaves the items before it, or the given ones
  pub any_moment : LeavesOnly (shown (disk_of old)) (shown (disk_of new)) (IsEither items (tail_at old) given (new_start (size_of given) (start_at old) (tail_at old) + size_of given))
  pub done : result ≡ Done → HasItems shown new given
  pub kept : result ≡ NoMemory → HasItems shown new items

-- a restart with these items
pub record JournalRestarts {D : Type 0} {g : _} (told : DiskTold) (shown : D → DiskShown) (old new : Journal D g) (given : List (List ℕ)) (result : Noted) : Type 0 where
  -- when each answer comes
  pub closed : (result ≡ Closed) ↔ (is_closed old ≡ true)
  pub never_full : result ≢ JournalFull
  pub fails : DiskFails told (shown (disk_of old)) (shown (disk_of new)) (result ≡ DiskFault)
  -- a fault closes the journal, and nothing else does
  pub shuts : (is_closed new ≡ true) ↔ ((is_closed old ≡ true) ⊎ (result ≡ DiskFault))
  pub start : result ≡ Done → start_at new ≡ new_start (size_of given) (start_at old) (tail_at old)
  pub tail : result ≡ Done → tail_at new ≡ start_at new + size_of given
  pub start_stays : result ≢ Done → start_at new ≡ start_at old
  pub tail_stays : result ≢ Done → tail_at new ≡ tail_at old
  pub refused : result ≡ Closed → disk_of new ≡ disk_of old
  pub calls : told.troubled → result ≡ Done → (shown (disk_of new)).trouble.calls ≡ counted (shown (disk_of old)).trouble.calls 5
  pub items : told.tells → (items : List (List ℕ)) → HasItems shown old items → RestartTells shown old new given result items

-- the troubles of the disk are planned to be these, and nothing else changes
pub record JournalPlans {D : Type 0} {g : _} (shown : D → DiskShown) (old new : Journal D g) (planned : Trouble) : Type 0 where
  pub disk : DiskPlans (shown (disk_of old)) (shown (disk_of new)) planned
  pub start : start_at new ≡ start_at old
  pub tail : tail_at new ≡ tail_at old
  pub closed : is_closed new ≡ is_closed old
  pub items : (items : List (List ℕ)) → HasItems shown old items → HasItems shown new items
