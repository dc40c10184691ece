-- What each call of a disk promises, from what it shows before the call and after it.
use Rattle.std.specs.Prelude.{◌≡◌, ◌≢◌, ℕ, ◌+◌, ◌<◌, ◌≤◌, List, length, take, drop}
use Rattle.bcv_base.specs.Faults.{Rose}
use Rattle.bcv_disk.specs.Crash.{IsSame, Only, Passes, Shortened, Through, Torn, put}
use Rattle.bcv_disk.specs.DiskShown.{DiskShown, DiskTold, Trouble}
use Rattle.bcv_disk.specs.Troubles.{CountsCall, Suffers}
use Rattle.bcv_disk.specs.declared.disk.DiskEnd.{DiskEnd}
use Rattle.bcv_disk.specs.declared.disk.DiskEnd.TheVariants.{Done, Failed, NoMemory}
use Rattle.bcv_disk.specs.declared.disk.Size.{Size}
use Rattle.bcv_disk.specs.declared.disk.Size.TheVariants as size

-- one of the five calls, with its arguments
pub data DiskCall : Type 0 where
  Len : DiskCall
  Read : ℕ → ℕ → DiskCall
  Write : ℕ → List ℕ → DiskCall
  Cut : ℕ → DiskCall
  Sync : DiskCall

-- how a call for the length ended
abbrev pub ended : Size → DiskEnd
ended (size.Len n) = Done
ended size.Failed = Failed

-- of a call, or of several: a failure is counted, and has a trouble as its cause
pub record DiskFails (told : DiskTold) (old new : DiskShown) (failed : Type 0) : Type 0 where
  pub later : old.faults ≤ new.faults
  pub rose : failed → Rose old.faults new.faults
  pub troubles : told.troubled → Suffers old.trouble new.trouble failed

-- the length in bytes
pub record DiskLens (told : DiskTold) (old new : DiskShown) (result : Size) : Type 0 where
  pub len : told.tells → (n : ℕ) → result ≡ size.Len n → n ≡ length old.seen
  pub seen : told.tells → result ≢ size.Failed → new.seen ≡ old.seen
  pub crash : told.tells → Passes old new old.may_leave
  pub fails : DiskFails told old new (result ≡ size.Failed)
  pub calls : told.troubled → CountsCall old.trouble new.trouble (result ≡ size.Failed)

-- `into` is filled with the bytes from a place on
pub record DiskReads (told : DiskTold) (old new : DiskShown) (at : ℕ) (into filled : List ℕ) (result : DiskEnd) : Type 0 where
  pub answers : result ≢ NoMemory
  pub bytes : told.tells → result ≡ Done → filled ≡ take (length into) (drop at old.seen)
  pub seen : told.tells → result ≡ Done → new.seen ≡ old.seen
  pub crash : told.tells → Passes old new old.may_leave
  pub fails : DiskFails told old new (result ≡ Failed)
  pub calls : told.troubled → CountsCall old.trouble new.trouble (result ≡ Failed)

-- the bytes stand at the place; until a sync a crash may leave anything there
pub record DiskWrites (told : DiskTold) (old new : DiskShown) (at : ℕ) (bytes : List ℕ) (result : DiskEnd) : Type 0 where
  pub written : told.tells → result ≡ Done → new.seen ≡ put old.seen at bytes
  pub grows : told.tells → result ≡ Done → old.moment < new.moment
  pub same : told.tells → result ≡ NoMemory → IsSame old new
  pub crash : told.tells → Passes old new (Through (Torn at (length bytes)) old.may_leave)
  pub fails : DiskFails told old new (result ≡ Failed)
  pub calls : told.troubled → CountsCall old.trouble new.trouble (result ≡ Failed)

-- the file ends at this length; until a sync a crash may leave anything after it, up to the old end
pub record DiskCuts (told : DiskTold) (old new : DiskShown) (len : ℕ) (result : DiskEnd) : Type 0 where
  pub shortened : told.tells → result ≡ Done → new.seen ≡ take len old.seen
  pub grows : told.tells → result ≡ Done → old.moment < new.moment
  pub same : told.tells → result ≡ NoMemory → IsSame old new
  pub crash : told.tells → Passes old new (Through (Shortened len) old.may_leave)
  pub fails : DiskFails told old new (result ≡ Failed)
  pub calls : told.troubled → CountsCall old.trouble new.trouble (result ≡ Failed)

-- a crash leaves what a read gives
pub record DiskSyncs (told : DiskTold) (old new : DiskShown) (result : DiskEnd) : Type 0 where
  pub answers : result ≢ NoMemory
  pub durable : told.tells → result ≡ Done → Only new.seen new.may_leave
  pub seen : told.tells → result ≡ Done → new.seen ≡ old.seen
  -- the moment stands only where nothing was left to sync
  pub grows : told.tells → result ≡ Done → new.moment ≤ old.moment → Only old.seen old.may_leave
  pub crash : told.tells → Passes old new old.may_leave
  pub fails : DiskFails told old new (result ≡ Failed)
  pub calls : told.troubled → CountsCall old.trouble new.trouble (result ≡ Failed)

-- the troubles are planned to be these, and nothing else changes
pub record DiskPlans (old new : DiskShown) (planned : Trouble) : Type 0 where
  pub same : IsSame old new
  pub faults : new.faults ≡ old.faults
  pub trouble : new.trouble ≡ planned
