-- What a write that is synced promises.
use Rattle.std.specs.Prelude.{◌≡◌, ℕ, List, length}
use Rattle.bcv_disk.specs.Crash.{IsSame, Only, Passes, Through, Torn, put}
use Rattle.bcv_disk.specs.DiskShown.{DiskShown, DiskTold}
use Rattle.bcv_disk.specs.DiskCalls.{DiskFails}
use Rattle.bcv_disk.specs.Troubles.{counted}
use Rattle.bcv_disk.specs.declared.disk.DiskEnd.{DiskEnd}
use Rattle.bcv_disk.specs.declared.disk.DiskEnd.TheVariants.{Done, Failed, NoMemory}

-- the bytes stand at the place, and a crash leaves them; two calls of the disk
pub record DiskKeeps (told : DiskTold) (old new : DiskShown) (at : ℕ) (bytes : List ℕ) (result : DiskEnd) : Type 0 where
  pub written : told.tells → result ≡ Done → new.seen ≡ put old.seen at bytes
  pub durable : told.tells → result ≡ Done → Only new.seen new.may_leave
  pub same : told.tells → result ≡ NoMemory → IsSame old new
  pub crash : told.tells → Passes old new (Through (Torn at (length bytes)) old.may_leave)
  pub fails : DiskFails told old new (result ≡ Failed)
  pub calls : told.troubled → result ≡ Done → new.trouble.calls ≡ counted old.trouble.calls 2
