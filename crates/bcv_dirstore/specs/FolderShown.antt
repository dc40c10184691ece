-- What a folder tells by its type, and what it shows at a moment.
use Rattle.std.specs.Prelude.{ℕ, Bool, List, Option}
use Rattle.bcv_base.specs.declared.object.ObjName.{ObjName}
use Rattle.bcv_dirstore.specs.declared.folder.Lock.{Lock}

-- the bytes of the file of each object, where it has one
abbrev pub Files : Type 0
Files = ObjName → Option (List ℕ)

-- what holds of all folders of a type
pub record FolderTold : Type 1 where
  -- it tells its files, its lock and what is on the disk
  pub tells : Type 0
  -- nobody else changes its files
  pub alone : Type 0
  -- it tells which call fails next
  pub plans : Type 0

-- what a folder shows
pub record FolderShown : Type 0 where
  pub files : Files
  -- the drafts, in which new contents stand before they become files
  pub drafts : Files
  -- how it is locked here
  pub lock : Option Lock
  -- the bytes that were written here are on the disk
  pub synced : Bool
  -- the names of the files are on the disk
  pub named : Bool
  -- the next call is planned to fail
  pub fails_next : Bool
  -- how many calls have failed
  pub faults : ℕ
