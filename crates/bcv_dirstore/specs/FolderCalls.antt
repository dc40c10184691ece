-- What each call of a folder promises, from what it shows before the call and after it.
use Rattle.std.specs.Prelude.{◌≡◌, ◌≢◌, ◌⊎◌, ℕ, ◌+◌, ◌<◌, ◌≤◌, Bool, true, false, List, [], ◌++◌, length, take, drop, Option, Some, None}
use Rattle.std.specs.Option.{is_some}
use Rattle.bcv_base.specs.Faults.{Rose}
use Rattle.bcv_base.specs.Ids.{has_id}
use Rattle.bcv_base.specs.Log.{name_eq}
use Rattle.bcv_base.specs.declared.id.Id16.{Id16}
use Rattle.bcv_base.specs.declared.object.ObjName.{ObjName}
use Rattle.bcv_base.specs.declared.object.ObjName.TheVariants as object
use Rattle.bcv_dirstore.specs.declared.folder.Lock.{Lock}
use Rattle.bcv_dirstore.specs.declared.folder.FolderEnd.{FolderEnd}
use Rattle.bcv_dirstore.specs.declared.folder.FolderEnd.TheVariants.{Done, Failed, NoMemory}
use Rattle.bcv_dirstore.specs.declared.folder.Front.{Front}
use Rattle.bcv_dirstore.specs.declared.folder.Front.TheVariants as front
use Rattle.bcv_dirstore.specs.FolderShown.{Files, FolderTold, FolderShown}

-- a call fails exactly where that was planned
abbrev pub IsForeseen : Bool → Type 0 → Type 0
IsForeseen true failed = failed
IsForeseen false failed = failed → ⊥

-- a failure is counted, and comes as planned where the folder tells that
pub record FolderFails (told : FolderTold) (old new : FolderShown) (failed : Type 0) : Type 0 where
  pub later : old.faults ≤ new.faults
  pub rose : failed → Rose old.faults new.faults
  pub planned : told.plans → IsForeseen old.fails_next failed

-- the call changes no file, and not the lock
pub record LeavesFiles (old new : FolderShown) : Type 0 where
  pub files : new.files ≡ old.files
  pub lock : new.lock ≡ old.lock

-- every other object's file is the same
abbrev pub SameOthers : ObjName → Files → Files → Type 0
SameOthers name old new = (other : ObjName) → name_eq name other ≡ false → new other ≡ old other

-- how the folder is locked after a call that locks it: not at all where the call failed
abbrev pub lock_after : Lock → FolderEnd → Option Lock
lock_after how Done = Some how
lock_after how Failed = None
lock_after how NoMemory = None

-- the folder is locked; until then others may have changed its files
pub record FolderLocks (told : FolderTold) (old new : FolderShown) (how : Lock) (result : FolderEnd) : Type 0 where
  pub lock : told.tells → new.lock ≡ lock_after how result
  pub files : told.tells → told.alone → new.files ≡ old.files
  pub fails : FolderFails told old new (result ≡ Failed)

-- the lock is given up
pub record FolderUnlocks (told : FolderTold) (old new : FolderShown) : Type 0 where
  pub lock : told.tells → new.lock ≡ None
  pub files : told.tells → new.files ≡ old.files
  pub synced : told.tells → new.synced ≡ old.synced
  pub named : told.tells → new.named ≡ old.named
  pub faults : new.faults ≡ old.faults

-- what a file begins with
abbrev pub IsFront : Option (List ℕ) → Front → Type 0
IsFront file front.Missing = file ≡ None
IsFront file front.Short = (bytes : List ℕ) × (file ≡ Some bytes) × (length bytes < 8)
IsFront file (front.Whole first len) = (bytes : List ℕ) × (file ≡ Some bytes) × (take 8 bytes ≡ first) × (length bytes ≡ 8 + len)
IsFront file front.Failed = Unit {0}
IsFront file front.NoMemory = Unit {0}

-- the first bytes of an object's file
pub record FolderFronts (told : FolderTold) (old new : FolderShown) (name : ObjName) (result : Front) : Type 0 where
  pub is : told.tells → IsFront (old.files name) result
  pub leaves : told.tells → LeavesFiles old new
  pub fails : FolderFails told old new (result ≡ front.Failed)

-- the bytes after the first eight
abbrev pub IsRest : Option (List ℕ) → List ℕ → Type 0
IsRest None rest = ⊥
IsRest (Some bytes) rest = rest ≡ drop 8 bytes

-- a file has as many bytes after the first eight
abbrev pub HasRest : Option (List ℕ) → ℕ → Type 0
HasRest None len = ⊥
HasRest (Some bytes) len = length bytes ≡ 8 + len

-- the bytes of an object's file that follow the first eight
pub record FolderRests (told : FolderTold) (old new : FolderShown) (name : ObjName) (len : ℕ) (into : List ℕ) (result : FolderEnd) : Type 0 where
  pub is : told.tells → result ≡ Done → IsRest (old.files name) into
  pub len_is : result ≡ Done → length into ≡ len
  pub none : result ≢ Done → into ≡ []
  pub leaves : told.tells → LeavesFiles old new
  pub fails : FolderFails told old new (result ≡ Failed)

-- the draft of an object; where it failed, the draft may be anything
pub record FolderWrites (told : FolderTold) (old new : FolderShown) (name : ObjName) (first bytes : List ℕ) (result : FolderEnd) : Type 0 where
  pub draft : told.tells → result ≡ Done → new.drafts name ≡ Some (first ++ bytes)
  pub leaves : told.tells → LeavesFiles old new
  pub fails : FolderFails told old new (result ≡ Failed)

-- what was written here is on the disk
pub record FolderSyncs (told : FolderTold) (old new : FolderShown) (result : FolderEnd) : Type 0 where
  pub synced : told.tells → result ≡ Done → new.synced ≡ true
  pub drafts : told.tells → new.drafts ≡ old.drafts
  pub leaves : told.tells → LeavesFiles old new
  pub fails : FolderFails told old new (result ≡ Failed)

-- an object's file is its draft of before
pub record IsRenamed (old new : FolderShown) (name : ObjName) : Type 0 where
  pub file : new.files name ≡ old.drafts name
  pub others : SameOthers name old.files new.files

-- what a renaming leaves: whole or without effect where it failed
abbrev pub RenameLeaves : FolderShown → FolderShown → ObjName → FolderEnd → Type 0
RenameLeaves old new name Done = IsRenamed old new name
RenameLeaves old new name Failed = (new.files ≡ old.files) ⊎ IsRenamed old new name
RenameLeaves old new name NoMemory = new.files ≡ old.files

-- the draft of an object takes the place of its file
pub record FolderRenames (told : FolderTold) (old new : FolderShown) (name : ObjName) (result : FolderEnd) : Type 0 where
  pub files : told.tells → RenameLeaves old new name result
  pub lock : told.tells → new.lock ≡ old.lock
  pub synced : told.tells → new.synced ≡ old.synced
  pub fails : FolderFails told old new (result ≡ Failed)

-- the names of files are on the disk
pub record FolderNames (told : FolderTold) (old new : FolderShown) (result : FolderEnd) : Type 0 where
  pub answers : result ≢ NoMemory
  pub named : told.tells → result ≡ Done → new.named ≡ true
  pub synced : told.tells → new.synced ≡ old.synced
  pub leaves : told.tells → LeavesFiles old new
  pub fails : FolderFails told old new (result ≡ Failed)

-- an object has no file
pub record IsRemoved (old new : Files) (name : ObjName) : Type 0 where
  pub file : new name ≡ None
  pub others : SameOthers name old new

-- what a removal leaves: whole or without effect where it failed
abbrev pub RemoveLeaves : Files → Files → ObjName → FolderEnd → Type 0
RemoveLeaves old new name Done = IsRemoved old new name
RemoveLeaves old new name Failed = (new ≡ old) ⊎ IsRemoved old new name
RemoveLeaves old new name NoMemory = new ≡ old

-- the file of an object is gone
pub record FolderRemoves (told : FolderTold) (old new : FolderShown) (name : ObjName) (result : FolderEnd) : Type 0 where
  pub files : told.tells → RemoveLeaves old.files new.files name result
  pub lock : told.tells → new.lock ≡ old.lock
  pub fails : FolderFails told old new (result ≡ Failed)

-- the ids of the blocks that have a file
abbrev pub AreBlocks : Files → List Id16 → Type 0
AreBlocks files ids = (i : Id16) → has_id i ids ≡ is_some (files (object.Block i))

-- the blocks that have a file
pub record FolderBlocks (told : FolderTold) (old new : FolderShown) (into : List Id16) (result : FolderEnd) : Type 0 where
  pub are : told.tells → result ≡ Done → AreBlocks old.files into
  pub leaves : told.tells → LeavesFiles old new
  pub fails : FolderFails told old new (result ≡ Failed)
