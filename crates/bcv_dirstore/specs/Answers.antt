-- What the requests to a store in a folder answer and change, where the folder tells its files.
use Rattle.std.specs.Prelude.{◌≡◌, ◌⊎◌, ℕ, ◌+◌, ◌-◌, ◌^◌, ◌<◌, ◌≤◌, Bool, true, false, ◌&&◌, ◌||◌, ◌==◌, List, length, take, Option, Some, None}
use Rattle.std.specs.Option.{is_some}
use Rattle.bcv_base.specs.Faults.{Rose}
use Rattle.bcv_base.specs.Ids.{has_id}
use Rattle.bcv_base.specs.declared.id.Id16.{Id16}
use Rattle.bcv_base.specs.declared.object.ObjName.{ObjName}
use Rattle.bcv_base.specs.declared.object.ObjName.TheVariants as object
use Rattle.bcv_base.specs.declared.outcome.Outcome.TheVariants as outcome
use Rattle.bcv_store.specs.declared.store.Cond.{Cond}
use Rattle.bcv_store.specs.declared.store.Cond.TheVariants as cond
use Rattle.bcv_store.specs.declared.store.Got.{Got}
use Rattle.bcv_store.specs.declared.store.Got.TheVariants as got
use Rattle.bcv_store.specs.declared.store.Put.{Put}
use Rattle.bcv_store.specs.declared.store.Put.TheVariants as put
use Rattle.bcv_store.specs.declared.store.Del.{Del}
use Rattle.bcv_store.specs.declared.store.Del.TheVariants as del
use Rattle.bcv_store.specs.declared.store.Listed.{Listed}
use Rattle.bcv_store.specs.declared.store.Listed.TheVariants as listed
use Rattle.bcv_store.specs.Asked.{GetAnswers, has_etag, holds, is_past, are_ascending, list_most}
use Rattle.bcv_dirstore.specs.FolderShown.{Files, FolderTold, FolderShown}
use Rattle.bcv_dirstore.specs.FolderCalls.{SameOthers, IsRemoved}
use Rattle.bcv_dirstore.specs.ObjectFile.{object_file, object_at, is_torn}

-- ---- get

-- what a get answers of a file that is whole or missing
pub record GetsWhole (file : Option (List ℕ)) (unless : Option ℕ) (most : ℕ) (into : List ℕ) (result : Got) : Type 0 where
  pub whole : is_torn file ≡ false
  pub answers : GetAnswers outcome.Ok (object_at file) unless most into result

-- what a get answers of a file: it fails where the file is torn or the folder failed, and only there
abbrev pub GetsFile : Option (List ℕ) → Option ℕ → ℕ → List ℕ → Type 0 → Got → Type 0
GetsFile file unless most into failed (got.Found etag) = GetsWhole file unless most into (got.Found etag)
GetsFile file unless most into failed got.Same = GetsWhole file unless most into got.Same
GetsFile file unless most into failed got.Missing = GetsWhole file unless most into got.Missing
GetsFile file unless most into failed (got.TooLong len) = GetsWhole file unless most into (got.TooLong len)
GetsFile file unless most into failed got.Failed = (is_torn file ≡ true) ⊎ failed
GetsFile file unless most into failed got.NoMemory = Unit {0}

-- a get: its answer is of the files that are there when it has the lock, and it changes none
pub record FolderGets (told : FolderTold) (old new : FolderShown) (name : ObjName) (unless : Option ℕ) (most : ℕ) (into : List ℕ) (result : Got) : Type 0 where
  pub files : told.alone → new.files ≡ old.files
  pub unlocked : new.lock ≡ None
  pub answers : GetsFile (new.files name) unless most into (Rose old.faults new.faults) result

-- ---- put

-- the etag that a put gives
abbrev pub etag_after : Cond → ℕ
etag_after cond.Absent = 1
etag_after (cond.Match etag) = etag + 1

-- the put needs an etag that a torn file does not have, or one that there is not
abbrev pub is_barred : Cond → Option (List ℕ) → Bool
is_barred cond.Absent file = false
is_barred (cond.Match etag) file = is_torn file || (has_etag (object_at file) etag && etag == 2 ^ 64 - 1)

-- an object's file has this etag and these bytes, and every other one is the same
pub record IsPut (old new : Files) (name : ObjName) (etag : ℕ) (bytes : List ℕ) : Type 0 where
  pub file : new name ≡ Some (object_file etag bytes)
  pub others : SameOthers name old new

-- what a put leaves: of a manifest, everything that was written is on the disk
abbrev pub IsSafe : ObjName → FolderShown → Type 0
IsSafe object.Manifest new = (new.synced ≡ true) × (new.named ≡ true)
IsSafe (object.Block id) new = Unit {0}

-- the condition of a put holds, or not, and nothing bars it
pub record IsAsked (cond : Cond) (file : Option (List ℕ)) (held : Bool) : Type 0 where
  pub holds_is : holds cond (object_at file) ≡ held
  pub free : is_barred cond file ≡ false

-- a put with its effect
pub record PutsFile (locked : Files) (new : FolderShown) (name : ObjName) (cond : Cond) (bytes : List ℕ) (etag : ℕ) : Type 0 where
  pub asked : IsAsked cond (locked name) true
  pub etag_is : etag ≡ etag_after cond
  pub put : IsPut locked new.files name etag bytes

-- what a put answers and leaves: it fails where it is barred or the folder failed, whole or without effect
abbrev pub PutAnswersFile : Files → FolderShown → ObjName → Cond → List ℕ → Type 0 → Put → Type 0
PutAnswersFile locked new name cond bytes failed (put.Stored etag) = PutsFile locked new name cond bytes etag × IsSafe name new
PutAnswersFile locked new name cond bytes failed put.Refused = IsAsked cond (locked name) false × (new.files ≡ locked)
PutAnswersFile locked new name cond bytes failed put.Failed =
    ((is_barred cond (locked name) ≡ true) ⊎ failed) × ((new.files ≡ locked) ⊎ PutsFile locked new name cond bytes (etag_after cond))
PutAnswersFile locked new name cond bytes failed put.NoMemory = new.files ≡ locked

-- a put: its answer is of the files that are there when it has the lock, which it gives up after its effect
pub record FolderPuts (told : FolderTold) (old new : FolderShown) (name : ObjName) (cond : Cond) (bytes : List ℕ) (result : Put) : Type 0 where
  pub locked : Files
  pub files : told.alone → locked ≡ old.files
  pub unlocked : new.lock ≡ None
  pub answers : PutAnswersFile locked new name cond bytes (Rose old.faults new.faults) result

-- ---- delete

-- what a delete answers and leaves: it fails only where the folder did, whole or without effect
abbrev pub DeleteAnswersFile : Files → Files → ObjName → Type 0 → Del → Type 0
DeleteAnswersFile locked new name failed del.Done = IsRemoved locked new name
DeleteAnswersFile locked new name failed del.Failed = failed × ((new ≡ locked) ⊎ IsRemoved locked new name)
DeleteAnswersFile locked new name failed del.NoMemory = new ≡ locked

-- a delete: its answer is of the files that are there when it has the lock
pub record FolderDeletes (told : FolderTold) (old new : FolderShown) (name : ObjName) (result : Del) : Type 0 where
  pub locked : Files
  pub files : told.alone → locked ≡ old.files
  pub unlocked : new.lock ≡ None
  pub answers : DeleteAnswersFile locked new.files name (Rose old.faults new.faults) result

-- ---- list

-- all ids, ascending, of the blocks that have a file and are above `from`
pub record AreFilesAbove (files : Files) (from : Option Id16) (ids : List Id16) : Type 0 where
  pub ascending : are_ascending ids ≡ true
  pub there : (i : Id16) → has_id i ids ≡ (is_past from i && is_some (files (object.Block i)))

-- what a list answers of all those ids: the first of them, with More exactly where there are further ones
abbrev pub ListAnswersFiles : Files → Option Id16 → List Id16 → Type 0 → Listed → Type 0
ListAnswersFiles files from into failed listed.More =
    (ids : List Id16) × AreFilesAbove files from ids × (list_most < length ids) × (into ≡ take list_most ids)
ListAnswersFiles files from into failed listed.End = AreFilesAbove files from into × (length into ≤ list_most)
ListAnswersFiles files from into failed listed.Failed = failed
ListAnswersFiles files from into failed listed.NoMemory = Unit {0}

-- a list: its answer is of the files that are there when it has the lock, and it changes none
pub record FolderLists (told : FolderTold) (old new : FolderShown) (from : Option Id16) (into : List Id16) (result : Listed) : Type 0 where
  pub files : told.alone → new.files ≡ old.files
  pub unlocked : new.lock ≡ None
  pub answers : ListAnswersFiles new.files from into (Rose old.faults new.faults) result
