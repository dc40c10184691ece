-- The steps of a put: which etag it gives, and what the new contents leave.
use Rattle.std.specs.Prelude.{◌≡◌, ◌⊎◌, ℕ, ◌^◌, ◌<◌, true, false, List, ◌++◌, Option, Some, Result, Ok, Err}
use Rattle.bcv_base.specs.declared.object.ObjName.{ObjName}
use Rattle.bcv_store.specs.declared.store.Cond.{Cond}
use Rattle.bcv_store.specs.declared.store.Put.{Put}
use Rattle.bcv_store.specs.declared.store.Put.TheVariants as put
use Rattle.bcv_dirstore.specs.declared.folder.FolderEnd.{FolderEnd}
use Rattle.bcv_dirstore.specs.declared.folder.FolderEnd.TheVariants.{Done, Failed, NoMemory}
use Rattle.bcv_dirstore.specs.declared.folder.Front.{Front}
use Rattle.bcv_dirstore.specs.declared.folder.Front.TheVariants as front
use Rattle.bcv_dirstore.specs.FolderShown.{Files, FolderShown}
use Rattle.bcv_dirstore.specs.FolderCalls.{SameOthers}
use Rattle.bcv_dirstore.specs.Answers.{etag_after, is_barred, IsAsked, IsSafe}

-- the etag that a put gives of a file, or the answer of one that goes no further
abbrev pub EtagsAsked : Cond → Option (List ℕ) → Front → Result ℕ Put → Type 0
EtagsAsked cond file first (Ok etag) = IsAsked cond file true × (etag ≡ etag_after cond) × (etag < 2 ^ 64)
EtagsAsked cond file first (Err put.Refused) = IsAsked cond file false
EtagsAsked cond file first (Err put.Failed) = (is_barred cond file ≡ true) ⊎ (first ≡ front.Failed)
EtagsAsked cond file first (Err put.NoMemory) = Unit {0}
EtagsAsked cond file first (Err (put.Stored etag)) = ⊥

-- an object's file has these bytes, and every other one is the same
pub record IsReplaced (old new : Files) (name : ObjName) (bytes : List ℕ) : Type 0 where
  pub file : new name ≡ Some bytes
  pub others : SameOthers name old new

-- what new contents leave: at Done in place of the file, where they failed whole or without effect
abbrev pub Replaces : FolderShown → FolderShown → ObjName → List ℕ → List ℕ → FolderEnd → Type 0
Replaces old new name first bytes Done = IsReplaced old.files new.files name (first ++ bytes) × IsSafe name new
Replaces old new name first bytes Failed = (new.files ≡ old.files) ⊎ IsReplaced old.files new.files name (first ++ bytes)
Replaces old new name first bytes NoMemory = new.files ≡ old.files
