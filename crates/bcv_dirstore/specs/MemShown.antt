-- What a folder in memory tells and shows.
use Rattle.std.specs.Prelude.{◌≡◌, ◌≤◌, ℕ, zero, suc, Bool, true, false, List, Option, Some, None, if◌then◌else◌}
use Rattle.bcv_base.specs.Log.{name_eq}
use Rattle.bcv_base.specs.declared.object.ObjName.{ObjName}
use Rattle.bcv_dirstore.specs.FolderShown.{Files, FolderTold, FolderShown}
use Rattle.bcv_dirstore.specs.MemFiles.{file_of}
use Rattle.bcv_dirstore.specs.declared.mem_folder.MemFolder.{MemFolder}

-- it tells its files and which call fails, and nobody else changes the files
abbrev pub tells_all : FolderTold
tells_all = record { tells = Unit {0}; alone = Unit {0}; plans = Unit {0} }

-- the drafts: the one that was written last, where it did not become a file
abbrev pub drafts_of : Option (ObjName × List ℕ) → Files
drafts_of None name = None
drafts_of (Some draft) name = if name_eq draft.0 name then Some draft.1 else None

-- no further call passes before the one that fails
abbrev pub is_due : Option ℕ → Bool
is_due None = false
is_due (Some zero) = true
is_due (Some (suc calls)) = false

-- what it shows
abbrev pub shown_of : MemFolder → FolderShown
shown_of folder = record {
  files = file_of folder.files;
  drafts = drafts_of folder.draft;
  lock = folder.lock;
  synced = folder.synced;
  named = folder.named;
  fails_next = is_due folder.failure;
  faults = folder.faults;
}

-- a call was counted, and nothing else changed
pub record Counted (old new : MemFolder) : Type 0 where
  pub files : new.files ≡ old.files
  pub draft : new.draft ≡ old.draft
  pub lock : new.lock ≡ old.lock
  pub synced : new.synced ≡ old.synced
  pub named : new.named ≡ old.named
  pub later : old.faults ≤ new.faults
