-- What a folder of the system shows, which tells nothing but how often it failed.
use Rattle.std.specs.Prelude.{◌≡◌, ◌≤◌, ℕ, false, None}
use Rattle.bcv_base.specs.Plan.{one_more}
use Rattle.bcv_dirstore.specs.FolderShown.{FolderTold, FolderShown}
use Rattle.bcv_dirstore.specs.declared.folder.FolderEnd.{FolderEnd}
use Rattle.bcv_dirstore.specs.declared.folder.FolderEnd.TheVariants.{Done, Failed, NoMemory}
use Rattle.bcv_dirstore.specs.declared.host_folder.HostFolder.{HostFolder}

-- it tells neither its files nor which call fails
abbrev pub tells_no_file : FolderTold
tells_no_file = record { tells = ⊥; alone = ⊥; plans = ⊥ }

-- how often it has failed
abbrev pub host_faults : {R : Type 0} → HostFolder R → ℕ
host_faults folder = folder.faults

-- it shows no files, and that it has failed so often
abbrev pub untold_folder : ℕ → FolderShown
untold_folder faults = record {
  files = λ _. None;
  drafts = λ _. None;
  lock = None;
  synced = false;
  named = false;
  fails_next = false;
  faults = faults;
}

-- how a call of the system ended: a failure is counted, and nothing else is
abbrev pub EndsCall : ℕ → ℕ → FolderEnd → Type 0
EndsCall before now Done = now ≡ before
EndsCall before now Failed = (before ≤ now) × (now ≡ one_more before)
EndsCall before now NoMemory = now ≡ before
