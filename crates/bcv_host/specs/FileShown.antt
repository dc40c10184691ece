-- What a disk over a real file shows, which tells nothing but how often it failed.
use Rattle.std.specs.Prelude.{◌≡◌, ℕ, Bool, true, false, [], None}
use Rattle.bcv_base.specs.Plan.{one_more}
use Rattle.bcv_disk.specs.declared.disk.DiskEnd.{DiskEnd}
use Rattle.bcv_disk.specs.declared.disk.DiskEnd.TheVariants.{Done, Failed}
use Rattle.bcv_disk.specs.DiskShown.{DiskTold, DiskShown}
use Rattle.bcv_host.specs.declared.file_disk.FileDisk.{FileDisk}

-- it tells neither its bytes nor its troubles
abbrev pub tells_nothing : DiskTold
tells_nothing = record { tells = ⊥; troubled = ⊥ }

-- how often it has failed
abbrev pub disk_faults : FileDisk → ℕ
disk_faults disk = disk.faults

-- it shows no bytes, and that it has failed so often
abbrev pub untold_disk : ℕ → DiskShown
untold_disk faults = record {
  seen = [];
  may_leave = λ _. ⊥;
  moment = 0;
  left_since = λ _ _. ⊥;
  trouble = record { burnt = false; fuse = None; failure = None; calls = 0 };
  faults = faults;
}

-- how a call of the system ended: a failure is counted, and nothing else is
abbrev pub EndsAs : Bool → ℕ → ℕ → DiskEnd → Type 0
EndsAs true before now result = (result ≡ Done) × (now ≡ before)
EndsAs false before now result = (result ≡ Failed) × (now ≡ one_more before)
