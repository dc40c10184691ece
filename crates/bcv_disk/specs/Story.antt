-- The record of a disk in memory, and what each call adds to it.
use Rattle.std.specs.Prelude.{ℕ, ◌+◌, ◌-◌, ◌^◌, nat_lt, List, [], ◌∷◌, if◌then◌else◌}
use Rattle.bcv_disk.specs.Record.{is_unsynced}
use Rattle.bcv_disk.specs.declared.platter.Act.{Act}
use Rattle.bcv_disk.specs.declared.platter.Act.TheVariants.{Wrote, CutTo, Synced, Crashed}

-- the recorded calls, the newest first, and how many crashes since the last one found nothing to tear
pub record Story : Type 0 where
  pub idle : ℕ
  pub acts : List Act

-- a disk that was never called
abbrev pub untouched : Story
untouched = record { idle = 0; acts = [] }

abbrev pub with_write : ℕ → List ℕ → Story → Story
with_write at bytes s = record { idle = 0; acts = Wrote s.idle at bytes ∷ s.acts }

abbrev pub with_cut : ℕ → Story → Story
with_cut len s = record { idle = 0; acts = CutTo s.idle len ∷ s.acts }

-- a sync is recorded where it has work to do
abbrev pub with_sync : Story → Story
with_sync s = if is_unsynced s.acts then record { idle = 0; acts = Synced s.idle ∷ s.acts } else s

-- one more, up to the last number of a u64
abbrev pub raised : ℕ → ℕ
raised count = if nat_lt count (2 ^ 64 - 1) then count + 1 else count

-- a crash is recorded where there is something to tear, and counted where there is not
abbrev pub with_crash : ℕ → Story → Story
with_crash image s = if is_unsynced s.acts then record { idle = 0; acts = Crashed s.idle image ∷ s.acts } else record { idle = raised s.idle; acts = s.acts }
