-- What a disk in memory tells, and what its calls say besides.
use Rattle.std.specs.Prelude.{◌≡◌, ◌⊎◌, ℕ, zero, suc, ◌+◌, ◌-◌, ◌^◌, min, Bool, true, false, List, Option, None, Some, is_some, if◌then◌else◌}
use Rattle.bcv_disk.specs.DiskCalls.{DiskCall, Len, Read, Write, Cut, Sync}
use Rattle.bcv_disk.specs.DiskShown.{DiskShown, DiskTold, Trouble}
use Rattle.bcv_disk.specs.Record.{content, Leaves, LeftSince, moment_of}
use Rattle.bcv_disk.specs.Story.{Story, raised, with_crash, with_cut, with_sync, with_write}
use Rattle.bcv_disk.specs.Troubles.{counted}
use Rattle.bcv_disk.specs.declared.disk.DiskEnd.{DiskEnd}
use Rattle.bcv_disk.specs.declared.disk.DiskEnd.TheVariants.{Done, Failed, NoMemory}
use Rattle.bcv_disk.specs.declared.memory.Blow.{Blow}
use Rattle.bcv_disk.specs.declared.memory.Blow.TheVariants.{Spared, Fails, Burns}
use Rattle.bcv_disk.specs.declared.memory.MemDisk.{MemDisk}

-- it tells everything
abbrev pub tells_all : DiskTold
tells_all = record { tells = Unit {0}; troubled = Unit {0} }

abbrev pub trouble_of : MemDisk → Trouble
trouble_of m = record { burnt = m.burnt; fuse = m.fuse; failure = m.failure; calls = m.calls }

-- what a disk of this record shows
abbrev pub shown_by : Story → Trouble → ℕ → DiskShown
shown_by s trouble faults =
    record { seen = content s.acts; may_leave = Leaves s.acts; moment = moment_of s.idle s.acts; left_since = LeftSince s.idle s.acts; trouble = trouble; faults = faults }

abbrev pub shown_of : MemDisk → DiskShown
shown_of m = shown_by m.platter (trouble_of m) m.faults

-- whether a failure that is set strikes the next call
abbrev pub is_struck : Option ℕ → Bool
is_struck None = false
is_struck (Some zero) = true
is_struck (Some (suc calls)) = false

-- what one call leaves of a failure
abbrev pub failure_after : Option ℕ → Option ℕ
failure_after None = None
failure_after (Some zero) = None
failure_after (Some (suc calls)) = Some calls

-- the image of a fuse that burns in the next call
abbrev pub burning : Option (ℕ × ℕ) → Option ℕ
burning None = None
burning (Some (zero, image)) = Some image
burning (Some (suc calls, image)) = None

-- what one call leaves of a fuse
abbrev pub fuse_after : Option (ℕ × ℕ) → Option (ℕ × ℕ)
fuse_after None = None
fuse_after (Some (zero, image)) = None
fuse_after (Some (suc calls, image)) = Some (calls, image)

-- what strikes a call: first that the disk is burnt, then a fuse, then a failure
abbrev pub blow_by : Bool → Option ℕ → Bool → Blow
blow_by true image fails = Fails
blow_by false (Some image) fails = Burns image
blow_by false None true = Fails
blow_by false None false = Spared

abbrev pub blow_of : Trouble → Blow
blow_of t = blow_by t.burnt (burning t.fuse) (is_struck t.failure)

-- the troubles after one call, whatever it answers: each counter that is set has counted it, and a burnt disk counts nothing
abbrev pub after_call : Trouble → Trouble
after_call t =
    if t.burnt then t else record { burnt = is_some (burning t.fuse); fuse = fuse_after t.fuse; failure = failure_after t.failure; calls = counted t.calls 1 }

-- the record after a call that is done
abbrev pub after_done : DiskCall → Story → Story
after_done Len s = s
after_done (Read at count) s = s
after_done (Write at bytes) s = with_write at bytes s
after_done (Cut len) s = with_cut len s
after_done Sync s = with_sync s

-- what a crash inside a call tears: a write or a cut counts as made, a sync as not made
abbrev pub before_crash : DiskCall → Story → Story
before_crash Len s = s
before_crash (Read at count) s = s
before_crash (Write at bytes) s = with_write at bytes s
before_crash (Cut len) s = with_cut len s
before_crash Sync s = s

-- what a call made of the record, by what struck it and by its end
abbrev pub IsRecorded : Blow → DiskCall → DiskEnd → Story → Story → Type 0
IsRecorded Spared call Done old new = new ≡ after_done call old
IsRecorded Spared call Failed old new = ⊥
IsRecorded Spared call NoMemory old new = new ≡ old
IsRecorded Fails call Failed old new = new ≡ old
IsRecorded Fails call Done old new = ⊥
IsRecorded Fails call NoMemory old new = ⊥
-- where memory ran out for its write or cut, the call crashes before it
IsRecorded (Burns image) call Failed old new = (new ≡ with_crash image (before_crash call old)) ⊎ (new ≡ with_crash image old)
IsRecorded (Burns image) call Done old new = ⊥
IsRecorded (Burns image) call NoMemory old new = ⊥

-- the count of failures after a call
abbrev pub faults_after : DiskEnd → ℕ → ℕ
faults_after Done faults = faults
faults_after Failed faults = raised faults
faults_after NoMemory faults = faults

-- all that a call changes: the troubles, the record, and the count of failures
pub record SaysBesides (old new : MemDisk) (call : DiskCall) (end : DiskEnd) : Type 0 where
  pub troubles : trouble_of new ≡ after_call (trouble_of old)
  pub recorded : IsRecorded (blow_of (trouble_of old)) call end old.platter new.platter
  pub faults : new.faults ≡ faults_after end old.faults

-- the count of failures after a blow
abbrev pub faults_struck : Blow → ℕ → ℕ
faults_struck Spared faults = faults
faults_struck Fails faults = raised faults
faults_struck (Burns image) faults = raised faults
