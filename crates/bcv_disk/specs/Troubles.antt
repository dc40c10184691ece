-- What calls make of the troubles that a disk may tell.
use Rattle.std.specs.Prelude.{◌≡◌, ◌⊎◌, ℕ, ◌+◌, ◌-◌, ◌^◌, ◌≤◌, Bool, true, false, min, Option, None, Some}
use Rattle.bcv_disk.specs.DiskShown.{Trouble}

-- a fuse is set afterwards only where it was set before, with the same image and no more calls left
abbrev pub FuseLeft : Option (ℕ × ℕ) → Option (ℕ × ℕ) → Type 0
FuseLeft before after = (calls image : ℕ) → after ≡ Some (calls, image) → (more : ℕ) × (before ≡ Some (more, image)) × (calls ≤ more)

-- a failure is set afterwards only where it was set before, with no more calls left
abbrev pub FailureLeft : Option ℕ → Option ℕ → Type 0
FailureLeft before after = (calls : ℕ) → after ≡ Some calls → (more : ℕ) × (before ≡ Some more) × (calls ≤ more)

-- a failure was set before and none is set afterwards
abbrev pub IsSpent : Option ℕ → Option ℕ → Type 0
IsSpent before after = (calls : ℕ) × (before ≡ Some calls) × (after ≡ None)

-- What a call makes of the troubles, or several of which each but the last was no failure: no fault comes without a
-- trouble, and none is kept back.
pub record Suffers (old new : Trouble) (failed : Type 0) : Type 0 where
  pub fuse_left : FuseLeft old.fuse new.fuse
  pub failure_left : FailureLeft old.failure new.failure
  -- burnt only where it was so, or a fuse was set
  pub burns : new.burnt ≡ true → (old.burnt ≡ true) ⊎ ((calls : ℕ) × (image : ℕ) × (old.fuse ≡ Some (calls, image)))
  -- a call that burns the disk leaves no fuse set
  pub burnt_out : old.burnt ≡ false → new.burnt ≡ true → new.fuse ≡ None
  -- what is burnt stays so
  pub stays_burnt : old.burnt ≡ true → new.burnt ≡ true
  pub cause : failed → (new.burnt ≡ true) ⊎ IsSpent old.failure new.failure
  -- a fuse that burns makes the call fail
  pub strikes : old.burnt ≡ false → new.burnt ≡ true → failed
  -- a failure that is spent makes the call fail
  pub spends : IsSpent old.failure new.failure → failed

-- as many calls more, or the last number that a count of calls can tell
abbrev pub counted : ℕ → ℕ → ℕ
counted calls more = min (calls + more) (2 ^ 64 - 1)

-- one call was counted, unless the disk was burnt before it, and then the call fails
pub record CountsCall (old new : Trouble) (failed : Type 0) : Type 0 where
  pub once : old.burnt ≡ false → new.calls ≡ counted old.calls 1
  pub never : old.burnt ≡ true → new.calls ≡ old.calls
  pub down : old.burnt ≡ true → failed
