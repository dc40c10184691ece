-- What the calls of a disk do to its bytes, and what a crash may leave of them.
use Rattle.std.specs.Prelude.{◌≡◌, ◌⊎◌, ℕ, ◌+◌, ◌≤◌, min, max, List, ◌++◌, length, take, drop}
use Rattle.bcv_disk.specs.DiskShown.{DiskShown}

-- old with these bytes from a place on, past the old end too
abbrev pub put : List ℕ → ℕ → List ℕ → List ℕ
put old at bytes = take at old ++ bytes ++ drop (at + length bytes) old

-- new is old but for n places from `at` on, the part past the old end, and a length that may be any from the old one on to the end of the range
pub record Torn (at n : ℕ) (old new : List ℕ) : Type 0 where
  pub before : take (min at (length old)) new ≡ take at old
  pub after : drop (at + n) new ≡ drop (at + n) old
  pub no_shorter : length old ≤ length new
  pub no_longer : length new ≤ max (length old) (at + n)

-- new is old up to the place of the cut; after it stand any bytes, with any length between that place and the old end
pub record Shortened (n : ℕ) (old new : List ℕ) : Type 0 where
  pub before : take n new ≡ take n old
  pub no_shorter : min n (length old) ≤ length new
  pub no_longer : length new ≤ length old

-- the images that a step makes of those that were possible before it
abbrev pub Through : (List ℕ → List ℕ → Type 0) → (List ℕ → Type 0) → List ℕ → Type 0
Through step before image = (was : List ℕ) × before was × step was image

-- a crash leaves these bytes and nothing else
abbrev pub Only : List ℕ → (List ℕ → Type 0) → Type 0
Only bytes may_leave = (image : List ℕ) → may_leave image → image ≡ bytes

-- A call went by. What a crash may leave now, or might have left inside the call, is one of `inside`;
-- what it might have left before the call stays told, and nothing else is.
pub record Passes (old new : DiskShown) (inside : List ℕ → Type 0) : Type 0 where
  pub later : old.moment ≤ new.moment
  pub now_left : (image : List ℕ) → new.may_leave image → inside image
  pub nothing_else : (t : ℕ) (image : List ℕ) → t ≤ old.moment → new.left_since t image
      → old.left_since t image ⊎ inside image
  pub keeps : (t : ℕ) (image : List ℕ) → t ≤ old.moment → old.left_since t image → new.left_since t image

-- the bytes are as they were: what a read gives, the moment, and what a crash may leave or might have left
pub record IsSame (old new : DiskShown) : Type 0 where
  pub bytes : new.seen ≡ old.seen
  pub no_more : (image : List ℕ) → new.may_leave image → old.may_leave image
  pub no_less : (image : List ℕ) → old.may_leave image → new.may_leave image
  pub time : new.moment ≡ old.moment
  pub no_more_since : (t : ℕ) (image : List ℕ) → new.left_since t image → old.left_since t image
  pub no_less_since : (t : ℕ) (image : List ℕ) → old.left_since t image → new.left_since t image

-- a crash at any moment since old leaves an image that has P
pub record LeavesOnly (old new : DiskShown) (P : List ℕ → Type 0) : Type 0 where
  pub later : old.moment ≤ new.moment
  pub each : (image : List ℕ) → new.left_since old.moment image → P image
  -- for a run of calls that began earlier
  pub before : (t : ℕ) (image : List ℕ) → t ≤ old.moment → new.left_since t image → old.left_since t image ⊎ P image
