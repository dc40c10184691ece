-- What a disk tells as a fact of its type, and what it shows at a moment.
use Rattle.std.specs.Prelude.{ℕ, Bool, List, Option}

-- what is known of a disk: its bytes and what a crash leaves of them, and its troubles
pub record DiskTold : Type 1 where
  -- it tells its bytes, and what a crash leaves of them
  pub tells : Type 0
  -- it tells its troubles
  pub troubled : Type 0

-- the troubles of a disk
pub record Trouble : Type 0 where
  -- a fuse has burnt it
  pub burnt : Bool
  -- the fuse that is set: how many calls are left, and the image that it will make
  pub fuse : Option (ℕ × ℕ)
  -- the failure that is set: how many calls are left
  pub failure : Option ℕ
  -- the number of calls that were made while it was not burnt
  pub calls : ℕ

-- what a disk shows
pub record DiskShown : Type 1 where
  -- what a read gives
  pub seen : List ℕ
  -- what a crash at this moment may leave
  pub may_leave : List ℕ → Type 0
  -- the moment, as a number that never falls
  pub moment : ℕ
  -- what a crash at some moment from that one on may leave, inside a call or between two
  pub left_since : ℕ → List ℕ → Type 0
  pub trouble : Trouble
  -- how often the disk has failed
  pub faults : ℕ
