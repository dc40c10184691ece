-- What sources and sinks in memory are to a contract.
use Rattle.std.specs.Prelude.{◌≡◌, ℕ, min, Bool, true, false, List, length}
use Rattle.bcv_base.specs.Plan.{Plan, fails_next}
use Rattle.bcv_base.specs.declared.source.Took.{Took}
use Rattle.bcv_base.specs.declared.source.Took.TheVariants as took

-- a source: the bytes that are left, how many a take gives at most, whether it has ended, and which takes fail
pub record Feed : Type 0 where
  pub left : List ℕ
  pub piece : ℕ
  pub ended : Bool
  pub plan : Plan

-- a sink: the bytes that were given, and which gives fail
pub record Basin : Type 0 where
  pub given : List ℕ
  pub plan : Plan

-- a take of a source in memory fails as planned, ends where nothing is left, and gives what fits a piece and the room
abbrev pub TakesPiece : Feed → Took → ℕ → Type 0
TakesPiece feed (took.Some n) room = (fails_next feed.plan ≡ false) × (n ≡ min feed.piece (min (length feed.left) room))
TakesPiece feed took.End room = (fails_next feed.plan ≡ false) × (length feed.left ≡ 0)
TakesPiece feed took.Failed room = fails_next feed.plan ≡ true
