-- What a store tells by its type, and what it shows at a moment.
use Rattle.std.specs.Prelude.{ℕ, List}
use Rattle.bcv_base.specs.declared.outcome.Outcome.{Outcome}
use Rattle.bcv_base.specs.declared.log.Entry.{Entry}

-- what holds of all stores of a type: that they tell their log, that no one else appends to it, and that they tell the outcomes of their next requests
pub record StoreTold : Type 1 where
  pub tells : Type 0
  pub alone : Type 0
  pub plans : Type 0

-- what a store shows: all entries so far, the oldest first; the outcomes of the next requests, after the last of which each is `Ok`; and how many requests have failed
pub record StoreShown : Type 0 where
  pub log : List Entry
  pub plan : List Outcome
  pub faults : ℕ
