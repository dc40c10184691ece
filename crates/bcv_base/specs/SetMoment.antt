-- What a clock that is set is to a contract.
use Rattle.std.specs.Prelude.{ℕ, Option, Some}
use Rattle.bcv_base.specs.Moments.{ClockShown}

-- the moment that it is set to, and the one that it gave last, where it gave one
pub record SetMoment : Type 0 where
  pub moment : ℕ
  pub last : Option ℕ

-- what it shows: both, and no failure
abbrev pub shown_by : SetMoment → ClockShown
shown_by c = record { last = Some c.last; set = Some c.moment; faults = 0 }
