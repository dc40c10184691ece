-- What a clock shows, and what it answers.
use Rattle.std.specs.Prelude.{◌≡◌, ℕ, ◌≤◌, Option, Some, None, IfSome}
use Rattle.bcv_base.specs.Faults.{Rose}
use Rattle.bcv_base.specs.declared.clock.Now.{Now}
use Rattle.bcv_base.specs.declared.clock.Now.TheVariants as now

-- what a clock shows: the moment that it gave last, or none, where it tells that; the moment that it is set to, where it tells that; and how often it has failed
pub record ClockShown : Type 0 where
  pub last : Option (Option ℕ)
  pub set : Option ℕ
  pub faults : ℕ

-- the moment given last, after an answer: a moment that is given, else the one of before
abbrev pub last_after : Option ℕ → Now → Option ℕ
last_after last (now.At moment) = Some moment
last_after last now.Failed = last

-- the clock tells the moment given last, where it did before
abbrev pub TellsLast : Option (Option ℕ) → Option (Option ℕ) → Now → Type 0
TellsLast None new result = Unit {0}
TellsLast (Some old) new result = new ≡ Some (last_after old result)

-- an answer of a clock that is set to a moment is that moment, or that it failed
abbrev pub IsSetTo : ℕ → Now → Type 0
IsSetTo moment (now.At other) = other ≡ moment
IsSetTo moment now.Failed = Unit {0}

-- a clock fails exactly where the count of faults rose
abbrev pub NowCause : ℕ → ℕ → Now → Type 0
NowCause before after (now.At moment) = after ≡ before
NowCause before after now.Failed = (before ≤ after) × Rose before after

-- an answer of a clock: it is told as the last one, it is that of the moment that the clock is and stays set to, and a failure is counted
pub record Tells (old new : ClockShown) (result : Now) : Type 0 where
  pub last : TellsLast old.last new.last result
  pub set : new.set ≡ old.set
  pub is_set : IfSome old.set (λ moment. IsSetTo moment result)
  pub cause : NowCause old.faults new.faults result
