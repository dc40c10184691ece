-- Calls that fail as planned, and the count of those that did.
use Rattle.std.specs.Prelude.{ℕ, ◌+◌, ◌-◌, ◌^◌, min, Bool, ◌==◌, List, if◌then◌else◌}
use Rattle.std.specs.List.{list_any}

-- the numbers, from 1, of the calls that fail; how many calls there were, and how many of them failed
pub record Plan : Type 0 where
  pub fails : List ℕ
  pub calls : ℕ
  pub faults : ℕ

-- one more, in a count that stands still at the end of a u64
abbrev pub one_more : ℕ → ℕ
one_more n = min (n + 1) (2 ^ 64 - 1)

-- the plan of an object that was not called yet
abbrev pub planned : List ℕ → Plan
planned fails = record { fails = fails; calls = 0; faults = 0 }

-- the next call is one that fails
abbrev pub fails_next : Plan → Bool
fails_next p = list_any (λ n. n == one_more p.calls) p.fails

-- the plan after a call
abbrev pub after_call : Plan → Plan
after_call p = record p { calls = one_more p.calls; faults = if fails_next p then one_more p.faults else p.faults }
