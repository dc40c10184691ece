-- What a rule on retention promises, whoever wrote it, and what it is asked about.
use Rattle.std.specs.Prelude.{◌≡◌, ℕ, ◌+◌, ◌^◌, ◌<◌, ◌≤◌, Bool, true}

-- the rule may be asked any three numbers, gives one answer alone to each three, and says yes only
-- where the retention has passed since the stamp
pub record IsKeepRule (may_ask : ℕ → ℕ → ℕ → Type 0) (may_answer : ℕ → ℕ → ℕ → Bool → Type 0) : Type 0 where
  pub asked : (stamp now retention : ℕ) → stamp < 2 ^ 64 → now < 2 ^ 64 → retention < 2 ^ 64
      → may_ask stamp now retention
  pub one : (stamp now retention : ℕ) (first second : Bool) → stamp < 2 ^ 64 → now < 2 ^ 64 → retention < 2 ^ 64
      → may_answer stamp now retention first → may_answer stamp now retention second → first ≡ second
  pub patient : (stamp now retention : ℕ) → stamp < 2 ^ 64 → now < 2 ^ 64 → retention < 2 ^ 64
      → may_answer stamp now retention true → stamp + retention ≤ now
