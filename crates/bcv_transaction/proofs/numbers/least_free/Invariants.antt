use Rattle.std.proofs.Common.{◌≡◌, ◌<◌, ◌≤◌, ℕ, true}
use Rattle.bcv_machine.specs.State.{has_number}
use Rattle.bcv_transaction.specs.Open.{numbers_of}
use Rattle.bcv_transaction.proofs.numbers.least_free.Given as goal

-- each number below this one is taken
abbrev pub invariant-loop-number : goal.invariant-loop-number
invariant-loop-number l = (k : ℕ) → 1 ≤ k → k < l.number → has_number k (numbers_of l.txns) ≡ true
