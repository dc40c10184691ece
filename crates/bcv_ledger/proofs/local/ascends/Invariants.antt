use Rattle.std.proofs.Common.{◌≡◌, length}
use Rattle.bcv_base.specs.Views.{ascends}
use Rattle.bcv_ledger.proofs.local.ascends.Given as goal

abbrev pub invariant-loop-number : goal.invariant-loop-number
invariant-loop-number l = ascends l.low l.high l.rest ≡ ascends 0 l.high l.pages

abbrev pub decreases-loop-number : goal.decreases-loop-number
decreases-loop-number l = length l.rest
