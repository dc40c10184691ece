use Rattle.std.proofs.Common.{◌≡◌}
use Rattle.client_tests.proofs.pages.made.Given as goal

abbrev pub invariant-loop-index : goal.invariant-loop-index
invariant-loop-index l = l.txn.page_size ≡ 1
