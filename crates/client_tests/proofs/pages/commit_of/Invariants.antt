use Rattle.std.proofs.Common.{◌≡◌}
use Rattle.client_tests.proofs.pages.commit_of.Given as goal

abbrev pub invariant-loop-page : goal.invariant-loop-page
invariant-loop-page l = l.txn.page_size ≡ 1
