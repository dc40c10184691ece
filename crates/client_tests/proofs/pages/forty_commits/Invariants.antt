use Rattle.std.proofs.Common.{◌≡◌, ◌+◌, length}
use Rattle.client_tests.proofs.pages.forty_commits.Given as goal

abbrev pub invariant-loop-number : goal.invariant-loop-number
invariant-loop-number l = record {
  page_size : l.set.page_size ≡ 1;
  forgotten : l.set.forgotten ≡ 0;
  kept : length l.set.kept + 1 ≡ l.number;
}
