use Rattle.std.proofs.Common.{◌≡◌, ℕ, ◌-◌, ◌^◌, ◌<◌, ◌≤◌, []}
use Rattle.bcv_pages.specs.Index.{listed, numbers_within}
use Rattle.bcv_pages.proofs.page_index.PageIndex.next_written.Given as goal

-- no page from `page` on and before `start` was written within the view
abbrev pub invariant-loop-number : goal.invariant-loop-number
invariant-loop-number l = record {
  start : l.page ≤ l.start;
  before : (p : ℕ) → l.page ≤ p → p < l.start → numbers_within l.from l.to (listed l.self.lists p) ≡ [];
}

abbrev pub decreases-loop-number : goal.decreases-loop-number
decreases-loop-number l = 2 ^ 32 - l.start
