use Rattle.std.proofs.Common.{◌≡◌, ℕ, ◌<◌, get_or}
use Rattle.bcv_pages.specs.Index.{listed, has_room}
use Rattle.bcv_pages.proofs.page_index.PageIndex.reserve.Given as goal

abbrev pub invariant-loop-page : goal.invariant-loop-page
invariant-loop-page l = record {
  same : (p : ℕ) → listed l.self.lists p ≡ listed l.initial.self.lists p;
  kept : (p : ℕ) → has_room l.initial.self.lists p → has_room l.self.lists p;
  room : (k : ℕ) → k < l.page-index → has_room l.self.lists (get_or l.pages k 0);
}
