use Rattle.std.proofs.Common.{◌≡◌, ◌-◌, ◌≤◌}
use Rattle.std.specs.Int.{div_ceil}
use Rattle.std.specs.List.{filter, range_with_len}
use Rattle.bcv_base.specs.Views.{has_local, view_size}
use Rattle.bcv_pages.specs.Held.{view_of}
use Rattle.bcv_pages.proofs.page_set.PageSet.touched.Given as goal

-- the blocks so far that hold a local page
abbrev pub invariant-loop-block : goal.invariant-loop-block
invariant-loop-block l = record {
  start : l.start ≤ div_ceil (view_size l.base_pages (view_of l.self l.from l.to)) l.per_block;
  blocks : l.blocks.items ≡ filter (has_local l.per_block l.base_pages (view_of l.self l.from l.to)) (range_with_len 0 l.start);
}

abbrev pub decreases-loop-block : goal.decreases-loop-block
decreases-loop-block l = div_ceil (view_size l.base_pages (view_of l.self l.from l.to)) l.per_block - l.start
