use Rattle.std.proofs.Common.{◌≡◌, ◌+◌, ◌*◌, length}
use Rattle.std.specs.List.{flat_map, range_with_len}
use Rattle.bcv_upload.specs.BlockText.{view_page}
use Rattle.bcv_upload.specs.State.{view_in}
use Rattle.bcv_upload.proofs.block_text.view_block.Given as goal

abbrev pub invariant-loop-place : goal.invariant-loop-place
invariant-loop-place l =
    (l.bytes.items ≡ flat_map (view_page l.base (view_in l.pages l.base) l.old l.number) (range_with_len (l.before + 1) l.place)) × (length l.bytes.items ≡ l.place * l.base.entry.page_size)
