use Rattle.std.proofs.Common.{◌≡◌, ◌+◌, false}
use Rattle.std.specs.List.{list_any, range_with_len}
use Rattle.bcv_base.specs.Image.{is_base}
use Rattle.bcv_upload.specs.State.{view_in}
use Rattle.bcv_upload.proofs.block_text.has_base.Given as goal

abbrev pub invariant-loop-place : goal.invariant-loop-place
invariant-loop-place l = list_any (is_base l.base.entry.pages (view_in l.pages l.base)) (range_with_len (l.before + 1) l.place) ≡ false
