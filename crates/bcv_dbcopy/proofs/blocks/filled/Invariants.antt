use Rattle.std.proofs.Common.{◌≡◌, take}
use Rattle.bcv_dbcopy.specs.State.{pages_text}
use Rattle.bcv_dbcopy.proofs.blocks.filled.Given as goal

abbrev pub invariant-loop-page : goal.invariant-loop-page
invariant-loop-page l = l.bytes.items ≡ pages_text (take l.page-index l.pages)
