use Rattle.std.proofs.Common.{sym, ◌∙◌}
use Rattle.bcv_dbcopy.proofs.BlockTexts.{filled_up}
use Rattle.bcv_dbcopy.proofs.blocks.filled.Goals as goal

pub returns : goal.returns
returns c = filled_up c.args.pages.now c.args.block c.loop-page.page-index _ _ _ c.requires.fits c.loop-page.invariant c.loop-page-test.false c.in_ok-resize.ensures.items (sym c.resize.new.self.ok.0 ∙ c.in_ok-resize.ensures.len)
