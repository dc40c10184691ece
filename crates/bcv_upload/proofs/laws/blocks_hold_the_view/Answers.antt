use Rattle.bcv_upload.proofs.ViewPages.{blocks_hold_the_view}
use Rattle.bcv_upload.proofs.laws.blocks_hold_the_view.Goals as goal

pub returns : goal.returns
returns c = blocks_hold_the_view
