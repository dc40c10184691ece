use Rattle.bcv_dbmap.proofs.CleanupLaws.{sweep_leaves_others}
use Rattle.bcv_dbmap.proofs.block_laws.sweep_leaves_others.Goals as goal

pub returns : goal.returns
returns c = sweep_leaves_others
