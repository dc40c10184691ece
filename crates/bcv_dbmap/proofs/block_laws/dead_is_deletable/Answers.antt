use Rattle.bcv_dbmap.proofs.BlockLaws.{dead_is_deletable}
use Rattle.bcv_dbmap.proofs.block_laws.dead_is_deletable.Goals as goal

pub returns : goal.returns
returns c = dead_is_deletable
