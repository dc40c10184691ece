use Rattle.bcv_dbmap.proofs.BlockLaws.{own_block_stays}
use Rattle.bcv_dbmap.proofs.block_laws.own_block_stays.Goals as goal

pub returns : goal.returns
returns c = own_block_stays
