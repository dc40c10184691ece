use Rattle.bcv_dbmap.proofs.BlockLaws.{own_block_after_put}
use Rattle.bcv_dbmap.proofs.block_laws.own_block_after_put.Goals as goal

pub returns : goal.returns
returns c = own_block_after_put
