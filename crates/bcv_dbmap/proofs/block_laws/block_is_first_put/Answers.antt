use Rattle.bcv_dbmap.proofs.BlockLaws.{block_is_first_put}
use Rattle.bcv_dbmap.proofs.block_laws.block_is_first_put.Goals as goal

pub returns : goal.returns
returns c = block_is_first_put
