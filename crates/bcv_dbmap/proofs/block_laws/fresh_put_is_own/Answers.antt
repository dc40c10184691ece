use Rattle.bcv_dbmap.proofs.BlockLaws.{fresh_put_is_own}
use Rattle.bcv_dbmap.proofs.block_laws.fresh_put_is_own.Goals as goal

pub returns : goal.returns
returns c = fresh_put_is_own
