use Rattle.bcv_dbmap.proofs.BlockLaws.{fresh_name_stays}
use Rattle.bcv_dbmap.proofs.block_laws.fresh_name_stays.Goals as goal

pub returns : goal.returns
returns c = fresh_name_stays
