use Rattle.bcv_dbmap.proofs.BlockLaws.{unput_is_fresh}
use Rattle.bcv_dbmap.proofs.block_laws.unput_is_fresh.Goals as goal

pub returns : goal.returns
returns c = unput_is_fresh
