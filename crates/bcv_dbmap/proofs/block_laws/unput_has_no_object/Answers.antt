use Rattle.bcv_dbmap.proofs.BlockLaws.{unput_has_no_object}
use Rattle.bcv_dbmap.proofs.block_laws.unput_has_no_object.Goals as goal

pub returns : goal.returns
returns c = unput_has_no_object
