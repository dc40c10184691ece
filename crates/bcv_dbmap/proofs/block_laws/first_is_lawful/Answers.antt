use Rattle.bcv_dbmap.proofs.BlockLaws.{first_is_lawful}
use Rattle.bcv_dbmap.proofs.block_laws.first_is_lawful.Goals as goal

pub returns : goal.returns
returns c = first_is_lawful
