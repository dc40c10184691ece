use Rattle.bcv_clientstate.proofs.Bases.{stays}
use Rattle.bcv_clientstate.proofs.laws.base_stays.Goals as goal

pub returns : goal.returns
returns c = stays
