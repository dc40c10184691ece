use Rattle.bcv_clientstate.proofs.Growth.{grows, leaves_client}
use Rattle.bcv_clientstate.proofs.laws.growth_is_harmless.Goals as goal

pub returns-clause-fits : goal.returns-clause-fits
returns-clause-fits c = grows

pub returns-clause-client : goal.returns-clause-client
returns-clause-client c = leaves_client
