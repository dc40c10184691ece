use Rattle.bcv_clientlog.proofs.LoadedLog.{loads_once}
use Rattle.bcv_clientlog.proofs.laws.loads_once.Goals as goal

pub returns : goal.returns
returns c = loads_once
