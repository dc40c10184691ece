use Rattle.bcv_dbmap.proofs.Fills.{fills_itself}
use Rattle.bcv_dbmap.proofs.laws.fills_itself.Goals as goal

pub returns : goal.returns
returns c = fills_itself
