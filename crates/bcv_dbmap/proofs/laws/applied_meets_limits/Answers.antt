use Rattle.bcv_dbmap.proofs.Limits.{applied_meets_limits}
use Rattle.bcv_dbmap.proofs.laws.applied_meets_limits.Goals as goal

pub returns : goal.returns
returns c = applied_meets_limits
