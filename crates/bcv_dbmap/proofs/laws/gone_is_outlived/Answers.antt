use Rattle.bcv_dbmap.proofs.Gone.{gone_is_outlived}
use Rattle.bcv_dbmap.proofs.laws.gone_is_outlived.Goals as goal

pub returns : goal.returns
returns c = gone_is_outlived
