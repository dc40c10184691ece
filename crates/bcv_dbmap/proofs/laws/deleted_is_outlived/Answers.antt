use Rattle.bcv_dbmap.proofs.Gone.{deleted_is_outlived}
use Rattle.bcv_dbmap.proofs.laws.deleted_is_outlived.Goals as goal

pub returns : goal.returns
returns c = deleted_is_outlived
