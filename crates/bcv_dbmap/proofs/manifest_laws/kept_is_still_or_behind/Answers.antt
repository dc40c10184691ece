use Rattle.bcv_dbmap.proofs.KeptLaws.{kept_stays}
use Rattle.bcv_dbmap.proofs.manifest_laws.kept_is_still_or_behind.Goals as goal

pub returns : goal.returns
returns c = kept_stays
