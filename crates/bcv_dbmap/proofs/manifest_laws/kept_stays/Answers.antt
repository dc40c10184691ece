use Rattle.bcv_dbmap.proofs.KeptLaws.{kept_longer}
use Rattle.bcv_dbmap.proofs.manifest_laws.kept_stays.Goals as goal

pub returns : goal.returns
returns c = kept_longer
