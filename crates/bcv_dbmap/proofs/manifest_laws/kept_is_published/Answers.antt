use Rattle.bcv_dbmap.proofs.KeptLaws.{kept_published}
use Rattle.bcv_dbmap.proofs.manifest_laws.kept_is_published.Goals as goal

pub returns : goal.returns
returns c = kept_published
