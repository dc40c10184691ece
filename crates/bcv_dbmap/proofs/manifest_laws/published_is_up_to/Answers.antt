use Rattle.bcv_dbmap.proofs.ManifestLaws.{published_is_up_to}
use Rattle.bcv_dbmap.proofs.manifest_laws.published_is_up_to.Goals as goal

pub returns : goal.returns
returns c = published_is_up_to
