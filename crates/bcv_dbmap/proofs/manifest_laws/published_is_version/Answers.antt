use Rattle.bcv_dbmap.proofs.ManifestLaws.{published_is_version}
use Rattle.bcv_dbmap.proofs.manifest_laws.published_is_version.Goals as goal

pub returns : goal.returns
returns c = published_is_version
