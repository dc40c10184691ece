use Rattle.bcv_dbmap.proofs.ManifestLaws.{last_own_is_published}
use Rattle.bcv_dbmap.proofs.manifest_laws.last_own_is_published.Goals as goal

pub returns : goal.returns
returns c = last_own_is_published
