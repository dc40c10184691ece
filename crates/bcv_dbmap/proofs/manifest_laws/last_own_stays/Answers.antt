use Rattle.bcv_dbmap.proofs.ManifestLaws.{last_own_stays}
use Rattle.bcv_dbmap.proofs.manifest_laws.last_own_stays.Goals as goal

pub returns : goal.returns
returns c = last_own_stays
