use Rattle.bcv_dbmap.proofs.ManifestLaws.{first_is_last_own}
use Rattle.bcv_dbmap.proofs.manifest_laws.first_is_last_own.Goals as goal

pub returns : goal.returns
returns c = first_is_last_own
