use Rattle.bcv_dbmap.proofs.ManifestLaws.{applied_is_last_own}
use Rattle.bcv_dbmap.proofs.manifest_laws.applied_is_last_own.Goals as goal

pub returns : goal.returns
returns c = applied_is_last_own
