use Rattle.bcv_dbmap.proofs.ManifestLaws.{none_is_last_own}
use Rattle.bcv_dbmap.proofs.manifest_laws.none_is_last_own.Goals as goal

pub returns : goal.returns
returns c = none_is_last_own
