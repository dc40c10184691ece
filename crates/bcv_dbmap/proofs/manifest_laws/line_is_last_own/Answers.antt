use Rattle.bcv_dbmap.proofs.ManifestLaws.{line_is_last_own}
use Rattle.bcv_dbmap.proofs.manifest_laws.line_is_last_own.Goals as goal

pub returns : goal.returns
returns c = line_is_last_own
