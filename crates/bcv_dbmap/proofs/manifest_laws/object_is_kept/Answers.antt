use Rattle.bcv_dbmap.proofs.KeptLaws.{object_kept}
use Rattle.bcv_dbmap.proofs.manifest_laws.object_is_kept.Goals as goal

pub returns : goal.returns
returns c = object_kept
