use Rattle.bcv_dbmap.proofs.ManifestLaws.{few_writers}
use Rattle.bcv_dbmap.proofs.manifest_laws.few_writers.Goals as goal

pub returns : goal.returns
returns c = few_writers
