use Rattle.bcv_dbmap.proofs.ManifestLaws.{images_stay}
use Rattle.bcv_dbmap.proofs.manifest_laws.images_stay.Goals as goal

pub returns : goal.returns
returns c = images_stay
