use Rattle.bcv_dbmap.proofs.Appends.{creates_first}
use Rattle.bcv_dbmap.proofs.NewVersions.{first_has_versions}
use Rattle.bcv_dbmap.proofs.laws.first_creates.Goals as goal

pub returns-clause-creates : goal.returns-clause-creates
returns-clause-creates c = creates_first

pub returns-clause-stands : goal.returns-clause-stands
returns-clause-stands c = first_has_versions
