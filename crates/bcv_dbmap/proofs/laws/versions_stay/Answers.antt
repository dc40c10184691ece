use Rattle.bcv_dbmap.proofs.Appends.{versions_stay}
use Rattle.bcv_dbmap.proofs.laws.versions_stay.Goals as goal

pub returns : goal.returns
returns c = versions_stay
