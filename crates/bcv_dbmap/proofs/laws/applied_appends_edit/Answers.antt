use Rattle.bcv_dbmap.proofs.Appends.{appends_edit}
use Rattle.bcv_dbmap.proofs.NewVersions.{applied_has_versions}
use Rattle.bcv_dbmap.proofs.laws.applied_appends_edit.Goals as goal

pub returns-clause-appends : goal.returns-clause-appends
returns-clause-appends c = appends_edit

pub returns-clause-stands : goal.returns-clause-stands
returns-clause-stands c = applied_has_versions
