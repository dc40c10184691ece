use Rattle.bcv_dbmap.proofs.RulesLaws.{applied_meets_rules}
use Rattle.bcv_dbmap.proofs.laws.applied_meets_rules.Goals as goal

pub returns : goal.returns
returns c = applied_meets_rules
