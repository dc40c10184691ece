use Rattle.bcv_dbmap.proofs.RulesLaws.{first_meets_rules}
use Rattle.bcv_dbmap.proofs.laws.first_meets_rules.Goals as goal

pub returns : goal.returns
returns c = first_meets_rules
