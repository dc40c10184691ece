use Rattle.bcv_machine.proofs.Versions.{versions_grow, versions_stay}
use Rattle.bcv_machine.proofs.laws.versions_only_grow.Goals as goal

pub returns-clause-grow : goal.returns-clause-grow
returns-clause-grow c = versions_grow

pub returns-clause-stay : goal.returns-clause-stay
returns-clause-stay c = versions_stay
