use Rattle.bcv_clientstate.proofs.ResolveSides.{at_is_found, fresh_is_not_found, last_is_found, voided_is_not_found}
use Rattle.bcv_clientstate.proofs.laws.resolves_find_the_version.Goals as goal

pub returns-clause-last : goal.returns-clause-last
returns-clause-last c = last_is_found

pub returns-clause-fresh : goal.returns-clause-fresh
returns-clause-fresh c = fresh_is_not_found

pub returns-clause-at : goal.returns-clause-at
returns-clause-at c = at_is_found

pub returns-clause-voided : goal.returns-clause-voided
returns-clause-voided c = voided_is_not_found
