use Rattle.bcv_clientstate.proofs.CheckLaws.{fault_is_found, none_is_found, passes_is_free}
use Rattle.bcv_clientstate.proofs.laws.checks_are_the_machines.Goals as goal

pub returns-clause-passes : goal.returns-clause-passes
returns-clause-passes c = passes_is_free

pub returns-clause-fault : goal.returns-clause-fault
returns-clause-fault c = fault_is_found

pub returns-clause-none : goal.returns-clause-none
returns-clause-none c = none_is_found
