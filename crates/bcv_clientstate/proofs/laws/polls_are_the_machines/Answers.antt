use Rattle.bcv_clientstate.proofs.PollSides.{fault_is_polled, none_is_polled, read_is_polled}
use Rattle.bcv_clientstate.proofs.laws.polls_are_the_machines.Goals as goal

pub returns-clause-read : goal.returns-clause-read
returns-clause-read c = read_is_polled

pub returns-clause-none : goal.returns-clause-none
returns-clause-none c = none_is_polled

pub returns-clause-fault : goal.returns-clause-fault
returns-clause-fault c = fault_is_polled
