use Rattle.bcv_publication.proofs.PutExits.{intent_meets_full, intent_meets_fault, put_is_done, done_meets_fault, put_is_refused, put_is_void, void_meets_fault, put_failed, put_is_lost, refusal_is_lost}
use Rattle.bcv_publication.proofs.laws.puts_are_the_machines.Goals as goal

pub returns-clause-intent_full : goal.returns-clause-intent_full
returns-clause-intent_full c = intent_meets_full

pub returns-clause-intent_fault : goal.returns-clause-intent_fault
returns-clause-intent_fault c = intent_meets_fault

pub returns-clause-done : goal.returns-clause-done
returns-clause-done c = put_is_done

pub returns-clause-done_fault : goal.returns-clause-done_fault
returns-clause-done_fault c = done_meets_fault

pub returns-clause-refused : goal.returns-clause-refused
returns-clause-refused c = put_is_refused

pub returns-clause-void : goal.returns-clause-void
returns-clause-void c = put_is_void

pub returns-clause-void_fault : goal.returns-clause-void_fault
returns-clause-void_fault c = void_meets_fault

pub returns-clause-failed : goal.returns-clause-failed
returns-clause-failed c = put_failed

pub returns-clause-lost : goal.returns-clause-lost
returns-clause-lost c = put_is_lost

pub returns-clause-refusal_lost : goal.returns-clause-refusal_lost
returns-clause-refusal_lost c = refusal_is_lost
