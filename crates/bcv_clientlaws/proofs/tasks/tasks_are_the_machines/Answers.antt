use Rattle.bcv_clientlaws.proofs.TaskLists.{free_is_free, job_is_busy, task_is_found, task_numbers_are, txn_numbers_are}
use Rattle.bcv_clientlaws.proofs.tasks.tasks_are_the_machines.Goals as goal

pub returns-clause-found : goal.returns-clause-found
returns-clause-found c = task_is_found

pub returns-clause-busy : goal.returns-clause-busy
returns-clause-busy c = job_is_busy

pub returns-clause-numbers : goal.returns-clause-numbers
returns-clause-numbers c = task_numbers_are

pub returns-clause-txn_numbers : goal.returns-clause-txn_numbers
returns-clause-txn_numbers c = txn_numbers_are

pub returns-clause-free : goal.returns-clause-free
returns-clause-free c = free_is_free
