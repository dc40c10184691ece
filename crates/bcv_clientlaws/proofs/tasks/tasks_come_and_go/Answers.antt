use Rattle.bcv_clientlaws.proofs.TaskLists.{task_comes, task_goes, task_goes_on, txn_ends}
use Rattle.bcv_clientlaws.proofs.tasks.tasks_come_and_go.Goals as goal

pub returns-clause-goes : goal.returns-clause-goes
returns-clause-goes c = task_goes

pub returns-clause-comes : goal.returns-clause-comes
returns-clause-comes c = task_comes

pub returns-clause-ends : goal.returns-clause-ends
returns-clause-ends c = txn_ends

pub returns-clause-goes_on : goal.returns-clause-goes_on
returns-clause-goes_on c = task_goes_on
