use Rattle.bcv_clientlaws.proofs.StepsSeen.{closed_ends_task, no_task_steps, step_is_of_task, steps_see_no_tasks}
use Rattle.bcv_clientlaws.proofs.steps.steps_are_of_their_tasks.Goals as goal

pub returns-clause-alone : goal.returns-clause-alone
returns-clause-alone c = steps_see_no_tasks

pub returns-clause-step : goal.returns-clause-step
returns-clause-step c = step_is_of_task

pub returns-clause-closed : goal.returns-clause-closed
returns-clause-closed c = closed_ends_task

pub returns-clause-none : goal.returns-clause-none
returns-clause-none c = no_task_steps
