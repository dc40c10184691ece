use Rattle.bcv_publication.proofs.TaskSides.{task_is_tried, task_is_appended, still_is_next, passed_is_refused, done_is_known, done_is_answered, refusal_is_answered, refused_is_tried_again}
use Rattle.bcv_publication.proofs.laws.tasks_are_publications.Goals as goal

pub returns-clause-tried : goal.returns-clause-tried
returns-clause-tried c = task_is_tried

pub returns-clause-appended : goal.returns-clause-appended
returns-clause-appended c = task_is_appended

pub returns-clause-next : goal.returns-clause-next
returns-clause-next c = still_is_next

pub returns-clause-passed : goal.returns-clause-passed
returns-clause-passed c = passed_is_refused

pub returns-clause-known : goal.returns-clause-known
returns-clause-known c = done_is_known

pub returns-clause-done : goal.returns-clause-done
returns-clause-done c = done_is_answered

pub returns-clause-refused : goal.returns-clause-refused
returns-clause-refused c = refusal_is_answered

pub returns-clause-again : goal.returns-clause-again
returns-clause-again c = refused_is_tried_again
