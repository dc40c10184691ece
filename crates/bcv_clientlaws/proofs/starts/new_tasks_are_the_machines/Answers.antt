use Rattle.bcv_clientlaws.proofs.TaskStarts.{cleanup_is_new, copy_has_left, copy_is_new, create_is_new, upload_has_left, upload_is_new}
use Rattle.bcv_clientlaws.proofs.starts.new_tasks_are_the_machines.Goals as goal

pub returns-clause-create : goal.returns-clause-create
returns-clause-create c = create_is_new

pub returns-clause-copy : goal.returns-clause-copy
returns-clause-copy c = copy_is_new

pub returns-clause-upload : goal.returns-clause-upload
returns-clause-upload c = upload_is_new

pub returns-clause-cleanup : goal.returns-clause-cleanup
returns-clause-cleanup c = cleanup_is_new

pub returns-clause-copy_left : goal.returns-clause-copy_left
returns-clause-copy_left c = copy_has_left

pub returns-clause-upload_left : goal.returns-clause-upload_left
returns-clause-upload_left c = upload_has_left
