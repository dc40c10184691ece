use Rattle.bcv_clientlaws.proofs.TaskStarts.{new_cleanup_fits, new_copy_fits, new_create_fits, new_upload_fits, quiet_task_fits}
use Rattle.bcv_clientlaws.proofs.starts.new_tasks_fit.Goals as goal

pub returns-clause-quiet : goal.returns-clause-quiet
returns-clause-quiet c = quiet_task_fits

pub returns-clause-create : goal.returns-clause-create
returns-clause-create c = new_create_fits

pub returns-clause-copy : goal.returns-clause-copy
returns-clause-copy c = new_copy_fits

pub returns-clause-upload : goal.returns-clause-upload
returns-clause-upload c = new_upload_fits

pub returns-clause-cleanup : goal.returns-clause-cleanup
returns-clause-cleanup c = new_cleanup_fits
