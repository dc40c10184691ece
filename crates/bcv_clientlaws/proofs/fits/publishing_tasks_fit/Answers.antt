use Rattle.bcv_clientlaws.proofs.TasksPut.{put_fits, refused_task_fits}
use Rattle.bcv_clientlaws.proofs.fits.publishing_tasks_fit.Goals as goal

pub returns-clause-put : goal.returns-clause-put
returns-clause-put c = put_fits

pub returns-clause-refused : goal.returns-clause-refused
returns-clause-refused c = refused_task_fits
