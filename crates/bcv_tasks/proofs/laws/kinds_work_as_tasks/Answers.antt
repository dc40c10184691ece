use Rattle.bcv_tasks.proofs.KindsWork.{cleanup_works_as_task, copy_works_as_task, upload_works_as_task}
use Rattle.bcv_tasks.proofs.laws.kinds_work_as_tasks.Goals as goal

pub returns-clause-copy : goal.returns-clause-copy
returns-clause-copy g c = copy_works_as_task (goal.F-post g c.args.rule.now.rule) g.S.Store.told

pub returns-clause-upload : goal.returns-clause-upload
returns-clause-upload g c = upload_works_as_task (goal.F-post g c.args.rule.now.rule) g.S.Store.told

pub returns-clause-cleanup : goal.returns-clause-cleanup
returns-clause-cleanup g c = cleanup_works_as_task (goal.F-post g c.args.rule.now.rule) g.S.Store.told
