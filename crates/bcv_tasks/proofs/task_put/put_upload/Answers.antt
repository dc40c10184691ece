use Rattle.std.proofs.Common.{◌∙◌, sym, subst}
use Rattle.bcv_tasks.specs.declared.publish_task.PublishTask.TheVariants as task
use Rattle.bcv_tasks.specs.declared.put_answer.PutAnswer.{PutAnswer}
use Rattle.bcv_tasks.specs.TaskPut.{PutsTask}
use Rattle.bcv_tasks.proofs.KindPuts.{upload_puts, upload_runs}
use Rattle.bcv_tasks.proofs.PutLaws.{was_refused}
use Rattle.bcv_tasks.proofs.task_put.put_upload.Goals as goal

pub returns-clause-puts : goal.returns-clause-puts
returns-clause-puts g c =
    subst (λ (r : PutAnswer). PutsTask g.S.Store.told (g.S.Store.shown c.args.store.now) (g.S.Store.shown c.put-end.new.store) (task.Upload c.args.id c.args.upload.now) c.args.moment r (task.Upload c.args.id c.put-end.new.self))
    (sym c.of.ensures)
    (upload_puts g.S.Store.told (g.S.Store.shown c.args.store.now) (g.S.Store.shown c.put-end.new.store) c.args.id c.args.upload.now c.put-end.new.self c.args.moment c.put-end.result c.requires.running c.requires.ready
    c.put-end.ensures.leaves c.put-end.ensures.puts c.put-end.ensures.sound)

pub returns-clause-left : goal.returns-clause-left
returns-clause-left g c = λ is. c.put-end.ensures.left (was_refused c.put-end.result (sym c.of.ensures ∙ is))

pub returns-clause-running : goal.returns-clause-running
returns-clause-running g c =
    λ is. upload_runs c.args.id c.args.upload.now c.put-end.new.self c.args.moment c.put-end.result c.requires.running c.put-end.ensures.leaves c.put-end.ensures.running (sym c.of.ensures ∙ is)
