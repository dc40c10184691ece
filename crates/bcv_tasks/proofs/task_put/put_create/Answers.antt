use Rattle.bcv_tasks.proofs.CreateLaws.{create_puts, create_tried}
use Rattle.bcv_tasks.proofs.task_put.put_create.Goals as goal

pub returns-clause-puts : goal.returns-clause-puts
returns-clause-puts g c =
    create_puts g.S.Store.told (g.S.Store.shown c.args.store.now) (g.S.Store.shown c.put.new.store) c.args.create.now c.put.new.self c.args.moment c.put.result c.requires.running c.put.ensures.creates

pub returns-clause-tried : goal.returns-clause-tried
returns-clause-tried g c =
    create_tried g.S.Store.told (g.S.Store.shown c.args.store.now) (g.S.Store.shown c.put.new.store) c.args.create.now c.put.new.self c.args.moment c.put.result c.put.ensures.creates
