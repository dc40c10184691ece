use Rattle.bcv_tasks.proofs.create_task.CreateTask.put.Goals as goal

pub returns-clause-creates : goal.returns-clause-creates
returns-clause-creates g c =
    record { end = c.create-end.result; leaves = c.create-end.ensures.leaves; puts = c.create-end.ensures.creates; settles = c.settle.ensures }
