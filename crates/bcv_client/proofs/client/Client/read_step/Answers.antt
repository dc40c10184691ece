use Rattle.bcv_client.proofs.PollForm.{read_still}
use Rattle.bcv_client.proofs.RangeSteps.{always_taken, step_reads, taken_read}
use Rattle.bcv_client.proofs.client.Client.read_step.Goals as goal

pub take_task-requires : goal.take_task-requires
take_task-requires g c = record { form = c.requires.client.form }

pub unreachable-requires : goal.unreachable-requires
unreachable-requires g c = always_taken c.args.self.now c.take_task.new.self c.args.task c.args.txn c.args.page c.requires.task c.in_default.field-0 (rw c.in_default.is at c.take_task.ensures.takes)

pub unreachable-unreachable : goal.unreachable-unreachable
unreachable-unreachable g c = always_taken c.args.self.now c.take_task.new.self c.args.task c.args.txn c.args.page c.requires.task c.in_default.field-0 (rw c.in_default.is at c.take_task.ensures.takes)

pub fetch-requires-clause-form : goal.fetch-requires-clause-form
fetch-requires-clause-form g c = c.take_task.ensures.form

pub fetch-requires-clause-page : goal.fetch-requires-clause-page
fetch-requires-clause-page g c =
    let both = taken_read c.args.self.now c.take_task.new.self c.args.task c.args.txn c.args.page c.requires.task c.in-Ok.job (rw c.in-Ok.is at c.take_task.ensures.takes) in
    both.1.form

pub returns-clause-client : goal.returns-clause-client
returns-clause-client g c =
    let both = taken_read c.args.self.now c.take_task.new.self c.args.task c.args.txn c.args.page c.requires.task c.in-Ok.job (rw c.in-Ok.is at c.take_task.ensures.takes) in
    let only = c.fetch.ensures.fetches.fetches.only in
    record {
      form = c.fetch.ensures.form;
      read =
          read_still c.take_task.new.self.seen _ c.take_task.new.self.latest _ only.reading.seen only.reading.latest
          (read_still c.args.self.now.seen _ c.args.self.now.latest _ both.0.only.seen both.0.only.latest c.requires.client.read);
    }

pub returns-clause-reads : goal.returns-clause-reads
returns-clause-reads g c =
    let both = taken_read c.args.self.now c.take_task.new.self c.args.task c.args.txn c.args.page c.requires.task c.in-Ok.job (rw c.in-Ok.is at c.take_task.ensures.takes) in
    step_reads g.D.Disk.told g.D.Disk.shown g.S.Store.told (g.S.Store.shown c.args.store.now) (g.S.Store.shown c.fetch.new.store) c.args.self.now c.take_task.new.self c.fetch.new.self c.args.task c.args.txn
    c.args.page c.fetch.result c.is_full.ensures.are_open both c.fetch.ensures.fetches c.fetch.ensures.ends c.fetch.ensures.falls

pub returns-clause-reached : goal.returns-clause-reached
returns-clause-reached g c = c.fetch.ensures.reached
