use Rattle.std.proofs.Common.{subst}
use Rattle.bcv_machine.specs.Reading.{Fetches}
use Rattle.bcv_machine.specs.State as m
use Rattle.bcv_model.specs.declared.reply.Reply.{Reply}
use Rattle.bcv_client.specs.Events.{Locally}
use Rattle.bcv_client.specs.Transactions.{AsksPage}
use Rattle.bcv_client.specs.declared.job.Access.TheVariants as access
use Rattle.bcv_client.specs.declared.job.Job.TheVariants as job
use Rattle.bcv_client.proofs.PollForm.{read_still}
use Rattle.bcv_client.proofs.RangeSteps.{not_task, page_at_once, page_by_step, read_starts}
use Rattle.bcv_client.proofs.client.Client.read_page.Goals as goal

pub read-requires : goal.read-requires
read-requires g c = record { form = c.requires.client.form }

pub read_step-requires-clause-client : goal.read_step-requires-clause-client
read_step-requires-clause-client g c = record {
  form = c.read.ensures.form;
  read = read_still c.args.self.now.seen _ c.args.self.now.latest _ c.read.ensures.only.seen c.read.ensures.only.latest c.requires.client.read;
}

pub read_step-requires-clause-task : goal.read_step-requires-clause-task
read_step-requires-clause-task g c =
    let asks = subst (λ (x : Reply). AsksPage m.ToRead c.args.self.now c.read.new.self c.args.txn c.args.page (job.Fetch access.ToRead c.args.txn c.args.page) x) c.in-Task.is c.read.ensures.asks in
    read_starts g.D.Disk.told g.D.Disk.shown g.S.Store.told c.args.self.now c.read.new.self c.args.txn c.args.page c.in-Task.task _ asks

pub returns-in-Task-clause-client : goal.returns-in-Task-clause-client
returns-in-Task-clause-client g c = c.read_step.ensures.client

pub returns-in-Task-clause-reads : goal.returns-in-Task-clause-reads
returns-in-Task-clause-reads g c =
    let asks = subst (λ (x : Reply). AsksPage m.ToRead c.args.self.now c.read.new.self c.args.txn c.args.page (job.Fetch access.ToRead c.args.txn c.args.page) x) c.in-Task.is c.read.ensures.asks in
    let machine = subst (λ (x : Reply). Locally g.D.Disk.shown (λ s u t. Fetches m.ToRead s u c.args.txn c.args.page x t) c.args.self.now c.read.new.self x) c.in-Task.is c.read.ensures.machine in
    page_by_step g.D.Disk.told g.D.Disk.shown g.S.Store.told (g.S.Store.shown c.args.store.now) (g.S.Store.shown c.read_step.new.store) c.args.self.now c.read.new.self c.read_step.new.self c.args.txn c.args.page
    c.in-Task.task _ c.read_step.result c.read.ensures.only asks machine c.read_step.ensures.reads

pub returns-in_default : goal.returns-in_default
returns-in_default g c = record {
  reached = g.met.S.Store.same c.args.store.now;
  client = record {
    form = c.read.ensures.form;
    read = read_still c.args.self.now.seen _ c.args.self.now.latest _ c.read.ensures.only.seen c.read.ensures.only.latest c.requires.client.read;
  };
  reads =
      page_at_once g.D.Disk.told g.D.Disk.shown g.S.Store.told (g.S.Store.shown c.args.store.now) c.args.self.now c.read.new.self c.args.txn c.args.page c.read.result c.is_full.ensures.are_open c.read.ensures.only
      c.read.ensures.asks c.read.ensures.machine (not_task c.read.result c.in_default.not-Task);
}

pub returns-in-Task-clause-reached : goal.returns-in-Task-clause-reached
returns-in-Task-clause-reached g c = c.read_step.ensures.reached
