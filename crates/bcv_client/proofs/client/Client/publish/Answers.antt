use Rattle.std.proofs.Common.{ℕ, subst}
use Rattle.bcv_client.specs.TaskStarts.{StartsTask}
use Rattle.bcv_client.specs.declared.job.Job.TheVariants as job
use Rattle.bcv_client.proofs.PublicationsStart.{plain_in_form}
use Rattle.bcv_client.proofs.TasksStart.{one_last}
use Rattle.bcv_client.proofs.client.Client.publish.Goals as goal

pub put_last-requires-clause-few : goal.put_last-requires-clause-few
put_last-requires-clause-few g c = c.requires.can.few

pub put_last-requires-clause-room : goal.put_last-requires-clause-room
put_last-requires-clause-room g c = c.requires.can.room

pub put_last-requires-clause-form : goal.put_last-requires-clause-form
put_last-requires-clause-form g c = c.requires.form

pub put_last-requires-clause-job : goal.put_last-requires-clause-job
put_last-requires-clause-job g c =
    let s = c.args.self.now in
    plain_in_form s.seen s.ledger.databases s.txns c.args.task c.requires.can.pending c.requires.running c.requires.new c.requires.plain

pub put_last-requires-clause-single : goal.put_last-requires-clause-single
put_last-requires-clause-single g c = one_last c.args.self.now (job.Publish 0 0 c.args.task) c.requires.can.quiet

pub returns-clause-form : goal.returns-clause-form
returns-clause-form g c = c.put_last.ensures.form

pub returns-clause-starts : goal.returns-clause-starts
returns-clause-starts g c =
    subst (λ (n : ℕ). StartsTask c.args.self.now c.put_last.new.self (job.Publish 0 0 c.args.task) n c.put_last.result) c.left-left.ensures c.put_last.ensures.starts

pub returns-clause-task : goal.returns-clause-task
returns-clause-task g c = c.put_last.ensures.task
