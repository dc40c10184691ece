use Rattle.std.proofs.Common.{refl}
use Rattle.bcv_client.specs.declared.job.Job.TheVariants as job
use Rattle.bcv_client.proofs.TasksStart.{polls, quiet_last}
use Rattle.bcv_client.proofs.client.Client.start_poll.Goals as goal

pub start-requires-clause-single : goal.start-requires-clause-single
start-requires-clause-single g c = quiet_last c.args.self.now job.Poll refl c.requires.form.tasks_are.single

pub returns-clause-steps : goal.returns-clause-steps
returns-clause-steps g c = polls g.D.Disk.shown c.args.self.now c.start.new.self c.start.result c.start.ensures.starts
