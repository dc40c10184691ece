use Rattle.bcv_publisher.proofs.WorkSteps.{request_is_step}
use Rattle.bcv_publisher.proofs.laws.requests_are_steps.Goals as goal

pub returns : goal.returns
returns g c = request_is_step g.D.Disk.told g.D.Disk.shown (goal.F-post g c.args.rule.now.rule) g.S.Store.told c.args.old.now c.args.new.now
