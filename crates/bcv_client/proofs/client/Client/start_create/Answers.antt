use Rattle.std.proofs.Common.{None, refl}
use Rattle.bcv_machine.specs.State as m
use Rattle.bcv_client.proofs.PublicationsStart.{can_by, create_start, form_unmoved, refused_start, unmoved_by}
use Rattle.bcv_client.proofs.client.Client.start_create.Goals as goal

pub returns-in-Err-clause-form : goal.returns-in-Err-clause-form
returns-in-Err-clause-form g c =
    form_unmoved c.args.self.now c.draw.new.self
    (unmoved_by g.D.Disk.shown c.args.self.now c.draw.new.self (g.N.Names.shown c.args.names.now) (g.N.Names.shown c.draw.new.names) None c.draw.result c.draw.ensures) c.requires.form

pub returns-in-Err-clause-starts : goal.returns-in-Err-clause-starts
returns-in-Err-clause-starts g c =
    refused_start g.D.Disk.shown c.args.self.now c.draw.new.self (g.N.Names.shown c.args.names.now) (g.N.Names.shown c.draw.new.names) None (m.Creating c.args.block c.args.retention) _ c.draw.result c.in-Err.reply refl
    c.in-Err.is c.draw.ensures

pub new-task-requires : goal.new-task-requires
new-task-requires g c = c.requires.size

pub publish-requires-clause-can : goal.publish-requires-clause-can
publish-requires-clause-can g c =
    can_by g.D.Disk.shown c.args.self.now c.draw.new.self (g.N.Names.shown c.args.names.now) (g.N.Names.shown c.draw.new.names) None c.draw.result c.in-Ok.id c.in-Ok.is c.draw.ensures

pub publish-requires-clause-running : goal.publish-requires-clause-running
publish-requires-clause-running g c = c.new-task.ensures.running

pub publish-requires-clause-new : goal.publish-requires-clause-new
publish-requires-clause-new g c = refl

pub publish-requires-clause-plain : goal.publish-requires-clause-plain
publish-requires-clause-plain g c = refl

pub publish-requires-clause-form : goal.publish-requires-clause-form
publish-requires-clause-form g c =
    form_unmoved c.args.self.now c.draw.new.self
    (unmoved_by g.D.Disk.shown c.args.self.now c.draw.new.self (g.N.Names.shown c.args.names.now) (g.N.Names.shown c.draw.new.names) None c.draw.result c.draw.ensures) c.requires.form

pub returns-clause-form : goal.returns-clause-form
returns-clause-form g c = c.publish.ensures.form

pub returns-clause-starts : goal.returns-clause-starts
returns-clause-starts g c =
    create_start g.D.Disk.shown c.args.self.now c.draw.new.self (g.N.Names.shown c.args.names.now) (g.N.Names.shown c.draw.new.names) None c.publish.new.self c.args.block c.args.retention c.draw.result c.in-Ok.id c.new-task.result c.publish.result
    c.requires.size refl c.in-Ok.is c.draw.ensures c.new-task.ensures.task c.publish.ensures.starts c.publish.ensures.task
