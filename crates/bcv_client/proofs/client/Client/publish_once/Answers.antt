use Rattle.std.proofs.Common.{◌∙◌, refl, sym}
use Rattle.bcv_client.proofs.FallsCalls.{put_falls_as}
use Rattle.bcv_client.proofs.CallMoments.{put_moments, work_moments}
use Rattle.bcv_client.proofs.Descent.{put_descends, work_descends}
use Rattle.bcv_client.proofs.Caching.{put_caches, work_caches}
use Rattle.bcv_client.proofs.client.Client.publish_once.Goals as goal

pub put_task-requires-clause-form : goal.put_task-requires-clause-form
put_task-requires-clause-form g c = c.requires.form

pub put_task-requires-clause-read : goal.put_task-requires-clause-read
put_task-requires-clause-read g c = c.requires.read

pub put_task-requires-clause-can : goal.put_task-requires-clause-can
put_task-requires-clause-can g c = c.requires.can

pub put_task-requires-clause-ready : goal.put_task-requires-clause-ready
put_task-requires-clause-ready g c = sym c.ready.ensures ∙ c.if-ready.true

pub work_task-requires-clause-form : goal.work_task-requires-clause-form
work_task-requires-clause-form g c = c.requires.form

pub work_task-requires-clause-read : goal.work_task-requires-clause-read
work_task-requires-clause-read g c = c.requires.read

pub work_task-requires-clause-can : goal.work_task-requires-clause-can
work_task-requires-clause-can g c = c.requires.can

pub work_task-requires-clause-not_ready : goal.work_task-requires-clause-not_ready
work_task-requires-clause-not_ready g c = sym c.ready.ensures ∙ c.if-ready.false

pub work_task-requires-clause-rule : goal.work_task-requires-clause-rule
work_task-requires-clause-rule g c = c.requires.rule

pub returns-then-ready-clause-form : goal.returns-then-ready-clause-form
returns-then-ready-clause-form g c = c.put_task.ensures.form

pub returns-then-ready-clause-read : goal.returns-then-ready-clause-read
returns-then-ready-clause-read g c = c.put_task.ensures.read

pub returns-then-ready-clause-only : goal.returns-then-ready-clause-only
returns-then-ready-clause-only g c = c.put_task.ensures.only

pub returns-then-ready-clause-goes_on : goal.returns-then-ready-clause-goes_on
returns-then-ready-clause-goes_on g c = c.put_task.ensures.goes_on

pub returns-then-ready-clause-steps : goal.returns-then-ready-clause-steps
returns-then-ready-clause-steps g c = c.put_task.ensures.steps (g.N.Names.shown c.args.outside.now.names)

pub returns-clause-form : goal.returns-clause-form
returns-clause-form g c = c.work_task.ensures.form

pub returns-clause-read : goal.returns-clause-read
returns-clause-read g c = c.work_task.ensures.read

pub returns-clause-only : goal.returns-clause-only
returns-clause-only g c = c.work_task.ensures.only

pub returns-clause-goes_on : goal.returns-clause-goes_on
returns-clause-goes_on g c = c.work_task.ensures.goes_on

pub returns-clause-steps : goal.returns-clause-steps
returns-clause-steps g c = c.work_task.ensures.steps

pub returns-then-ready-clause-falls : goal.returns-then-ready-clause-falls
returns-then-ready-clause-falls g c =
    put_falls_as g.D.Disk.told g.D.Disk.shown g.S.Store.told (g.S.Store.shown c.args.outside.now.store) (g.S.Store.shown c.put_task.new.store) (g.N.Names.shown c.args.outside.now.names) c.args.self.now
    c.put_task.new.self c.args.set c.args.taken c.args.task.now c.put_task.ensures.falls

pub returns-clause-falls : goal.returns-clause-falls
returns-clause-falls g c = c.work_task.ensures.falls

pub returns-then-ready-clause-disk : goal.returns-then-ready-clause-disk
returns-then-ready-clause-disk g c = c.put_task.ensures.disk

pub returns-then-ready-clause-causes : goal.returns-then-ready-clause-causes
returns-then-ready-clause-causes g c = c.put_task.ensures.causes (g.N.Names.shown c.args.outside.now.names)

pub returns-clause-disk : goal.returns-clause-disk
returns-clause-disk g c = c.work_task.ensures.disk

pub returns-clause-causes : goal.returns-clause-causes
returns-clause-causes g c = c.work_task.ensures.causes

pub returns-then-ready-clause-any_moment : goal.returns-then-ready-clause-any_moment
returns-then-ready-clause-any_moment g c = λ n.
    put_moments g.D.Disk.told g.D.Disk.shown g.met.D.Disk.only_now g.S.Store.told (g.S.Store.shown c.args.outside.now.store) (g.S.Store.shown c.put_task.new.store) c.args.self.now c.put_task.new.self (c.requires.can.is_open refl) c.args.set c.args.taken c.args.task.now c.requires.can.form n c.put_task.ensures.notes

pub returns-clause-any_moment : goal.returns-clause-any_moment
returns-clause-any_moment g c = λ n.
    work_moments g.D.Disk.told g.D.Disk.shown g.met.D.Disk.only_now g.S.Store.told (g.S.Store.shown c.args.outside.now.store) (g.S.Store.shown c.work_task.new.outside.store) c.args.self.now c.work_task.new.self (c.requires.can.is_open refl) c.args.set c.args.taken c.args.task.now c.requires.can.form n (goal.F-post g c.args.rule.now.rule)
    (g.N.Names.shown c.args.outside.now.names) (g.N.Names.shown c.work_task.new.outside.names) (g.C.Clock.shown c.args.outside.now.clock) (g.C.Clock.shown c.work_task.new.outside.clock)
    c.work_task.result c.work_task.new.task c.work_task.ensures.works

pub returns-then-ready-clause-descends : goal.returns-then-ready-clause-descends
returns-then-ready-clause-descends g c =
    put_descends g.D.Disk.told g.D.Disk.shown g.S.Store.told (g.S.Store.shown c.args.outside.now.store) (g.S.Store.shown c.put_task.new.store) (g.C.Clock.shown c.args.outside.now.clock)
    (g.C.Clock.shown c.put_task.new.clock) c.args.self.now c.put_task.new.self c.args.set c.args.taken c.args.task.now c.put_task.new.task c.put_task.result c.requires.can.form.running
    (sym c.ready.ensures ∙ c.if-ready.true) c.put_task.ensures.puts

pub returns-clause-descends : goal.returns-clause-descends
returns-clause-descends g c =
    work_descends g.D.Disk.told g.D.Disk.shown g.S.Store.told (g.S.Store.shown c.args.outside.now.store) (g.S.Store.shown c.work_task.new.outside.store) (g.C.Clock.shown c.args.outside.now.clock)
    (g.C.Clock.shown c.work_task.new.outside.clock) c.args.self.now c.work_task.new.self _ (g.N.Names.shown c.args.outside.now.names) (g.N.Names.shown c.work_task.new.outside.names) c.args.set
    c.args.task.now c.work_task.new.task c.work_task.result c.requires.can.form.running (sym c.ready.ensures ∙ c.if-ready.false) c.work_task.ensures.works

pub returns-then-ready-clause-caches : goal.returns-then-ready-clause-caches
returns-then-ready-clause-caches g c =
    put_caches g.D.Disk.told g.D.Disk.shown g.S.Store.told (g.S.Store.shown c.args.outside.now.store) (g.S.Store.shown c.put_task.new.store) (g.C.Clock.shown c.args.outside.now.clock)
    (g.C.Clock.shown c.put_task.new.clock) c.args.self.now c.put_task.new.self c.args.set c.args.taken c.args.task.now c.put_task.new.task c.put_task.result c.put_task.ensures.puts

pub returns-clause-caches : goal.returns-clause-caches
returns-clause-caches g c =
    work_caches g.D.Disk.told g.D.Disk.shown g.S.Store.told (g.S.Store.shown c.args.outside.now.store) (g.S.Store.shown c.work_task.new.outside.store) (g.C.Clock.shown c.args.outside.now.clock)
    (g.C.Clock.shown c.work_task.new.outside.clock) c.args.self.now c.work_task.new.self _ (g.N.Names.shown c.args.outside.now.names) (g.N.Names.shown c.work_task.new.outside.names) c.args.set
    c.args.task.now c.work_task.new.task c.work_task.result c.work_task.ensures.works

pub returns-then-ready-clause-reached : goal.returns-then-ready-clause-reached
returns-then-ready-clause-reached g c = c.put_task.ensures.reached

pub returns-clause-reached : goal.returns-clause-reached
returns-clause-reached g c = c.work_task.ensures.reached

pub returns-then-ready-clause-counted : goal.returns-then-ready-clause-counted
returns-then-ready-clause-counted g c = c.put_task.ensures.counted (g.N.Names.shown c.args.outside.now.names)

pub returns-clause-counted : goal.returns-clause-counted
returns-clause-counted g c = c.work_task.ensures.counted
