use Rattle.std.proofs.Common.{◌∙◌, Option, refl, subst, sym}
use Rattle.bcv_base.specs.declared.seen.Latest.{Latest}
use Rattle.bcv_base.specs.declared.seen.Seen.{Seen}
use Rattle.bcv_publisher.specs.PollStep.{IsReadForm}
use Rattle.bcv_client.proofs.CallFaults.{work_causes, work_disk}
use Rattle.bcv_client.proofs.BusyTasks.{busy_jobs}
use Rattle.bcv_client.proofs.WorkForm.{work_goes_on, work_keeps_form}
use Rattle.bcv_client.proofs.WorkOver.{only_then, reads_then, sees_then, steps_task, still_open, works_then}
use Rattle.bcv_client.proofs.FallsSteps.{work_falls}
use Rattle.bcv_client.proofs.CountsOn.{work_counts}
use Rattle.bcv_client.proofs.client.Client.work_task.Goals as goal

pub request-work-requires-clause-view : goal.request-work-requires-clause-view
request-work-requires-clause-view g c = (c.args.taken, c.requires.can.form.view)

pub end_work-requires : goal.end_work-requires
end_work-requires g c = record { is_open = still_open c.args.self.now c.request-work.new.self c.request-work.ensures.only (c.requires.can.is_open refl) }

pub returns-clause-works : goal.returns-clause-works
returns-clause-works g c =
    works_then g.D.Disk.told g.D.Disk.shown (goal.F-post g c.args.rule.now.rule) g.S.Store.told (g.S.Store.shown c.args.outside.now.store) (g.S.Store.shown c.request-work.new.store) (g.N.Names.shown c.args.outside.now.names) (g.N.Names.shown c.request-work.new.names) (g.C.Clock.shown c.args.outside.now.clock) (g.C.Clock.shown c.request-work.new.clock)
    c.args.self.now c.request-work.new.self c.end_work.new.ledger c.args.set c.args.taken c.args.task.now c.request-work.result c.end_work.result c.request-work.new.task
    c.request-work.ensures.only (c.requires.can.is_open refl) c.requires.can.form c.end_work.ensures c.request-work.ensures.asks

pub returns-clause-only : goal.returns-clause-only
returns-clause-only g c =
    only_then g.D.Disk.told g.D.Disk.shown (goal.F-post g c.args.rule.now.rule) g.S.Store.told (g.S.Store.shown c.args.outside.now.store) (g.S.Store.shown c.request-work.new.store) (g.N.Names.shown c.args.outside.now.names) (g.N.Names.shown c.request-work.new.names) (g.C.Clock.shown c.args.outside.now.clock) (g.C.Clock.shown c.request-work.new.clock)
    c.args.self.now c.request-work.new.self c.end_work.new.ledger c.args.set c.args.taken c.args.task.now c.request-work.result c.end_work.result c.request-work.new.task
    c.request-work.ensures.only (c.requires.can.is_open refl) c.requires.can.form c.end_work.ensures c.request-work.ensures.asks

pub returns-clause-seen : goal.returns-clause-seen
returns-clause-seen g c =
    sees_then g.D.Disk.told g.D.Disk.shown (goal.F-post g c.args.rule.now.rule) g.S.Store.told (g.S.Store.shown c.args.outside.now.store) (g.S.Store.shown c.request-work.new.store) (g.N.Names.shown c.args.outside.now.names) (g.N.Names.shown c.request-work.new.names) (g.C.Clock.shown c.args.outside.now.clock) (g.C.Clock.shown c.request-work.new.clock)
    c.args.self.now c.request-work.new.self c.end_work.new.ledger c.args.set c.args.taken c.args.task.now c.request-work.result c.end_work.result c.request-work.new.task
    c.request-work.ensures.only (c.requires.can.is_open refl) c.requires.can.form c.end_work.ensures

pub returns-clause-latest : goal.returns-clause-latest
returns-clause-latest g c =
    reads_then g.D.Disk.told g.D.Disk.shown (goal.F-post g c.args.rule.now.rule) g.S.Store.told (g.S.Store.shown c.args.outside.now.store) (g.S.Store.shown c.request-work.new.store) (g.N.Names.shown c.args.outside.now.names) (g.N.Names.shown c.request-work.new.names) (g.C.Clock.shown c.args.outside.now.clock) (g.C.Clock.shown c.request-work.new.clock)
    c.args.self.now c.request-work.new.self c.end_work.new.ledger c.args.set c.args.taken c.args.task.now c.request-work.result c.end_work.result c.request-work.new.task
    c.request-work.ensures.only (c.requires.can.is_open refl) c.requires.can.form c.end_work.ensures

pub returns-clause-form : goal.returns-clause-form
returns-clause-form g c =
    work_keeps_form g.D.Disk.told g.D.Disk.shown (goal.F-post g c.args.rule.now.rule) g.S.Store.told (g.S.Store.shown c.args.outside.now.store) (g.S.Store.shown c.request-work.new.store) (g.N.Names.shown c.args.outside.now.names) (g.N.Names.shown c.request-work.new.names) (g.C.Clock.shown c.args.outside.now.clock) (g.C.Clock.shown c.request-work.new.clock)
    c.args.self.now (record c.request-work.new.self { ledger = c.end_work.new.ledger }) c.args.set c.args.taken c.args.task.now c.end_work.result c.request-work.new.task (returns-clause-only g c) (returns-clause-seen g c)
    c.requires.can.form (sym (busy_jobs c.args.self.now.ledger.databases c.args.self.now.tasks.items) ∙ c.requires.can.alone refl) (returns-clause-works g c) c.requires.form

pub returns-clause-goes_on : goal.returns-clause-goes_on
returns-clause-goes_on g c =
    work_goes_on g.D.Disk.told g.D.Disk.shown (goal.F-post g c.args.rule.now.rule) g.S.Store.told (g.S.Store.shown c.args.outside.now.store) (g.S.Store.shown c.request-work.new.store) (g.N.Names.shown c.args.outside.now.names) (g.N.Names.shown c.request-work.new.names) (g.C.Clock.shown c.args.outside.now.clock) (g.C.Clock.shown c.request-work.new.clock)
    c.args.self.now (record c.request-work.new.self { ledger = c.end_work.new.ledger }) c.args.set c.args.taken c.args.task.now c.end_work.result c.request-work.new.task (returns-clause-only g c) (returns-clause-seen g c)
    c.requires.can.form c.requires.not_ready (returns-clause-works g c)

pub returns-clause-steps : goal.returns-clause-steps
returns-clause-steps g c =
    steps_task g.D.Disk.told g.D.Disk.shown (goal.F-post g c.args.rule.now.rule) g.S.Store.told (g.S.Store.shown c.args.outside.now.store) (g.S.Store.shown c.request-work.new.store) (g.N.Names.shown c.args.outside.now.names) (g.N.Names.shown c.request-work.new.names) (g.C.Clock.shown c.args.outside.now.clock) (g.C.Clock.shown c.request-work.new.clock)
    c.args.self.now (record c.request-work.new.self { ledger = c.end_work.new.ledger }) c.args.set c.args.taken c.args.task.now c.end_work.result c.request-work.new.task (returns-clause-only g c) (returns-clause-seen g c) (returns-clause-latest g c)
    c.requires.form c.requires.can.form c.requires.not_ready (c.requires.can.alone refl) (sym (busy_jobs c.args.self.now.ledger.databases c.args.self.now.tasks.items) ∙ c.requires.can.alone refl) c.ranges.taken.fits
    (returns-clause-works g c)

pub returns-clause-read : goal.returns-clause-read
returns-clause-read g c =
    subst (λ (x : Option Latest). IsReadForm c.request-work.new.self.seen x) (sym (returns-clause-latest g c))
    (subst (λ (s : Seen). IsReadForm s c.args.self.now.latest) (sym (returns-clause-seen g c)) c.requires.read)

pub returns-clause-falls : goal.returns-clause-falls
returns-clause-falls g c =
    work_falls g.D.Disk.told g.D.Disk.shown g.met.D.Disk.counts_now (goal.F-post g c.args.rule.now.rule) g.S.Store.told (g.S.Store.shown c.args.outside.now.store) (g.S.Store.shown c.request-work.new.store) (g.N.Names.shown c.args.outside.now.names) (g.N.Names.shown c.request-work.new.names) (g.C.Clock.shown c.args.outside.now.clock) (g.C.Clock.shown c.request-work.new.clock)
    c.args.self.now (record c.request-work.new.self { ledger = c.end_work.new.ledger }) c.args.set c.args.taken c.args.task.now c.end_work.result c.request-work.new.task (returns-clause-only g c) (returns-clause-seen g c) (returns-clause-latest g c)
    c.requires.form c.requires.can.form c.requires.not_ready (c.requires.can.alone refl) (sym (busy_jobs c.args.self.now.ledger.databases c.args.self.now.tasks.items) ∙ c.requires.can.alone refl) c.ranges.taken.fits
    (c.requires.can.is_open refl) (returns-clause-works g c)

pub returns-clause-disk : goal.returns-clause-disk
returns-clause-disk g c =
    work_disk g.D.Disk.told g.D.Disk.shown (goal.F-post g c.args.rule.now.rule) g.S.Store.told (g.S.Store.shown c.args.outside.now.store) (g.S.Store.shown c.request-work.new.store) (g.N.Names.shown c.args.outside.now.names) (g.N.Names.shown c.request-work.new.names) (g.C.Clock.shown c.args.outside.now.clock) (g.C.Clock.shown c.request-work.new.clock)
    c.args.self.now (record c.request-work.new.self { ledger = c.end_work.new.ledger }) c.args.set c.args.task.now c.end_work.result c.request-work.new.task (returns-clause-works g c)

pub returns-clause-causes : goal.returns-clause-causes
returns-clause-causes g c =
    work_causes g.D.Disk.told g.D.Disk.shown g.S.Store.told (g.S.Store.shown c.args.outside.now.store) (g.S.Store.shown c.request-work.new.store) (goal.F-post g c.args.rule.now.rule) (g.N.Names.shown c.args.outside.now.names) (g.N.Names.shown c.request-work.new.names) (g.C.Clock.shown c.args.outside.now.clock) (g.C.Clock.shown c.request-work.new.clock)
    c.args.self.now (record c.request-work.new.self { ledger = c.end_work.new.ledger }) c.args.set c.args.task.now c.end_work.result c.request-work.new.task (returns-clause-works g c)

pub returns-clause-reached : goal.returns-clause-reached
returns-clause-reached g c = c.request-work.ensures.reached

pub returns-clause-counted : goal.returns-clause-counted
returns-clause-counted g c =
    work_counts g.D.Disk.told g.D.Disk.shown (goal.F-post g c.args.rule.now.rule) g.S.Store.told (g.S.Store.shown c.args.outside.now.store) (g.S.Store.shown c.request-work.new.store) (g.N.Names.shown c.args.outside.now.names) (g.N.Names.shown c.request-work.new.names) (g.C.Clock.shown c.args.outside.now.clock) (g.C.Clock.shown c.request-work.new.clock)
    c.args.self.now (record c.request-work.new.self { ledger = c.end_work.new.ledger }) c.args.set c.args.task.now c.end_work.result c.request-work.new.task (g.met.S.Store.counted c.args.outside.now.store c.request-work.new.store c.request-work.ensures.reached) (returns-clause-works g c)
