use Rattle.std.proofs.Common.{◌≡◌, false, None, refl, subst, sym}
use Rattle.bcv_tasks.specs.declared.publish_task.PublishTask.{PublishTask}
use Rattle.bcv_tasks.specs.declared.publish_task.PublishTask.TheVariants as task
use Rattle.bcv_tasks.specs.State.{IsRunning, is_ready}
use Rattle.bcv_client.specs.TaskRequests.{AsksTask}
use Rattle.bcv_client.proofs.TaskRequests.{cleanup_asks, copy_asks, form_of, has_set, holds_view, ready_create, same_block, upload_asks}
use Rattle.bcv_client.proofs.client.Client.request.Goals as goal

pub unreachable-requires : goal.unreachable-requires
unreachable-requires g c = ready_create c.args.task.now c.in-Create.field-0 c.in-Create.is c.requires.running c.requires.not_ready

pub work-requires-clause-running : goal.work-requires-clause-running
work-requires-clause-running g c = (subst IsRunning c.in-Copy.is c.requires.running).1

pub work-requires-clause-not_ready : goal.work-requires-clause-not_ready
work-requires-clause-not_ready g c = subst (λ (t : PublishTask). is_ready t ≡ false) c.in-Copy.is c.requires.not_ready

pub upload-requires-clause-running : goal.upload-requires-clause-running
upload-requires-clause-running g c = (subst IsRunning c.in-Upload.is c.requires.running).1

pub upload-requires-clause-not_ready : goal.upload-requires-clause-not_ready
upload-requires-clause-not_ready g c = subst (λ (t : PublishTask). is_ready t ≡ false) c.in-Upload.is c.requires.not_ready

pub upload-requires-clause-view : goal.upload-requires-clause-view
upload-requires-clause-view g c =
    holds_view c.args.self.now.seen c.args.self.now.ledger.databases c.args.set c.requires.view.0 c.args.task.now c.in-Upload.field-0 c.in-Upload.upload c.in-Upload.is c.requires.view.1
    c.in-Some.pages.now (rw c.in-Some.is at c.pages.ensures)

pub upload-requires-clause-seen : goal.upload-requires-clause-seen
upload-requires-clause-seen g c =
    (form_of c.args.self.now.seen c.args.self.now.ledger.databases c.args.set c.requires.view.0 c.args.task.now c.in-Upload.field-0 c.in-Upload.upload c.in-Upload.is c.requires.view.1).size

pub upload-requires-clause-same_block : goal.upload-requires-clause-same_block
upload-requires-clause-same_block g c =
    same_block c.args.self.now.seen c.args.self.now.ledger.databases c.args.set c.requires.view.0 c.args.task.now c.in-Upload.field-0 c.in-Upload.upload c.in-Upload.is c.requires.view.1
    c.args.self.now.txns.cache c.requires.form.size

pub unreachable-requires-in-None : goal.unreachable-requires-in-None
unreachable-requires-in-None g c =
    has_set c.args.self.now.seen c.args.self.now.ledger.databases c.args.set c.requires.view.0 c.args.task.now c.in-Upload.field-0 c.in-Upload.upload c.in-Upload.is c.requires.view.1
    None (rw c.in-None.is at c.pages.ensures) refl

pub work-requires-in-Cleanup-clause-running : goal.work-requires-in-Cleanup-clause-running
work-requires-in-Cleanup-clause-running g c = (subst IsRunning c.in-Cleanup.is c.requires.running).1

pub work-requires-in-Cleanup-clause-not_ready : goal.work-requires-in-Cleanup-clause-not_ready
work-requires-in-Cleanup-clause-not_ready g c = subst (λ (t : PublishTask). is_ready t ≡ false) c.in-Cleanup.is c.requires.not_ready

pub returns-in-Copy-clause-asks : goal.returns-in-Copy-clause-asks
returns-in-Copy-clause-asks g c =
    subst (λ (t : PublishTask). AsksTask (goal.F-post g c.args.rule.now.rule) g.S.Store.told (g.S.Store.shown c.args.store.now) (g.S.Store.shown c.work.new.store) (g.N.Names.shown c.args.names.now) (g.N.Names.shown c.work.new.names) (g.C.Clock.shown c.args.clock.now) (g.C.Clock.shown c.args.clock.now) c.args.self.now.seen c.args.self.now.ledger.databases c.args.set c.args.self.now.txns c.args.self.now.txns t c.work.result (task.Copy c.in-Copy.field-0 c.work.new.self)) (sym c.in-Copy.is)
    (copy_asks (goal.F-post g c.args.rule.now.rule) g.S.Store.told (g.S.Store.shown c.args.store.now) (g.S.Store.shown c.work.new.store) (g.N.Names.shown c.args.names.now) (g.N.Names.shown c.work.new.names) (g.C.Clock.shown c.args.clock.now) (g.C.Clock.shown c.args.clock.now)
    c.args.self.now.seen c.args.self.now.ledger.databases c.args.set c.args.self.now.txns c.in-Copy.field-0 c.work.result c.in-Copy.copy c.work.new.self
    (subst (λ (t : PublishTask). is_ready t ≡ false) c.in-Copy.is c.requires.not_ready) (subst IsRunning c.in-Copy.is c.requires.running).0 c.work.ensures.leaves c.work.ensures.works c.work.ensures.running)

pub returns-in-Some-clause-asks : goal.returns-in-Some-clause-asks
returns-in-Some-clause-asks g c =
    subst (λ (t : PublishTask). AsksTask (goal.F-post g c.args.rule.now.rule) g.S.Store.told (g.S.Store.shown c.args.store.now) (g.S.Store.shown c.upload.new.store) (g.N.Names.shown c.args.names.now) (g.N.Names.shown c.upload.new.names) (g.C.Clock.shown c.args.clock.now) (g.C.Clock.shown c.args.clock.now) c.args.self.now.seen c.args.self.now.ledger.databases c.args.set c.args.self.now.txns c.upload.new.self t c.upload.result (task.Upload c.in-Upload.field-0 c.upload.new.task)) (sym c.in-Upload.is)
    (upload_asks (goal.F-post g c.args.rule.now.rule) g.S.Store.told (g.S.Store.shown c.args.store.now) (g.S.Store.shown c.upload.new.store) (g.N.Names.shown c.args.names.now) (g.N.Names.shown c.upload.new.names) (g.C.Clock.shown c.args.clock.now) (g.C.Clock.shown c.args.clock.now)
    c.args.self.now.seen c.args.self.now.ledger.databases c.args.set c.args.self.now.txns c.in-Upload.field-0 c.upload.result c.in-Some.pages.now c.upload.new.self c.in-Upload.upload c.upload.new.task
    (rw c.in-Some.is at c.pages.ensures) (subst (λ (t : PublishTask). is_ready t ≡ false) c.in-Upload.is c.requires.not_ready) (subst IsRunning c.in-Upload.is c.requires.running).0 c.upload.ensures.uploads c.upload.ensures.running)

pub returns-in-Cleanup-clause-asks : goal.returns-in-Cleanup-clause-asks
returns-in-Cleanup-clause-asks g c =
    subst (λ (t : PublishTask). AsksTask (goal.F-post g c.args.rule.now.rule) g.S.Store.told (g.S.Store.shown c.args.store.now) (g.S.Store.shown c.work-in-Cleanup.new.store) (g.N.Names.shown c.args.names.now) (g.N.Names.shown c.args.names.now) (g.C.Clock.shown c.args.clock.now) (g.C.Clock.shown c.work-in-Cleanup.new.clock) c.args.self.now.seen c.args.self.now.ledger.databases c.args.set c.args.self.now.txns c.args.self.now.txns t c.work-in-Cleanup.result (task.Cleanup c.in-Cleanup.field-0 c.work-in-Cleanup.new.self)) (sym c.in-Cleanup.is)
    (cleanup_asks (goal.F-post g c.args.rule.now.rule) g.S.Store.told (g.S.Store.shown c.args.store.now) (g.S.Store.shown c.work-in-Cleanup.new.store) (g.N.Names.shown c.args.names.now) (g.N.Names.shown c.args.names.now) (g.C.Clock.shown c.args.clock.now) (g.C.Clock.shown c.work-in-Cleanup.new.clock)
    c.args.self.now.seen c.args.self.now.ledger.databases c.args.set c.args.self.now.txns c.in-Cleanup.field-0 c.work-in-Cleanup.result c.in-Cleanup.cleanup c.work-in-Cleanup.new.self
    (subst (λ (t : PublishTask). is_ready t ≡ false) c.in-Cleanup.is c.requires.not_ready) (subst IsRunning c.in-Cleanup.is c.requires.running).0 c.work-in-Cleanup.ensures.leaves c.work-in-Cleanup.ensures.works c.work-in-Cleanup.ensures.running)

pub returns-in-Copy-clause-reached : goal.returns-in-Copy-clause-reached
returns-in-Copy-clause-reached g c = c.work.ensures.reached

pub returns-in-Some-clause-reached : goal.returns-in-Some-clause-reached
returns-in-Some-clause-reached g c = c.upload.ensures.reached

pub returns-in-Cleanup-clause-reached : goal.returns-in-Cleanup-clause-reached
returns-in-Cleanup-clause-reached g c = c.work-in-Cleanup.ensures.reached
