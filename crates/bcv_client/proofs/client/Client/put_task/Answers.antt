use Rattle.std.proofs.Common.{◌≡◌, ◌∙◌, true, refl, subst, sym}
use Rattle.bcv_base.specs.declared.clock.Now.{Now}
use Rattle.bcv_base.specs.Ids.{IsId}
use Rattle.bcv_base.specs.Moments.{Tells}
use Rattle.bcv_databases.specs.Sound.{CanUpload}
use Rattle.std.specs.Prelude.{IfSome}
use Rattle.bcv_ledger.specs.Begins.{WaitsFor}
use Rattle.bcv_publisher.specs.WorkEnds.{EndsWork}
use Rattle.bcv_publish.specs.declared.work.Work.TheVariants as work
use Rattle.bcv_tasks.specs.declared.publish_task.PublishTask.{PublishTask}
use Rattle.bcv_tasks.specs.State.{IsRunning, is_ready, pending_of, refused_of, upload_of}
use Rattle.bcv_client.specs.PublicationPut.{EndsUntimed, PutsAt, signed}
use Rattle.bcv_client.proofs.CallFaults.{put_causes, put_disk}
use Rattle.bcv_client.proofs.TaskStands.{waits_for}
use Rattle.bcv_client.proofs.PutSteps.{put_holds, untimed_holds, untimed_notes}
use Rattle.bcv_client.proofs.PutTasks.{signed_form, signed_ready}
use Rattle.bcv_client.proofs.FallsSteps.{put_falls}
use Rattle.bcv_client.proofs.CountsOn.{told_counts}
use Rattle.bcv_client.proofs.client.Client.put_task.Goals as goal

pub put_at-requires-clause-running : goal.put_at-requires-clause-running
put_at-requires-clause-running g c =
    let s = c.args.self.now in
    let own = signed_form s.id s.seen s.ledger.databases c.args.set c.args.taken c.args.task.now c.requires.can.form in
    subst (λ (t : PublishTask). IsRunning t) (sym c.sign.ensures) own.running

pub put_at-requires-clause-ready : goal.put_at-requires-clause-ready
put_at-requires-clause-ready g c =
    subst (λ (t : PublishTask). is_ready t ≡ true) (sym c.sign.ensures) (signed_ready c.args.self.now.id c.args.task.now ∙ c.requires.ready)

pub put_at-requires-clause-waits : goal.put_at-requires-clause-waits
put_at-requires-clause-waits g c =
    let s = c.args.self.now in
    let own = signed_form s.id s.seen s.ledger.databases c.args.set c.args.taken c.args.task.now c.requires.can.form in
    subst (λ (t : PublishTask). WaitsFor s.ledger.databases.kept.pending (pending_of c.args.taken t)) (sym c.sign.ensures)
    (waits_for s.ledger.databases.kept.pending (pending_of c.args.taken (signed s.id c.args.task.now)) (refused_of (signed s.id c.args.task.now)) own.waits)

pub put_at-requires-clause-upload : goal.put_at-requires-clause-upload
put_at-requires-clause-upload g c =
    let s = c.args.self.now in
    let own = signed_form s.id s.seen s.ledger.databases c.args.set c.args.taken c.args.task.now c.requires.can.form in
    subst (λ (t : PublishTask). IfSome (upload_of c.args.taken t) (CanUpload s.ledger.databases.kept.locals)) (sym c.sign.ensures) own.upload

pub put_at-requires-clause-is_open : goal.put_at-requires-clause-is_open
put_at-requires-clause-is_open g c = c.requires.can.is_open refl

pub end_work-requires : goal.end_work-requires
end_work-requires g c = record { is_open = c.requires.can.is_open refl }

pub returns-in-At-clause-form : goal.returns-in-At-clause-form
returns-in-At-clause-form g c =
    let s = c.args.self.now in
    let told_moment = subst (λ (x : Now). Tells (g.C.Clock.shown c.args.clock.now) (g.C.Clock.shown c.now.new.self) x) c.in-At.is c.now.ensures.tells in
    let step =
    subst (λ (t : PublishTask). PutsAt g.D.Disk.told g.D.Disk.shown g.S.Store.told (g.S.Store.shown c.args.store.now) (g.S.Store.shown c.put_at.new.store) s c.put_at.new.self c.args.set c.args.taken t c.in-At.moment c.put_at.result
    c.put_at.new.task) c.sign.ensures c.put_at.ensures.puts in
    (put_holds g.D.Disk.told g.D.Disk.shown g.S.Store.told (g.S.Store.shown c.args.store.now) (g.S.Store.shown c.put_at.new.store) (g.C.Clock.shown c.args.clock.now) (g.C.Clock.shown c.now.new.self) s c.put_at.new.self
    c.args.set c.args.taken c.args.task.now c.in-At.moment c.put_at.result c.put_at.new.task told_moment step c.requires.form c.requires.can.form c.requires.ready (c.requires.can.alone refl) c.ranges.taken.fits c.requires.read
    (subst IsId c.id.ensures c.bytes.ensures.id)).form

pub returns-in-At-clause-read : goal.returns-in-At-clause-read
returns-in-At-clause-read g c =
    let s = c.args.self.now in
    let told_moment = subst (λ (x : Now). Tells (g.C.Clock.shown c.args.clock.now) (g.C.Clock.shown c.now.new.self) x) c.in-At.is c.now.ensures.tells in
    let step =
    subst (λ (t : PublishTask). PutsAt g.D.Disk.told g.D.Disk.shown g.S.Store.told (g.S.Store.shown c.args.store.now) (g.S.Store.shown c.put_at.new.store) s c.put_at.new.self c.args.set c.args.taken t c.in-At.moment c.put_at.result
    c.put_at.new.task) c.sign.ensures c.put_at.ensures.puts in
    (put_holds g.D.Disk.told g.D.Disk.shown g.S.Store.told (g.S.Store.shown c.args.store.now) (g.S.Store.shown c.put_at.new.store) (g.C.Clock.shown c.args.clock.now) (g.C.Clock.shown c.now.new.self) s c.put_at.new.self
    c.args.set c.args.taken c.args.task.now c.in-At.moment c.put_at.result c.put_at.new.task told_moment step c.requires.form c.requires.can.form c.requires.ready (c.requires.can.alone refl) c.ranges.taken.fits c.requires.read
    (subst IsId c.id.ensures c.bytes.ensures.id)).read

pub returns-in-At-clause-only : goal.returns-in-At-clause-only
returns-in-At-clause-only g c =
    let s = c.args.self.now in
    let told_moment = subst (λ (x : Now). Tells (g.C.Clock.shown c.args.clock.now) (g.C.Clock.shown c.now.new.self) x) c.in-At.is c.now.ensures.tells in
    let step =
    subst (λ (t : PublishTask). PutsAt g.D.Disk.told g.D.Disk.shown g.S.Store.told (g.S.Store.shown c.args.store.now) (g.S.Store.shown c.put_at.new.store) s c.put_at.new.self c.args.set c.args.taken t c.in-At.moment c.put_at.result
    c.put_at.new.task) c.sign.ensures c.put_at.ensures.puts in
    (put_holds g.D.Disk.told g.D.Disk.shown g.S.Store.told (g.S.Store.shown c.args.store.now) (g.S.Store.shown c.put_at.new.store) (g.C.Clock.shown c.args.clock.now) (g.C.Clock.shown c.now.new.self) s c.put_at.new.self
    c.args.set c.args.taken c.args.task.now c.in-At.moment c.put_at.result c.put_at.new.task told_moment step c.requires.form c.requires.can.form c.requires.ready (c.requires.can.alone refl) c.ranges.taken.fits c.requires.read
    (subst IsId c.id.ensures c.bytes.ensures.id)).only

pub returns-in-At-clause-goes_on : goal.returns-in-At-clause-goes_on
returns-in-At-clause-goes_on g c =
    let s = c.args.self.now in
    let told_moment = subst (λ (x : Now). Tells (g.C.Clock.shown c.args.clock.now) (g.C.Clock.shown c.now.new.self) x) c.in-At.is c.now.ensures.tells in
    let step =
    subst (λ (t : PublishTask). PutsAt g.D.Disk.told g.D.Disk.shown g.S.Store.told (g.S.Store.shown c.args.store.now) (g.S.Store.shown c.put_at.new.store) s c.put_at.new.self c.args.set c.args.taken t c.in-At.moment c.put_at.result
    c.put_at.new.task) c.sign.ensures c.put_at.ensures.puts in
    (put_holds g.D.Disk.told g.D.Disk.shown g.S.Store.told (g.S.Store.shown c.args.store.now) (g.S.Store.shown c.put_at.new.store) (g.C.Clock.shown c.args.clock.now) (g.C.Clock.shown c.now.new.self) s c.put_at.new.self
    c.args.set c.args.taken c.args.task.now c.in-At.moment c.put_at.result c.put_at.new.task told_moment step c.requires.form c.requires.can.form c.requires.ready (c.requires.can.alone refl) c.ranges.taken.fits c.requires.read
    (subst IsId c.id.ensures c.bytes.ensures.id)).stays

pub returns-in-At-clause-puts : goal.returns-in-At-clause-puts
returns-in-At-clause-puts g c =
    let s = c.args.self.now in
    let told_moment = subst (λ (x : Now). Tells (g.C.Clock.shown c.args.clock.now) (g.C.Clock.shown c.now.new.self) x) c.in-At.is c.now.ensures.tells in
    let step =
    subst (λ (t : PublishTask). PutsAt g.D.Disk.told g.D.Disk.shown g.S.Store.told (g.S.Store.shown c.args.store.now) (g.S.Store.shown c.put_at.new.store) s c.put_at.new.self c.args.set c.args.taken t c.in-At.moment c.put_at.result
    c.put_at.new.task) c.sign.ensures c.put_at.ensures.puts in
    (put_holds g.D.Disk.told g.D.Disk.shown g.S.Store.told (g.S.Store.shown c.args.store.now) (g.S.Store.shown c.put_at.new.store) (g.C.Clock.shown c.args.clock.now) (g.C.Clock.shown c.now.new.self) s c.put_at.new.self
    c.args.set c.args.taken c.args.task.now c.in-At.moment c.put_at.result c.put_at.new.task told_moment step c.requires.form c.requires.can.form c.requires.ready (c.requires.can.alone refl) c.ranges.taken.fits c.requires.read
    (subst IsId c.id.ensures c.bytes.ensures.id)).puts

pub returns-in-At-clause-notes : goal.returns-in-At-clause-notes
returns-in-At-clause-notes g c =
    let s = c.args.self.now in
    let told_moment = subst (λ (x : Now). Tells (g.C.Clock.shown c.args.clock.now) (g.C.Clock.shown c.now.new.self) x) c.in-At.is c.now.ensures.tells in
    let step =
    subst (λ (t : PublishTask). PutsAt g.D.Disk.told g.D.Disk.shown g.S.Store.told (g.S.Store.shown c.args.store.now) (g.S.Store.shown c.put_at.new.store) s c.put_at.new.self c.args.set c.args.taken t c.in-At.moment c.put_at.result
    c.put_at.new.task) c.sign.ensures c.put_at.ensures.puts in
    (put_holds g.D.Disk.told g.D.Disk.shown g.S.Store.told (g.S.Store.shown c.args.store.now) (g.S.Store.shown c.put_at.new.store) (g.C.Clock.shown c.args.clock.now) (g.C.Clock.shown c.now.new.self) s c.put_at.new.self
    c.args.set c.args.taken c.args.task.now c.in-At.moment c.put_at.result c.put_at.new.task told_moment step c.requires.form c.requires.can.form c.requires.ready (c.requires.can.alone refl) c.ranges.taken.fits c.requires.read
    (subst IsId c.id.ensures c.bytes.ensures.id)).notes

pub returns-in-At-clause-steps : goal.returns-in-At-clause-steps
returns-in-At-clause-steps g c =
    let s = c.args.self.now in
    let told_moment = subst (λ (x : Now). Tells (g.C.Clock.shown c.args.clock.now) (g.C.Clock.shown c.now.new.self) x) c.in-At.is c.now.ensures.tells in
    let step =
    subst (λ (t : PublishTask). PutsAt g.D.Disk.told g.D.Disk.shown g.S.Store.told (g.S.Store.shown c.args.store.now) (g.S.Store.shown c.put_at.new.store) s c.put_at.new.self c.args.set c.args.taken t c.in-At.moment c.put_at.result
    c.put_at.new.task) c.sign.ensures c.put_at.ensures.puts in
    (put_holds g.D.Disk.told g.D.Disk.shown g.S.Store.told (g.S.Store.shown c.args.store.now) (g.S.Store.shown c.put_at.new.store) (g.C.Clock.shown c.args.clock.now) (g.C.Clock.shown c.now.new.self) s c.put_at.new.self
    c.args.set c.args.taken c.args.task.now c.in-At.moment c.put_at.result c.put_at.new.task told_moment step c.requires.form c.requires.can.form c.requires.ready (c.requires.can.alone refl) c.ranges.taken.fits c.requires.read
    (subst IsId c.id.ensures c.bytes.ensures.id)).steps

pub returns-in-Failed-clause-form : goal.returns-in-Failed-clause-form
returns-in-Failed-clause-form g c =
    let s = c.args.self.now in
    let new = record s { ledger = c.end_work.new.ledger } in
    let told_none = subst (λ (x : Now). Tells (g.C.Clock.shown c.args.clock.now) (g.C.Clock.shown c.now.new.self) x) c.in-Failed.is c.now.ensures.tells in
    let step : EndsUntimed g.D.Disk.told g.D.Disk.shown (g.S.Store.shown c.args.store.now) (g.S.Store.shown c.args.store.now) s new (signed s.id c.args.task.now) c.end_work.result c.sign.new.task =
    record {
      only = record { id = refl; latest = refl; txns = refl; tasks = refl; taken = refl };
      seen_same = refl;
      store_same = refl;
      task_same = c.sign.ensures;
      ends =
          subst (λ (t : PublishTask). EndsWork g.D.Disk.told g.D.Disk.shown s.ledger c.end_work.new.ledger t work.ClockFault c.end_work.result) c.sign.ensures c.end_work.ensures;
    } in
    (untimed_holds g.D.Disk.told g.D.Disk.shown g.S.Store.told (g.S.Store.shown c.args.store.now) (g.S.Store.shown c.args.store.now) (g.C.Clock.shown c.args.clock.now) (g.C.Clock.shown c.now.new.self) s new c.args.set c.args.taken
    c.args.task.now c.end_work.result c.sign.new.task told_none.cause.1 step c.requires.form c.requires.can.form (subst IsId c.id.ensures c.bytes.ensures.id) (c.requires.can.alone refl) c.requires.read told_none).form

pub returns-in-Failed-clause-read : goal.returns-in-Failed-clause-read
returns-in-Failed-clause-read g c =
    let s = c.args.self.now in
    let new = record s { ledger = c.end_work.new.ledger } in
    let told_none = subst (λ (x : Now). Tells (g.C.Clock.shown c.args.clock.now) (g.C.Clock.shown c.now.new.self) x) c.in-Failed.is c.now.ensures.tells in
    let step : EndsUntimed g.D.Disk.told g.D.Disk.shown (g.S.Store.shown c.args.store.now) (g.S.Store.shown c.args.store.now) s new (signed s.id c.args.task.now) c.end_work.result c.sign.new.task =
    record {
      only = record { id = refl; latest = refl; txns = refl; tasks = refl; taken = refl };
      seen_same = refl;
      store_same = refl;
      task_same = c.sign.ensures;
      ends =
          subst (λ (t : PublishTask). EndsWork g.D.Disk.told g.D.Disk.shown s.ledger c.end_work.new.ledger t work.ClockFault c.end_work.result) c.sign.ensures c.end_work.ensures;
    } in
    (untimed_holds g.D.Disk.told g.D.Disk.shown g.S.Store.told (g.S.Store.shown c.args.store.now) (g.S.Store.shown c.args.store.now) (g.C.Clock.shown c.args.clock.now) (g.C.Clock.shown c.now.new.self) s new c.args.set c.args.taken
    c.args.task.now c.end_work.result c.sign.new.task told_none.cause.1 step c.requires.form c.requires.can.form (subst IsId c.id.ensures c.bytes.ensures.id) (c.requires.can.alone refl) c.requires.read told_none).read

pub returns-in-Failed-clause-only : goal.returns-in-Failed-clause-only
returns-in-Failed-clause-only g c =
    let s = c.args.self.now in
    let new = record s { ledger = c.end_work.new.ledger } in
    let told_none = subst (λ (x : Now). Tells (g.C.Clock.shown c.args.clock.now) (g.C.Clock.shown c.now.new.self) x) c.in-Failed.is c.now.ensures.tells in
    let step : EndsUntimed g.D.Disk.told g.D.Disk.shown (g.S.Store.shown c.args.store.now) (g.S.Store.shown c.args.store.now) s new (signed s.id c.args.task.now) c.end_work.result c.sign.new.task =
    record {
      only = record { id = refl; latest = refl; txns = refl; tasks = refl; taken = refl };
      seen_same = refl;
      store_same = refl;
      task_same = c.sign.ensures;
      ends =
          subst (λ (t : PublishTask). EndsWork g.D.Disk.told g.D.Disk.shown s.ledger c.end_work.new.ledger t work.ClockFault c.end_work.result) c.sign.ensures c.end_work.ensures;
    } in
    (untimed_holds g.D.Disk.told g.D.Disk.shown g.S.Store.told (g.S.Store.shown c.args.store.now) (g.S.Store.shown c.args.store.now) (g.C.Clock.shown c.args.clock.now) (g.C.Clock.shown c.now.new.self) s new c.args.set c.args.taken
    c.args.task.now c.end_work.result c.sign.new.task told_none.cause.1 step c.requires.form c.requires.can.form (subst IsId c.id.ensures c.bytes.ensures.id) (c.requires.can.alone refl) c.requires.read told_none).only

pub returns-in-Failed-clause-goes_on : goal.returns-in-Failed-clause-goes_on
returns-in-Failed-clause-goes_on g c =
    let s = c.args.self.now in
    let new = record s { ledger = c.end_work.new.ledger } in
    let told_none = subst (λ (x : Now). Tells (g.C.Clock.shown c.args.clock.now) (g.C.Clock.shown c.now.new.self) x) c.in-Failed.is c.now.ensures.tells in
    let step : EndsUntimed g.D.Disk.told g.D.Disk.shown (g.S.Store.shown c.args.store.now) (g.S.Store.shown c.args.store.now) s new (signed s.id c.args.task.now) c.end_work.result c.sign.new.task =
    record {
      only = record { id = refl; latest = refl; txns = refl; tasks = refl; taken = refl };
      seen_same = refl;
      store_same = refl;
      task_same = c.sign.ensures;
      ends =
          subst (λ (t : PublishTask). EndsWork g.D.Disk.told g.D.Disk.shown s.ledger c.end_work.new.ledger t work.ClockFault c.end_work.result) c.sign.ensures c.end_work.ensures;
    } in
    (untimed_holds g.D.Disk.told g.D.Disk.shown g.S.Store.told (g.S.Store.shown c.args.store.now) (g.S.Store.shown c.args.store.now) (g.C.Clock.shown c.args.clock.now) (g.C.Clock.shown c.now.new.self) s new c.args.set c.args.taken
    c.args.task.now c.end_work.result c.sign.new.task told_none.cause.1 step c.requires.form c.requires.can.form (subst IsId c.id.ensures c.bytes.ensures.id) (c.requires.can.alone refl) c.requires.read told_none).stays

pub returns-in-Failed-clause-puts : goal.returns-in-Failed-clause-puts
returns-in-Failed-clause-puts g c =
    let s = c.args.self.now in
    let new = record s { ledger = c.end_work.new.ledger } in
    let told_none = subst (λ (x : Now). Tells (g.C.Clock.shown c.args.clock.now) (g.C.Clock.shown c.now.new.self) x) c.in-Failed.is c.now.ensures.tells in
    let step : EndsUntimed g.D.Disk.told g.D.Disk.shown (g.S.Store.shown c.args.store.now) (g.S.Store.shown c.args.store.now) s new (signed s.id c.args.task.now) c.end_work.result c.sign.new.task =
    record {
      only = record { id = refl; latest = refl; txns = refl; tasks = refl; taken = refl };
      seen_same = refl;
      store_same = refl;
      task_same = c.sign.ensures;
      ends =
          subst (λ (t : PublishTask). EndsWork g.D.Disk.told g.D.Disk.shown s.ledger c.end_work.new.ledger t work.ClockFault c.end_work.result) c.sign.ensures c.end_work.ensures;
    } in
    (untimed_holds g.D.Disk.told g.D.Disk.shown g.S.Store.told (g.S.Store.shown c.args.store.now) (g.S.Store.shown c.args.store.now) (g.C.Clock.shown c.args.clock.now) (g.C.Clock.shown c.now.new.self) s new c.args.set c.args.taken
    c.args.task.now c.end_work.result c.sign.new.task told_none.cause.1 step c.requires.form c.requires.can.form (subst IsId c.id.ensures c.bytes.ensures.id) (c.requires.can.alone refl) c.requires.read told_none).puts

pub returns-in-Failed-clause-notes : goal.returns-in-Failed-clause-notes
returns-in-Failed-clause-notes g c =
    let s = c.args.self.now in
    let new = record s { ledger = c.end_work.new.ledger } in
    let told_none = subst (λ (x : Now). Tells (g.C.Clock.shown c.args.clock.now) (g.C.Clock.shown c.now.new.self) x) c.in-Failed.is c.now.ensures.tells in
    let step : EndsUntimed g.D.Disk.told g.D.Disk.shown (g.S.Store.shown c.args.store.now) (g.S.Store.shown c.args.store.now) s new (signed s.id c.args.task.now) c.end_work.result c.sign.new.task =
    record {
      only = record { id = refl; latest = refl; txns = refl; tasks = refl; taken = refl };
      seen_same = refl;
      store_same = refl;
      task_same = c.sign.ensures;
      ends =
          subst (λ (t : PublishTask). EndsWork g.D.Disk.told g.D.Disk.shown s.ledger c.end_work.new.ledger t work.ClockFault c.end_work.result) c.sign.ensures c.end_work.ensures;
    } in
    untimed_notes g.D.Disk.told g.D.Disk.shown g.S.Store.told (g.S.Store.shown c.args.store.now) (g.S.Store.shown c.args.store.now) (g.C.Clock.shown c.args.clock.now) (g.C.Clock.shown c.now.new.self) s new c.args.set c.args.taken
    c.args.task.now c.end_work.result c.sign.new.task told_none.cause.1 step c.requires.form c.requires.can.form (subst IsId c.id.ensures c.bytes.ensures.id) (c.requires.can.alone refl) g.met.D.Disk.only_now (c.requires.can.is_open refl)

pub returns-in-Failed-clause-steps : goal.returns-in-Failed-clause-steps
returns-in-Failed-clause-steps g c =
    let s = c.args.self.now in
    let new = record s { ledger = c.end_work.new.ledger } in
    let told_none = subst (λ (x : Now). Tells (g.C.Clock.shown c.args.clock.now) (g.C.Clock.shown c.now.new.self) x) c.in-Failed.is c.now.ensures.tells in
    let step : EndsUntimed g.D.Disk.told g.D.Disk.shown (g.S.Store.shown c.args.store.now) (g.S.Store.shown c.args.store.now) s new (signed s.id c.args.task.now) c.end_work.result c.sign.new.task =
    record {
      only = record { id = refl; latest = refl; txns = refl; tasks = refl; taken = refl };
      seen_same = refl;
      store_same = refl;
      task_same = c.sign.ensures;
      ends =
          subst (λ (t : PublishTask). EndsWork g.D.Disk.told g.D.Disk.shown s.ledger c.end_work.new.ledger t work.ClockFault c.end_work.result) c.sign.ensures c.end_work.ensures;
    } in
    (untimed_holds g.D.Disk.told g.D.Disk.shown g.S.Store.told (g.S.Store.shown c.args.store.now) (g.S.Store.shown c.args.store.now) (g.C.Clock.shown c.args.clock.now) (g.C.Clock.shown c.now.new.self) s new c.args.set c.args.taken
    c.args.task.now c.end_work.result c.sign.new.task told_none.cause.1 step c.requires.form c.requires.can.form (subst IsId c.id.ensures c.bytes.ensures.id) (c.requires.can.alone refl) c.requires.read told_none).steps

pub returns-in-At-clause-falls : goal.returns-in-At-clause-falls
returns-in-At-clause-falls g c =
    put_falls g.D.Disk.told g.D.Disk.shown g.met.D.Disk.counts_now g.S.Store.told (g.S.Store.shown c.args.store.now) (g.S.Store.shown c.put_at.new.store) c.args.self.now c.put_at.new.self
    (returns-in-At-clause-only g c).id c.args.set c.args.taken c.args.task.now (returns-in-At-clause-notes g c)

pub returns-in-Failed-clause-falls : goal.returns-in-Failed-clause-falls
returns-in-Failed-clause-falls g c =
    put_falls g.D.Disk.told g.D.Disk.shown g.met.D.Disk.counts_now g.S.Store.told (g.S.Store.shown c.args.store.now) (g.S.Store.shown c.args.store.now) c.args.self.now
    (record c.args.self.now { ledger = c.end_work.new.ledger }) refl c.args.set c.args.taken c.args.task.now (returns-in-Failed-clause-notes g c)

pub returns-in-At-clause-disk : goal.returns-in-At-clause-disk
returns-in-At-clause-disk g c =
    put_disk g.D.Disk.told g.D.Disk.shown g.S.Store.told (g.S.Store.shown c.args.store.now) (g.S.Store.shown c.put_at.new.store) (g.C.Clock.shown c.args.clock.now) (g.C.Clock.shown c.now.new.self) c.args.self.now c.put_at.new.self c.args.set c.args.taken c.args.task.now c.put_at.result c.put_at.new.task (returns-in-At-clause-puts g c)

pub returns-in-At-clause-causes : goal.returns-in-At-clause-causes
returns-in-At-clause-causes g c = λ names.
    put_causes g.D.Disk.told g.D.Disk.shown g.S.Store.told (g.S.Store.shown c.args.store.now) (g.S.Store.shown c.put_at.new.store) names (g.C.Clock.shown c.args.clock.now) (g.C.Clock.shown c.now.new.self) c.args.self.now c.put_at.new.self c.args.set c.args.taken c.args.task.now c.put_at.result c.put_at.new.task (returns-in-At-clause-puts g c)

pub returns-in-Failed-clause-disk : goal.returns-in-Failed-clause-disk
returns-in-Failed-clause-disk g c =
    put_disk g.D.Disk.told g.D.Disk.shown g.S.Store.told (g.S.Store.shown c.args.store.now) (g.S.Store.shown c.args.store.now) (g.C.Clock.shown c.args.clock.now) (g.C.Clock.shown c.now.new.self) c.args.self.now (record c.args.self.now { ledger = c.end_work.new.ledger }) c.args.set c.args.taken c.args.task.now c.end_work.result c.sign.new.task (returns-in-Failed-clause-puts g c)

pub returns-in-Failed-clause-causes : goal.returns-in-Failed-clause-causes
returns-in-Failed-clause-causes g c = λ names.
    put_causes g.D.Disk.told g.D.Disk.shown g.S.Store.told (g.S.Store.shown c.args.store.now) (g.S.Store.shown c.args.store.now) names (g.C.Clock.shown c.args.clock.now) (g.C.Clock.shown c.now.new.self) c.args.self.now (record c.args.self.now { ledger = c.end_work.new.ledger }) c.args.set c.args.taken c.args.task.now c.end_work.result c.sign.new.task (returns-in-Failed-clause-puts g c)

pub returns-in-At-clause-reached : goal.returns-in-At-clause-reached
returns-in-At-clause-reached g c = c.put_at.ensures.reached

pub returns-in-Failed-clause-reached : goal.returns-in-Failed-clause-reached
returns-in-Failed-clause-reached g c = g.met.S.Store.same c.args.store.now

pub returns-in-At-clause-counted : goal.returns-in-At-clause-counted
returns-in-At-clause-counted g c = λ names.
    told_counts (g.S.Store.shown c.args.store.now) (g.S.Store.shown c.put_at.new.store) names (g.C.Clock.shown c.args.clock.now) (g.C.Clock.shown c.now.new.self) c.now.result
    (g.met.S.Store.counted c.args.store.now c.put_at.new.store c.put_at.ensures.reached) c.now.ensures.tells

pub returns-in-Failed-clause-counted : goal.returns-in-Failed-clause-counted
returns-in-Failed-clause-counted g c = λ names.
    told_counts (g.S.Store.shown c.args.store.now) (g.S.Store.shown c.args.store.now) names (g.C.Clock.shown c.args.clock.now) (g.C.Clock.shown c.now.new.self) c.now.result
    (g.met.S.Store.counted c.args.store.now c.args.store.now (g.met.S.Store.same c.args.store.now)) c.now.ensures.tells
