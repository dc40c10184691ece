use Rattle.std.proofs.Common.{ap, refl, subst, sym, vec_capacity, vec_len, ◌<◌, ◌∙◌}
use Rattle.std.specs.Global.{Vec}
use Rattle.bcv_slots.specs.declared.Slot.{Slot}
use Rattle.bcv_ledger.specs.declared.ledger.Ledger.{Ledger}
use Rattle.bcv_transaction.specs.Open.{Open}
use Rattle.bcv_client.specs.TaskTaken.{CanGiveBack}
use Rattle.bcv_client.specs.declared.job.Job.{Job}
use Rattle.bcv_client.specs.declared.job.Job.TheVariants as job
use Rattle.bcv_client.proofs.CallFaults.{disk_then}
use Rattle.bcv_client.proofs.PollForm.{read_still}
use Rattle.bcv_client.proofs.PublicationGoesOn.{back_where, in_form_on, publishes, single_still, stays_where}
use Rattle.bcv_client.proofs.FallsCalls.{back_falls}
use Rattle.bcv_client.proofs.CallMoments.{back_moments}
use Rattle.bcv_client.proofs.Descent.{back_descends, quiet_publication}
use Rattle.bcv_client.specs.Caching.{PublishCaches}
use Rattle.bcv_client.specs.PublicationOver.{view_at}
use Rattle.bcv_client.proofs.client.Client.publication.Goals as goal

pub publish_once-reply-requires-clause-form : goal.publish_once-reply-requires-clause-form
publish_once-reply-requires-clause-form g c = c.requires.form

pub publish_once-reply-requires-clause-read : goal.publish_once-reply-requires-clause-read
publish_once-reply-requires-clause-read g c = c.requires.read

pub publish_once-reply-requires-clause-can : goal.publish_once-reply-requires-clause-can
publish_once-reply-requires-clause-can g c = c.requires.can

pub publish_once-reply-requires-clause-rule : goal.publish_once-reply-requires-clause-rule
publish_once-reply-requires-clause-rule g c = c.requires.rule

pub give_back-requires-clause-form : goal.give_back-requires-clause-form
give_back-requires-clause-form g c = c.publish_once-reply.ensures.form

pub give_back-requires-clause-place : goal.give_back-requires-clause-place
give_back-requires-clause-place g c = subst (λ (ts : Vec (Slot Job)). CanGiveBack c.args.number ts.items) (sym c.publish_once-reply.ensures.only.tasks) c.requires.place

pub give_back-requires-clause-room : goal.give_back-requires-clause-room
give_back-requires-clause-room g c = subst (λ (ts : Vec (Slot Job)). vec_len ts < vec_capacity ts) (sym c.publish_once-reply.ensures.only.tasks) c.requires.can.room

pub give_back-requires-clause-job : goal.give_back-requires-clause-job
give_back-requires-clause-job g c =
    in_form_on c.publish_once-reply.new.self c.args.set c.args.taken c.publish_once-reply.result c.publish_once-reply.new.task c.is_working.result c.is_working.ensures c.if-not-is_working.false
    c.publish_once-reply.ensures.goes_on

pub give_back-requires-clause-single : goal.give_back-requires-clause-single
give_back-requires-clause-single g c =
    single_still c.args.self.now c.publish_once-reply.new.self (job.Publish c.args.set c.args.taken c.publish_once-reply.new.task) c.publish_once-reply.ensures.only (c.requires.can.alone refl)

pub returns-then-not-is_working-clause-form : goal.returns-then-not-is_working-clause-form
returns-then-not-is_working-clause-form g c = c.publish_once-reply.ensures.form

pub returns-then-not-is_working-clause-read : goal.returns-then-not-is_working-clause-read
returns-then-not-is_working-clause-read g c = c.publish_once-reply.ensures.read

pub returns-then-not-is_working-clause-same : goal.returns-then-not-is_working-clause-same
returns-then-not-is_working-clause-same g c = record {
  id = c.publish_once-reply.ensures.only.id;
  taken = c.publish_once-reply.ensures.only.taken;
  slots = c.publish_once-reply.ensures.only.slots;
}

pub returns-then-not-is_working-clause-steps : goal.returns-then-not-is_working-clause-steps
returns-then-not-is_working-clause-steps g c =
    publishes g.D.Disk.told g.D.Disk.shown g.S.Store.told (g.S.Store.shown c.args.outside.now.store) (g.S.Store.shown c.publish_once-reply.new.outside.store) (g.N.Names.shown c.args.outside.now.names)
    (g.N.Names.shown c.publish_once-reply.new.outside.names) (g.C.Clock.shown c.args.outside.now.clock) (g.C.Clock.shown c.publish_once-reply.new.outside.clock) c.args.self.now c.publish_once-reply.new.self
    c.publish_once-reply.new.self c.args.number c.args.set c.args.taken c.args.task c.publish_once-reply.new.task c.publish_once-reply.result
    (stays_where c.publish_once-reply.new.self c.args.number c.args.set c.args.taken c.publish_once-reply.result c.publish_once-reply.new.task (sym c.is_working.ensures ∙ c.if-not-is_working.true))
    c.publish_once-reply.ensures.steps

pub returns-clause-form : goal.returns-clause-form
returns-clause-form g c = c.give_back.ensures.form

pub returns-clause-read : goal.returns-clause-read
returns-clause-read g c = read_still _ _ _ _ c.give_back.ensures.back.only.seen c.give_back.ensures.back.only.latest c.publish_once-reply.ensures.read

pub returns-clause-same : goal.returns-clause-same
returns-clause-same g c = record {
  id = c.give_back.ensures.back.only.id ∙ c.publish_once-reply.ensures.only.id;
  taken = c.give_back.ensures.back.only.taken ∙ c.publish_once-reply.ensures.only.taken;
  slots = ap (λ (o : Open). o.slots) c.give_back.ensures.back.only.txns ∙ c.publish_once-reply.ensures.only.slots;
}

pub returns-clause-steps : goal.returns-clause-steps
returns-clause-steps g c =
    publishes g.D.Disk.told g.D.Disk.shown g.S.Store.told (g.S.Store.shown c.args.outside.now.store) (g.S.Store.shown c.publish_once-reply.new.outside.store) (g.N.Names.shown c.args.outside.now.names)
    (g.N.Names.shown c.publish_once-reply.new.outside.names) (g.C.Clock.shown c.args.outside.now.clock) (g.C.Clock.shown c.publish_once-reply.new.outside.clock) c.args.self.now c.publish_once-reply.new.self
    c.give_back.new.self c.args.number c.args.set c.args.taken c.args.task c.publish_once-reply.new.task c.publish_once-reply.result
    (back_where c.publish_once-reply.new.self c.give_back.new.self c.args.number c.args.set c.args.taken c.publish_once-reply.result c.publish_once-reply.new.task (sym c.is_working.ensures ∙ c.if-not-is_working.false) c.give_back.ensures.back)
    c.publish_once-reply.ensures.steps

pub returns-then-not-is_working-clause-falls : goal.returns-then-not-is_working-clause-falls
returns-then-not-is_working-clause-falls g c =
    back_falls g.D.Disk.told g.D.Disk.shown g.S.Store.told (g.S.Store.shown c.args.outside.now.store) (g.S.Store.shown c.publish_once-reply.new.outside.store) (g.N.Names.shown c.args.outside.now.names)
    (g.N.Names.shown c.publish_once-reply.new.outside.names) c.args.self.now c.publish_once-reply.new.self c.publish_once-reply.new.self c.args.number c.args.set c.args.taken c.args.task refl refl c.publish_once-reply.ensures.falls

pub returns-clause-falls : goal.returns-clause-falls
returns-clause-falls g c =
    back_falls g.D.Disk.told g.D.Disk.shown g.S.Store.told (g.S.Store.shown c.args.outside.now.store) (g.S.Store.shown c.publish_once-reply.new.outside.store) (g.N.Names.shown c.args.outside.now.names)
    (g.N.Names.shown c.publish_once-reply.new.outside.names) c.args.self.now c.publish_once-reply.new.self c.give_back.new.self c.args.number c.args.set c.args.taken c.args.task c.give_back.ensures.back.only.id
    (ap (λ (l : Ledger g.row.D.Denot g.D.Disk). l.log) c.give_back.ensures.back.only.ledger) c.publish_once-reply.ensures.falls

pub returns-then-not-is_working-clause-disk : goal.returns-then-not-is_working-clause-disk
returns-then-not-is_working-clause-disk g c = c.publish_once-reply.ensures.disk

pub returns-then-not-is_working-clause-causes : goal.returns-then-not-is_working-clause-causes
returns-then-not-is_working-clause-causes g c = c.publish_once-reply.ensures.causes

pub returns-clause-disk : goal.returns-clause-disk
returns-clause-disk g c =
    disk_then g.D.Disk.told g.D.Disk.shown c.args.self.now c.give_back.new.self c.publish_once-reply.new.self.ledger.log c.publish_once-reply.result
    (ap (λ (l : Ledger _ _). l.log) c.give_back.ensures.back.only.ledger) c.publish_once-reply.ensures.disk

pub returns-clause-causes : goal.returns-clause-causes
returns-clause-causes g c = c.publish_once-reply.ensures.causes

pub returns-then-not-is_working-clause-any_moment : goal.returns-then-not-is_working-clause-any_moment
returns-then-not-is_working-clause-any_moment g c = c.publish_once-reply.ensures.any_moment c.args.number

pub returns-clause-any_moment : goal.returns-clause-any_moment
returns-clause-any_moment g c =
    back_moments g.D.Disk.told g.D.Disk.shown g.met.D.Disk.only_now g.S.Store.told (g.S.Store.shown c.args.outside.now.store) (g.S.Store.shown c.publish_once-reply.new.outside.store) c.args.self.now c.publish_once-reply.new.self c.give_back.new.self
    c.args.number c.args.set c.args.taken c.args.task c.give_back.ensures.back.only.ledger (c.publish_once-reply.ensures.any_moment c.args.number)

pub returns-then-not-is_working-clause-descends : goal.returns-then-not-is_working-clause-descends
returns-then-not-is_working-clause-descends g c =
    quiet_publication c.publish_once-reply.new.self c.args.number c.args.set c.args.taken c.args.task c.publish_once-reply.result (sym c.is_working.ensures ∙ c.if-not-is_working.true)

pub returns-clause-descends : goal.returns-clause-descends
returns-clause-descends g c =
    back_descends c.publish_once-reply.new.self c.give_back.new.self c.args.number c.args.set c.args.taken c.args.task c.publish_once-reply.new.task c.publish_once-reply.result
    (subst (λ (ts : Vec (Slot Job)). CanGiveBack c.args.number ts.items) (sym c.publish_once-reply.ensures.only.tasks) c.requires.place) c.give_back.ensures.back c.publish_once-reply.ensures.descends

pub returns-then-not-is_working-clause-caches : goal.returns-then-not-is_working-clause-caches
returns-then-not-is_working-clause-caches g c = c.publish_once-reply.ensures.caches

pub returns-clause-caches : goal.returns-clause-caches
returns-clause-caches g c =
    subst (λ (o : Open). PublishCaches (view_at c.args.self.now.ledger.databases c.args.set c.args.task) c.args.task c.args.self.now.txns o)
    (sym c.give_back.ensures.back.only.txns) c.publish_once-reply.ensures.caches

pub returns-then-not-is_working-clause-reached : goal.returns-then-not-is_working-clause-reached
returns-then-not-is_working-clause-reached g c = c.publish_once-reply.ensures.reached

pub returns-clause-reached : goal.returns-clause-reached
returns-clause-reached g c = c.publish_once-reply.ensures.reached

pub returns-then-not-is_working-clause-counted : goal.returns-then-not-is_working-clause-counted
returns-then-not-is_working-clause-counted g c = c.publish_once-reply.ensures.counted

pub returns-clause-counted : goal.returns-clause-counted
returns-clause-counted g c = c.publish_once-reply.ensures.counted
