use Rattle.std.proofs.Common.{refl}
use Rattle.bcv_client.proofs.PollForm.{form_polled}
use Rattle.bcv_client.proofs.PollOver.{poll_ends}
use Rattle.bcv_client.proofs.FallsSteps.{poll_falls}
use Rattle.bcv_client.proofs.client.Client.poll.Goals as goal

pub poll_step-reply-requires : goal.poll_step-reply-requires
poll_step-reply-requires g c = record { form = c.requires.read }

pub returns-clause-form : goal.returns-clause-form
returns-clause-form g c =
    let old = c.args.self.now in
    let step = c.poll_step-reply.ensures.polls in
    form_polled old.ledger.databases c.poll_step-reply.new.ledger.databases (record { kept = step.kept; sets = step.sets }) old.txns old.tasks.items old.seen c.poll_step-reply.new.seen old.latest
    c.poll_step-reply.new.latest c.requires.form c.requires.read c.kept.ensures.sound.pending c.poll_step-reply.result step.leaves

pub returns-clause-read : goal.returns-clause-read
returns-clause-read g c = c.poll_step-reply.ensures.polls.form

pub returns-clause-only : goal.returns-clause-only
returns-clause-only g c = record { id = refl; txns = refl; tasks = refl; taken = refl }

pub returns-clause-polls : goal.returns-clause-polls
returns-clause-polls g c = c.poll_step-reply.ensures.polls

pub returns-clause-ends : goal.returns-clause-ends
returns-clause-ends g c =
    poll_ends g.D.Disk.told g.D.Disk.shown g.S.Store.told (g.S.Store.shown c.args.store.now) (g.S.Store.shown c.poll_step-reply.new.store) c.args.self.now _ c.poll_step-reply.result
    (record { id = refl; txns = refl; tasks = refl; taken = refl }) c.poll_step-reply.ensures.polls

pub returns-clause-falls : goal.returns-clause-falls
returns-clause-falls g c =
    poll_falls g.D.Disk.told g.D.Disk.shown g.S.Store.told (g.S.Store.shown c.args.store.now) (g.S.Store.shown c.poll_step-reply.new.store) c.args.self.now
    (record c.args.self.now { ledger = c.poll_step-reply.new.ledger; seen = c.poll_step-reply.new.seen; latest = c.poll_step-reply.new.latest }) refl c.poll_step-reply.ensures.polls.log
    c.poll_step-reply.result c.poll_step-reply.ensures.polls

pub returns-clause-reached : goal.returns-clause-reached
returns-clause-reached g c = c.poll_step-reply.ensures.reached
