use Rattle.std.proofs.Common.{Option, ℕ, subst}
use Rattle.bcv_poller.specs.ManifestPoll.{ManifestPolls}
use Rattle.bcv_publisher.proofs.PollEnds.{settled}
use Rattle.bcv_publisher.proofs.container_poll.poll_step.Goals as goal

pub returns-clause-polls : goal.returns-clause-polls
returns-clause-polls g c =
    settled g.S.Store.told (g.S.Store.shown c.args.store.now) (g.S.Store.shown c.poll-answer.new.store) c.args.ledger.now c.take_poll.new.ledger c.args.seen.now c.take_poll.new.seen c.args.latest.now
    c.take_poll.new.latest c.requires.form c.poll-answer.result c.take_poll.result
    (subst (λ (e : Option ℕ). ManifestPolls g.S.Store.told (g.S.Store.shown c.args.store.now) (g.S.Store.shown c.poll-answer.new.store) c.args.seen.now e c.poll-answer.result) c.etag_in.ensures c.poll-answer.ensures.polls)
    c.take_poll.ensures
