use Rattle.std.proofs.Common.{ℕ, List, subst}
use Rattle.bcv_poller.specs.ManifestPoll.{PollAnswered}
use Rattle.bcv_poller.proofs.PollLaws.{get_polls}
use Rattle.bcv_poller.proofs.manifest_poll.poll.Goals as goal

pub returns-clause-polls : goal.returns-clause-polls
returns-clause-polls g c =
    get_polls g.S.Store.told (g.S.Store.shown c.args.store.now) (g.S.Store.shown c.get-got.new.self) c.get-got.new.into.items c.get-got.result c.args.seen.now c.args.etag c.answered.result
    (λ tells. g.met.S.Store.rising c.get-got.new.self tells) c.get-got.ensures.gets
    (subst (λ (l : List ℕ). PollAnswered c.get-got.result l c.args.seen.now c.answered.result) c.deref.ensures.value c.answered.ensures.answered) c.answered.ensures.new
