use Rattle.std.proofs.Common.{ℕ, MatchOption, sym, subst, arith}
use Rattle.bcv_publish.proofs.Made.{any_rules, any_limits, any_short, any_made, any_next}
use Rattle.bcv_publish.proofs.PutLaws.{any_puts, any_none}
use Rattle.bcv_publish.proofs.publish.Publish.put.Goals as goal

pub append_manifest-answer-requires-clause-rules : goal.append_manifest-answer-requires-clause-rules
append_manifest-answer-requires-clause-rules g c = any_rules c.args.self.now c.args.plan.now c.args.moment c.args.self.now.latest c.in-Ok.manifest c.in-Ok.ensures.made

pub append_manifest-answer-requires-clause-limits : goal.append_manifest-answer-requires-clause-limits
append_manifest-answer-requires-clause-limits g c = any_limits c.args.self.now c.args.plan.now c.args.moment c.args.self.now.latest c.in-Ok.manifest c.in-Ok.ensures.made

pub append_manifest-answer-requires-clause-short : goal.append_manifest-answer-requires-clause-short
append_manifest-answer-requires-clause-short g c = any_short c.args.self.now c.args.plan.now c.args.moment c.args.self.now.latest c.in-Ok.manifest c.in-Ok.ensures.made

pub end-requires-clause-next : goal.end-requires-clause-next
end-requires-clause-next g c = any_next c.args.self.now c.args.plan.now c.args.moment c.args.self.now.latest c.in-Ok.manifest c.in-Ok.ensures.made

pub returns-in-Err-clause-puts : goal.returns-in-Err-clause-puts
returns-in-Err-clause-puts g c =
    any_none g.S.Store.told (g.S.Store.shown c.args.store.now) c.args.self.now c.args.self.now.latest c.args.plan.now c.args.moment c.requires.ready (omega arith) c.in-Err.ensures.id c.in-Err.ensures.writer
    (λ tells. g.met.S.Store.rising c.args.store.now tells)

pub returns-clause-puts : goal.returns-clause-puts
returns-clause-puts g c =
    any_puts g.S.Store.told (g.S.Store.shown c.args.store.now) (g.S.Store.shown c.append_manifest-answer.new.store) c.args.self.now c.args.self.now.latest c.args.plan.now c.args.moment c.etag.result c.in-Ok.manifest
    c.append_manifest-answer.result c.end.result c.end.new.self c.requires.ready (omega arith) c.in-Ok.ensures.id c.in-Ok.ensures.writer (λ tells. g.met.S.Store.rising c.append_manifest-answer.new.store tells)
    c.etag.ensures (any_made c.args.self.now c.args.plan.now c.args.moment c.args.self.now.latest c.in-Ok.manifest c.in-Ok.ensures.made) c.append_manifest-answer.ensures.appends c.end.ensures
