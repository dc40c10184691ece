use Rattle.std.proofs.Common.{◌∙◌, ap, sym}
use Rattle.std.specs.Option.{option_map}
use Rattle.bcv_publisher.proofs.ResolveAnswers.{resolves_to}
use Rattle.bcv_publisher.proofs.pending_resolve.resolve_step.Goals as goal

pub returns-clause-resolves : goal.returns-clause-resolves
returns-clause-resolves g c =
    resolves_to g.D.Disk.told g.D.Disk.shown g.S.Store.told (g.S.Store.shown c.args.store.now) (g.S.Store.shown c.resolve-answer.new.store) c.args.ledger.now c.end_pending-reply.new.ledger
    c.args.writer c.args.seen.now c.in-Some.pending.now (sym c.pending.ensures ∙ ap (option_map (λ p. p.now)) c.in-Some.is) c.bytes.ensures.id c.requires.is_open c.kept.ensures.sound
    g.met.D.Disk.only_now c.resolve-answer.result c.end_pending-reply.result c.resolve-answer.ensures.resolves c.end_pending-reply.ensures
