use Rattle.std.proofs.Common.{Ok, Err, subst}
use Rattle.bcv_publish.specs.ManifestRead.{ManifestReads}
use Rattle.bcv_publish.specs.State.{State}
use Rattle.bcv_publish.proofs.ResolveLaws.{read_resolves}
use Rattle.bcv_publish.proofs.pending.resolve.Goals as goal

pub returns-in-Ok-clause-resolves : goal.returns-in-Ok-clause-resolves
returns-in-Ok-clause-resolves g c =
    read_resolves g.S.Store.told (g.S.Store.shown c.args.store.now) (g.S.Store.shown c.read.new.store) c.args.seen.now c.args.writer.now c.args.id.now (Ok c.in-Ok.latest) c.resolved.result
    (subst (λ (p : State). ManifestReads g.S.Store.told (g.S.Store.shown c.args.store.now) (g.S.Store.shown c.read.new.store) c.args.seen.now p (Ok c.in-Ok.latest)) c.new-publication.ensures c.in-Ok.ensures.reads)
    c.resolved.ensures

pub returns-clause-resolves : goal.returns-clause-resolves
returns-clause-resolves g c =
    read_resolves g.S.Store.told (g.S.Store.shown c.args.store.now) (g.S.Store.shown c.read.new.store) c.args.seen.now c.args.writer.now c.args.id.now (Err c.in-Err.unread) c.resolved-in-Err.result
    (subst (λ (p : State). ManifestReads g.S.Store.told (g.S.Store.shown c.args.store.now) (g.S.Store.shown c.read.new.store) c.args.seen.now p (Err c.in-Err.unread)) c.new-publication.ensures c.in-Err.ensures.reads)
    c.resolved-in-Err.ensures
