use Rattle.std.proofs.Common.{refl}
use Rattle.bcv_client.proofs.ResolveOver.{form_resolved, resolve_ends}
use Rattle.bcv_client.proofs.NeededKept.{trims_as}
use Rattle.bcv_client.proofs.FallsSteps.{resolve_falls}
use Rattle.bcv_client.proofs.client.Client.resolve.Goals as goal

pub resolve_step-reply-requires-clause-pending : goal.resolve_step-reply-requires-clause-pending
resolve_step-reply-requires-clause-pending g c = c.requires.pending

pub resolve_step-reply-requires-clause-is_open : goal.resolve_step-reply-requires-clause-is_open
resolve_step-reply-requires-clause-is_open g c = c.requires.is_open

pub returns-clause-form : goal.returns-clause-form
returns-clause-form g c =
    form_resolved g.D.Disk.told g.D.Disk.shown g.S.Store.told (g.S.Store.shown c.args.store.now) (g.S.Store.shown c.resolve_step-reply.new.store) c.args.self.now
    (record c.args.self.now { ledger = c.trim_where.new.ledger }) c.resolve_step-reply.result
    (record { id = refl; seen = refl; latest = refl; txns = refl; tasks = refl })
    (record { mid = c.resolve_step-reply.new.ledger; resolves = c.resolve_step-reply.ensures.resolves; trims = trims_as c.resolve_step-reply.new.ledger c.trim_where.new.ledger c.args.self.now.txns c.is_resolved.result _ c.uploaded_set-set.result _ c.deref.result.now c.args.self.now.tasks.items c.is_resolved.ensures c.uploaded_set-set.ensures c.deref.ensures.value c.trim_where.ensures.trims; views = c.trim_where.ensures.views })
    c.requires.form c.kept.ensures.sound c.requires.alone

pub returns-clause-only : goal.returns-clause-only
returns-clause-only g c = record { writes = record { id = refl; seen = refl; latest = refl; txns = refl; tasks = refl }; taken = refl }

pub returns-clause-tasks : goal.returns-clause-tasks
returns-clause-tasks g c = refl

pub returns-clause-resolves : goal.returns-clause-resolves
returns-clause-resolves g c = record { mid = c.resolve_step-reply.new.ledger; resolves = c.resolve_step-reply.ensures.resolves; trims = trims_as c.resolve_step-reply.new.ledger c.trim_where.new.ledger c.args.self.now.txns c.is_resolved.result _ c.uploaded_set-set.result _ c.deref.result.now c.args.self.now.tasks.items c.is_resolved.ensures c.uploaded_set-set.ensures c.deref.ensures.value c.trim_where.ensures.trims; views = c.trim_where.ensures.views }

pub returns-clause-ends : goal.returns-clause-ends
returns-clause-ends g c =
    resolve_ends g.D.Disk.told g.D.Disk.shown g.S.Store.told (g.S.Store.shown c.args.store.now) (g.S.Store.shown c.resolve_step-reply.new.store) c.args.self.now _ c.resolve_step-reply.result
    (record { id = refl; seen = refl; latest = refl; txns = refl; tasks = refl })
    (record { mid = c.resolve_step-reply.new.ledger; resolves = c.resolve_step-reply.ensures.resolves; trims = trims_as c.resolve_step-reply.new.ledger c.trim_where.new.ledger c.args.self.now.txns c.is_resolved.result _ c.uploaded_set-set.result _ c.deref.result.now c.args.self.now.tasks.items c.is_resolved.ensures c.uploaded_set-set.ensures c.deref.ensures.value c.trim_where.ensures.trims; views = c.trim_where.ensures.views })
    c.requires.form c.kept.ensures.sound c.requires.alone

pub returns-clause-falls : goal.returns-clause-falls
returns-clause-falls g c =
    resolve_falls g.D.Disk.told g.D.Disk.shown g.met.D.Disk.counts_now g.S.Store.told (g.S.Store.shown c.args.store.now) (g.S.Store.shown c.resolve_step-reply.new.store) c.args.self.now
    (record c.args.self.now { ledger = c.trim_where.new.ledger }) refl c.resolve_step-reply.result (returns-clause-resolves g c) c.requires.alone

pub returns-clause-reached : goal.returns-clause-reached
returns-clause-reached g c = c.resolve_step-reply.ensures.reached
