use Rattle.std.proofs.Common.{Err, Ok, refl, sym, subst}
use Rattle.bcv_publish.specs.declared.work.Work.{Work}
use Rattle.bcv_publish.specs.ManifestGet.{GetLeaves}
use Rattle.bcv_publish.proofs.GetLaws.{get_gets, kept_leaves, unread_leaves}
use Rattle.bcv_publish.proofs.publish.Publish.get.Goals as goal

pub returns-in-Ok-clause-leaves : goal.returns-in-Ok-clause-leaves
returns-in-Ok-clause-leaves g c = kept_leaves c.args.seen.now c.args.plan.now c.args.self.now c.in-Ok.latest c.keep.result c.keep.new.self c.in-Ok.ensures.taken c.keep.ensures

pub returns-in-Ok-clause-gets : goal.returns-in-Ok-clause-gets
returns-in-Ok-clause-gets g c =
    get_gets g.S.Store.told (g.S.Store.shown c.args.store.now) (g.S.Store.shown c.read.new.store) c.args.seen.now c.args.plan.now c.args.self.now (Ok c.in-Ok.latest) c.keep.result c.keep.new.self c.in-Ok.ensures.reads c.keep.ensures

pub returns-in-Err-clause-leaves : goal.returns-in-Err-clause-leaves
returns-in-Err-clause-leaves g c =
    subst (λ (r : Work). GetLeaves c.args.seen.now c.args.plan.now c.args.self.now r c.args.self.now) (sym c.work.ensures) (unread_leaves c.args.seen.now c.args.plan.now c.args.self.now c.in-Err.unread)

pub returns-in-Err-clause-gets : goal.returns-in-Err-clause-gets
returns-in-Err-clause-gets g c =
    get_gets g.S.Store.told (g.S.Store.shown c.args.store.now) (g.S.Store.shown c.read.new.store) c.args.seen.now c.args.plan.now c.args.self.now (Err c.in-Err.unread) c.work.result c.args.self.now c.in-Err.ensures.reads (c.work.ensures, refl)
