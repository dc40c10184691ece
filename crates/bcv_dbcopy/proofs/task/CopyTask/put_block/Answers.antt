use Rattle.std.proofs.Common.{◌≡◌, false, List, is_none, sym, subst, length}
use Rattle.bcv_base.specs.Image.{Page}
use Rattle.bcv_dbmap.specs.declared.plan.EditPlan.TheVariants as edit
use Rattle.bcv_publish.specs.declared.work.Work.{Work}
use Rattle.bcv_publish.specs.BlockPut.{BlockPuts, block_work}
use Rattle.bcv_dbcopy.specs.declared.task.CopyTask.TheInside.{Inside}
use Rattle.bcv_dbcopy.specs.State.{State, block_text, is_ready}
use Rattle.bcv_dbcopy.specs.TaskWork.{TaskWorks}
use Rattle.bcv_dbcopy.proofs.WorkLaws.{block_works}
use Rattle.bcv_dbcopy.proofs.Tasks.{task_more, under_way, passed_of, kept_some, new_sized}
use Rattle.bcv_dbcopy.proofs.task.CopyTask.put_block.Goals as goal

abbrev viewed : Inside → State
viewed t = record { edit = t.edit; pages = t.pages; publish = t.publish; block = t.block; published = t.published }

pub invariant_of-self : goal.invariant_of-self
invariant_of-self g c =
    let running : c.self.inside.published ≡ false = subst (λ (s : State). s.published ≡ false) (sym c.self.view_is) c.requires.running in
    let kept = kept_some c.self.inside.publish.latest (subst (λ (s : State). is_none s.publish.latest ≡ false) (sym c.self.view_is) c.requires.kept) in
    let not_ready : is_ready (viewed c.self.inside) ≡ false = subst (λ (s : State). is_ready s ≡ false) (sym c.self.view_is) c.requires.not_ready in
    task_more (viewed c.self.inside) c.in-New.entry c.put_next.new.entry kept.0 c.in-Some.block c.put_next.ensures.puts.drawn c.put_next.result c.self.invariant running not_ready c.in-New.is kept.1 c.in-Some.is
    c.put_next.ensures.rest c.put_next.ensures.puts.leaves c.put_next.ensures.ids

pub returns-clause-task : goal.returns-clause-task
returns-clause-task g c = invariant_of-self g c

pub returns-clause-works : goal.returns-clause-works
returns-clause-works g c =
    let running : c.self.inside.published ≡ false = subst (λ (s : State). s.published ≡ false) (sym c.self.view_is) c.requires.running in
    let kept = kept_some c.self.inside.publish.latest (subst (λ (s : State). is_none s.publish.latest ≡ false) (sym c.self.view_is) c.requires.kept) in
    let under = under_way (viewed c.self.inside) c.in-Some.block c.self.invariant running c.in-Some.is in
    let puts = subst (λ (pages : List Page). BlockPuts g.S.Store.told (g.S.Store.shown c.args.store.now) (g.S.Store.shown c.put_next.new.store) (g.N.Names.shown c.args.names.now) (g.N.Names.shown c.put_next.new.names)
    (block_text c.in-Some.block c.in-New.entry.page_size pages (length c.in-New.entry.blocks)) c.in-New.entry.blocks c.put_next.result c.put_next.new.entry.blocks)
    c.items.ensures c.put_next.ensures.puts in
    λ seen. subst (λ (w : Work). TaskWorks g.S.Store.told (g.S.Store.shown c.args.store.now) (g.S.Store.shown c.put_next.new.store) (g.N.Names.shown c.args.names.now) (g.N.Names.shown c.put_next.new.names)
    seen c.args.self.now w (record (viewed c.self.inside) { edit = edit.New c.put_next.new.entry })) (sym c.work.ensures)
    (subst (λ (s : State). TaskWorks g.S.Store.told (g.S.Store.shown c.args.store.now) (g.S.Store.shown c.put_next.new.store) (g.N.Names.shown c.args.names.now) (g.N.Names.shown c.put_next.new.names)
    seen s (block_work c.put_next.result) (record (viewed c.self.inside) { edit = edit.New c.put_next.new.entry })) c.self.view_is
    (block_works g.S.Store.told (g.S.Store.shown c.args.store.now) (g.S.Store.shown c.put_next.new.store) (g.N.Names.shown c.args.names.now) (g.N.Names.shown c.put_next.new.names)
    seen (viewed c.self.inside) c.in-New.entry kept.0 c.in-Some.block c.put_next.result c.put_next.new.entry c.in-New.is kept.1 c.in-Some.is
    (passed_of (viewed c.self.inside) kept.0 c.in-Some.block under kept.1).block (new_sized (viewed c.self.inside) c.in-New.entry c.self.invariant c.in-New.is) c.put_next.ensures.rest puts))
