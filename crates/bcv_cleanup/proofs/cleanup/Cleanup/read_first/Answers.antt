use Rattle.std.proofs.Common.{◌≡◌, ◌∙◌, ◌≤◌, List, length, Some, None, option_copied, sym, ap, subst}
use Rattle.bcv_base.specs.declared.id.Id16.{Id16}
use Rattle.bcv_dbmap.specs.declared.plan.EditPlan.TheVariants as edit
use Rattle.bcv_dbmap.specs.Deletions.{most_cleaned}
use Rattle.bcv_cleanup.specs.declared.cleanup.Cleanup.TheInside.{Inside}
use Rattle.bcv_cleanup.specs.CleanupWork.{GetsAt, TakenWork}
use Rattle.bcv_cleanup.specs.State.{State, taken_ids}
use Rattle.bcv_cleanup.proofs.Cleanups.{task_first}
use Rattle.bcv_cleanup.proofs.GetLaws.{first_gets, kept_one, none_gets}
use Rattle.bcv_cleanup.proofs.cleanup.Cleanup.read_first.Goals as goal

abbrev viewed : Inside → State
viewed t = record { edit = t.edit; publish = t.publish; moment = t.moment; deleted = t.deleted; more = t.more; published = t.published }

pub returns-in_default-clause-gets : goal.returns-in_default-clause-gets
returns-in_default-clause-gets g c =
    let answers = goal.F-post g c.args.rule.now.rule in
    let s : State = viewed c.self.inside in
    let q = c.get-work.new.self in
    let none : q.latest ≡ None = sym c.latest.ensures ∙ ap option_copied c.in_default.is in
    subst (λ (x : State). GetsAt answers g.S.Store.told (g.S.Store.shown c.args.store.now) (g.S.Store.shown c.get-work.new.store) c.args.moment c.args.seen.now x c.get-work.result (record s { publish = q }))
    c.self.view_is
    (none_gets answers g.S.Store.told (g.S.Store.shown c.args.store.now) (g.S.Store.shown c.get-work.new.store) c.args.moment c.args.seen.now s c.get-work.result q
    (ap (λ (x : State). x.moment) c.self.view_is ∙ c.requires.moment) c.get-work.ensures.leaves c.get-work.ensures.gets none)

pub invariant_of-self-2 : goal.invariant_of-self-2
invariant_of-self-2 g c =
    let s : State = viewed c.self.inside in
    let q = c.get-work.new.self in
    let there : q.latest ≡ Some c.in-Some.latest.now = sym c.latest.ensures ∙ ap option_copied c.in-Some.is in
    let none : s.publish.latest ≡ None = ap (λ (x : State). x.publish.latest) c.self.view_is ∙ c.requires.none in
    let more = kept_one (goal.F-post g c.args.rule.now.rule) c.args.moment c.args.seen.now s c.get-work.result q c.in-Some.latest.now none c.get-work.ensures.leaves there in
    task_first c.args.seen.now s c.get-work.result q c.args.moment c.of.result c.take_of-self-inside.result c.self.invariant (ap taken_ids c.self.view_is ∙ c.requires.first) (ap (λ (x : State). x.moment) c.self.view_is ∙ c.requires.moment)
    more c.get-work.ensures.leaves (subst (λ (l : List Id16). length l ≤ most_cleaned) (sym c.of.ensures) c.take_of-self-inside.ensures.few)

pub returns-clause-task : goal.returns-clause-task
returns-clause-task g c = invariant_of-self-2 g c

pub returns-clause-gets : goal.returns-clause-gets
returns-clause-gets g c =
    let answers = goal.F-post g c.args.rule.now.rule in
    let s : State = viewed c.self.inside in
    let q = c.get-work.new.self in
    let ids = c.take_of-self-inside.new.ids.items in
    let more = c.take_of-self-inside.result in
    let there : q.latest ≡ Some c.in-Some.latest.now = sym c.latest.ensures ∙ ap option_copied c.in-Some.is in
    let none : s.publish.latest ≡ None = ap (λ (x : State). x.publish.latest) c.self.view_is ∙ c.requires.none in
    subst (λ (x : State). GetsAt answers g.S.Store.told (g.S.Store.shown c.args.store.now) (g.S.Store.shown c.get-work.new.store) c.args.moment c.args.seen.now x c.taken_work-work.result
    (record s { edit = edit.Sweep c.of.result; publish = q; more = more }))
    c.self.view_is
    (subst (λ (l : List Id16). GetsAt answers g.S.Store.told (g.S.Store.shown c.args.store.now) (g.S.Store.shown c.get-work.new.store) c.args.moment c.args.seen.now s c.taken_work-work.result
    (record s { edit = edit.Sweep l; publish = q; more = more })) (sym c.of.ensures)
    (first_gets answers g.S.Store.told (g.S.Store.shown c.args.store.now) (g.S.Store.shown c.get-work.new.store) c.args.moment c.args.seen.now s c.get-work.result q
    (ap (λ (x : State). x.moment) c.self.view_is ∙ c.requires.moment) c.get-work.ensures.leaves c.get-work.ensures.gets c.in-Some.latest.now ids more c.taken_work-work.result none
    (ap taken_ids c.self.view_is ∙ c.requires.first) there c.take_of-self-inside.ensures.finds c.take_of-self-inside.ensures.none
    (subst (λ (l : List Id16). TakenWork l c.taken_work-work.result) c.deref.ensures.value c.taken_work-work.ensures)))
