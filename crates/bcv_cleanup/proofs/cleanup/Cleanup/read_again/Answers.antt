use Rattle.std.proofs.Common.{◌∙◌, ◌≤◌, List, length, Option, option_copied, sym, ap, subst}
use Rattle.bcv_base.specs.declared.id.Id16.{Id16}
use Rattle.bcv_base.specs.declared.seen.Latest.{Latest}
use Rattle.bcv_cleanup.specs.declared.cleanup.Cleanup.TheInside.{Inside}
use Rattle.bcv_cleanup.specs.CleanupWork.{GetsAt, MoreOf}
use Rattle.bcv_cleanup.specs.State.{State, taken_ids}
use Rattle.bcv_cleanup.proofs.GetLaws.{again_gets}
use Rattle.bcv_cleanup.proofs.cleanup.Cleanup.read_again.Goals as goal

abbrev viewed : Inside → State
viewed t = record { edit = t.edit; publish = t.publish; moment = t.moment; deleted = t.deleted; more = t.more; published = t.published }

pub returns-clause-gets : goal.returns-clause-gets
returns-clause-gets g c =
    let answers = goal.F-post g c.args.rule.now.rule in
    let s : State = viewed c.self.inside in
    let q = c.get-work.new.self in
    let more = c.more_of-self-inside.result in
    subst (λ (x : State). GetsAt answers g.S.Store.told (g.S.Store.shown c.args.store.now) (g.S.Store.shown c.get-work.new.store) c.args.moment c.args.seen.now x c.get-work.result (record s { publish = q; more = more }))
    c.self.view_is
    (again_gets answers g.S.Store.told (g.S.Store.shown c.args.store.now) (g.S.Store.shown c.get-work.new.store) c.args.moment c.args.seen.now s c.get-work.result q
    (ap (λ (x : State). x.moment) c.self.view_is ∙ c.requires.moment) c.get-work.ensures.leaves c.get-work.ensures.gets more (ap (λ (x : State). x.publish.latest) c.self.view_is ∙ c.requires.none) c.self.invariant.edit
    (subst (λ (x : State). 1 ≤ length (taken_ids x)) (sym c.self.view_is) c.requires.again)
    (subst (λ (o : Option Latest). MoreOf answers o c.args.moment (taken_ids s) s.more more) c.latest.ensures
    (subst (λ (l : List Id16). MoreOf answers (option_copied c.latest.result) c.args.moment l s.more more) c.swept.ensures c.more_of-self-inside.ensures)))
