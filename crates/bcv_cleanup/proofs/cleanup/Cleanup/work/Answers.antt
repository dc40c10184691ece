use Rattle.std.proofs.Common.{◌≡◌, ◌∙◌, ℕ, true, false, Option, Some, None, is_some, option_copied, Bor, sym, ap, subst}
use Rattle.bcv_base.specs.declared.seen.Latest.{Latest}
use Rattle.bcv_publish.specs.declared.work.Work.TheVariants as work
use Rattle.bcv_cleanup.specs.declared.cleanup.Cleanup.TheInside.{Inside}
use Rattle.bcv_cleanup.specs.CleanupWork.{GetsAt, ReadsClock, TaskWorks}
use Rattle.bcv_cleanup.specs.State.{State}
use Rattle.bcv_cleanup.proofs.DeleteLaws.{deletion_works}
use Rattle.bcv_cleanup.proofs.WorkLaws.{fault_works, get_works, known_moment}
use Rattle.bcv_cleanup.proofs.cleanup.Cleanup.work.Goals as goal

-- where the latest is lent it is there
lent : (o : Option (Bor Latest)) (p : Option Latest) → is_some o ≡ true → option_copied o ≡ p → (l : Latest) × (p ≡ Some l)
lent None p h is = absurd cc
lent (Some l) p h is = (l.now, sym is)

pub returns-then-is_some-clause-works : goal.returns-then-is_some-clause-works
returns-then-is_some-clause-works g c =
    let k = lent c.latest.result c.self.inside.publish.latest (sym c.is_some.ensures ∙ c.if-is_some.true) c.latest.ensures in
    let kept : c.args.self.now.publish.latest ≡ Some k.0 = sym (ap (λ (s : State). s.publish.latest) c.self.view_is) ∙ k.1 in
    deletion_works g.S.Store.told (g.S.Store.shown c.args.store.now) (g.S.Store.shown c.delete_block.new.store) (g.C.Clock.shown c.args.clock.now) c.args.seen.now c.args.self.now c.delete_block.result c.delete_block.new.self k.0 kept
    c.delete_block.ensures.deletes

-- and where it is not lent there is none
not_lent : (o : Option (Bor Latest)) (p : Option Latest) → is_some o ≡ false → option_copied o ≡ p → p ≡ None
not_lent None p h is = sym is
not_lent (Some l) p h is = absurd cc

abbrev viewed : Inside → State
viewed t = record { edit = t.edit; publish = t.publish; moment = t.moment; deleted = t.deleted; more = t.more; published = t.published }

pub returns-in_default-clause-works : goal.returns-in_default-clause-works
returns-in_default-clause-works g c =
    let s : State = viewed c.self.inside in
    let none : s.publish.latest ≡ None = not_lent c.latest.result s.publish.latest (sym c.is_some.ensures ∙ c.if-is_some.false) c.latest.ensures in
    let store = g.S.Store.shown c.args.store.now in
    let clock = g.C.Clock.shown c.args.clock.now in
    let later = g.C.Clock.shown c.read_clock.new.clock in
    subst (λ (x : State). TaskWorks g.S.Store.told store store clock later c.args.seen.now x work.ClockFault (record s { moment = c.read_clock.new.moment })) c.self.view_is
    (fault_works g.S.Store.told store clock later c.args.seen.now s c.read_clock.new.moment none
    (subst (λ (o : Option ℕ). ReadsClock s.moment clock later o c.read_clock.new.moment) c.in_default.is c.read_clock.ensures))

pub returns-clause-works : goal.returns-clause-works
returns-clause-works g c =
    let answers = goal.F-post g c.args.rule.now.rule in
    let s : State = viewed c.self.inside in
    let none : s.publish.latest ≡ None = not_lent c.latest.result s.publish.latest (sym c.is_some.ensures ∙ c.if-is_some.false) c.latest.ensures in
    let old = g.S.Store.shown c.args.store.now in
    let new = g.S.Store.shown c.read.new.store in
    let clock = g.C.Clock.shown c.args.clock.now in
    let later = g.C.Clock.shown c.read_clock.new.clock in
    let clocked : ReadsClock s.moment clock later (Some c.in-Some.moment) c.read_clock.new.moment =
    subst (λ (o : Option ℕ). ReadsClock s.moment clock later o c.read_clock.new.moment) c.in-Some.is c.read_clock.ensures in
    let timed : c.read_clock.new.moment ≡ Some c.in-Some.moment = known_moment s.moment clock later c.in-Some.moment c.read_clock.new.moment clocked in
    subst (λ (x : State). TaskWorks g.S.Store.told old new clock later c.args.seen.now x c.read.result c.read.new.self) c.self.view_is
    (get_works answers g.S.Store.told old clock later c.args.seen.now s c.in-Some.moment c.read_clock.new.moment c.read.new.self c.self.invariant none clocked new c.read.result
    (subst (λ (o : Option ℕ). GetsAt answers g.S.Store.told old new c.in-Some.moment c.args.seen.now (record s { moment = o }) c.read.result c.read.new.self) timed c.read.ensures.gets))
