use Rattle.std.proofs.Common.{◌≡◌, ◌∙◌, suc, ◌-◌, ℕ, arith, ap, sym}
use Rattle.bcv_memstore.specs.Planned.{planned_at}
use Rattle.bcv_memstore.proofs.Planning.{set_none, set_some}
use Rattle.bcv_memstore.proofs.plan.Plan.set.Goals as goal

pub returns-then-calls-eq0 : goal.returns-then-calls-eq0
returns-then-calls-eq0 c = c.set_next.ensures ∙ ap (λ (n : ℕ). planned_at n c.args.outcome c.args.self.now) (sym c.if-calls-eq0.true)

pub returns-then-is_none : goal.returns-then-is_none
returns-then-is_none c =
    let number : c.args.calls ≡ suc (c.args.calls - 1) = omega (arith, c.if-calls-eq0.false) in
    set_none c.args.calls (c.args.calls - 1) c.args.outcome c.self.inside.later.items c.set_at.new.later.items c.args.self.now number c.in_ok-set_at.ensures
    c.self.inside.next c.self.view_is c.self.invariant (cc (c.is_none.ensures, c.if-is_none.true))

pub returns-else-is_none : goal.returns-else-is_none
returns-else-is_none c =
    let number : c.args.calls ≡ suc (c.args.calls - 1) = omega (arith, c.if-calls-eq0.false) in
    set_some c.args.calls (c.args.calls - 1) c.args.outcome c.self.inside.later.items c.set_at.new.later.items c.args.self.now number c.in_ok-set_at.ensures
    c.self.inside.next c.self.view_is c.if-is_none.ensures
