use Rattle.std.proofs.Common.{sym, subst, Some, Err}
use Rattle.std.specs.Prelude.{Option}
use Rattle.std.proofs.lemmas.Result.{err_from_is_err_and}
use Rattle.bcv_world.specs.declared.world.World.{World}
use Rattle.bcv_top.specs.Led.{IsReady, Steps, Tells}
use Rattle.bcv_top.proofs.Stepping.{step_answer, step_first, step_no_world}
use Rattle.bcv_top.proofs.replay.step.Goals as goal

pub answer-requires-clause-world : goal.answer-requires-clause-world
answer-requires-clause-world g c = let r = subst IsReady c.in-Some.is c.requires.ready in r.0

pub answer-requires-clause-few : goal.answer-requires-clause-few
answer-requires-clause-few g c = let r = subst IsReady c.in-Some.is c.requires.ready in r.1

pub returns-in-Some : goal.returns-in-Some
returns-in-Some g c =
    subst (λ (w : Option World). Steps w (Some c.answer.new.world) c.args.line.now c.answer.new.text.items c.answer.result) (sym c.in-Some.is)
    (step_answer c.answer.result c.in-Some.world c.answer.new.world c.args.line.now c.answer.new.text.items c.answer.ensures)

pub returns-in_ok-first-in-None : goal.returns-in_ok-first-in-None
returns-in_ok-first-in-None g c =
    subst (λ (w : Option World). Tells w (Some c.in_ok-first-in-None.first) c.args.line.now c.args.text.now.items) (sym c.in-None.is)
    (step_first c.in_ok-first-in-None.first c.args.line.now c.args.text.now.items c.requires.empty c.in_ok-first-in-None.ensures)

pub returns-in_err-first-in-None : goal.returns-in_err-first-in-None
returns-in_err-first-in-None g c =
    let p = err_from_is_err_and c.from_residual.result c.from_residual.ensures.1 in
    let f = c.in_err-first-in-None.field-0.0 in
    rw (p.1, p.2) (subst (λ (w : Option World). Steps w w c.args.line.now c.args.text.now.items (Err f)) (sym c.in-None.is) (step_no_world f c.args.line.now c.args.text.now.items c.in_err-first-in-None.ensures))
