use Rattle.std.proofs.Common.{sym, subst, ◌∙◌, Result, Err}
use Rattle.bcv_commands.specs.declared.status.Status.{Status}
use Rattle.bcv_top.proofs.Stepping.{Wrote_out, says_wrote, says_stopped, wrote_failed}
use Rattle.bcv_top.proofs.replay.say.Goals as goal

pub returns-in-Err-clause-says : goal.returns-in-Err-clause-says
returns-in-Err-clause-says g c =
    let o = g.O.Sink.given c.args.out.now in
    subst (λ (s : Status). Wrote_out o o (Err s) c.args.number c.args.world.now c.step.new.world c.args.line.now) (sym c.stopped.ensures)
    (says_stopped o c.args.number c.args.world.now c.step.new.world c.args.line.now c.step.new.text.items c.in-Err.fault c.in-Err.ensures)

pub returns-clause-says : goal.returns-clause-says
returns-clause-says g c =
    let b = g.O.Sink.given c.args.out.now in
    let n = g.O.Sink.given c.write_all-wrote.new.out in
    subst (λ (r : Result (Unit {0}) Status). Wrote_out b n r c.args.number c.args.world.now c.step.new.world c.args.line.now) (sym c.writing_end.ensures)
    (says_wrote b n c.args.number c.args.world.now c.step.new.world c.args.line.now c.step.new.text.items c.as_slice-bytes.result.now c.write_all-wrote.result c.in-Ok.ensures c.as_slice-bytes.ensures.value c.write_all-wrote.ensures.bytes)

pub returns-clause-cause : goal.returns-clause-cause
returns-clause-cause g c = λ e. c.write_all-wrote.ensures.cause (wrote_failed c.write_all-wrote.result (sym c.writing_end.ensures ∙ e))
