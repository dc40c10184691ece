use Rattle.std.proofs.Common.{ap, Result, Err}
use Rattle.bcv_commands.specs.declared.status.Status.{Status}
use Rattle.bcv_top.proofs.Stepping.{last_err}
use Rattle.bcv_top.proofs.replay.say_last.Goals as goal

pub returns-in-Err-clause-says : goal.returns-in-Err-clause-says
returns-in-Err-clause-says g c =
    let w = c.in-Err.ensures.says in
    (w.0, w.1, last_err c.in-Err.status c.args.number c.args.world.now c.say.new.world c.args.line.now w.0 w.2)

pub returns-in-Err-clause-cause : goal.returns-in-Err-clause-cause
returns-in-Err-clause-cause g c = λ e. c.in-Err.ensures.cause (ap (λ (s : Status). let r : Result (Unit {0}) Status = Err s in r) e)
