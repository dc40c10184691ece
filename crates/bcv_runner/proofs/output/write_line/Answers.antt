use Rattle.bcv_runner.proofs.ReplyLines.{line_missed}
use Rattle.bcv_runner.proofs.output.write_line.Goals as goal

pub returns-in-Err-clause-bytes : goal.returns-in-Err-clause-bytes
returns-in-Err-clause-bytes g c = line_missed (g.O.Sink.given c.args.out.now) c.args.reply.now
