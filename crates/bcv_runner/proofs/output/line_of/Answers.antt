use Rattle.bcv_runner.proofs.ReplyLines.{line_made}
use Rattle.bcv_runner.proofs.output.line_of.Goals as goal

pub returns : goal.returns
returns c = line_made c.args.reply.now c.new-line.result.items c.write_text.new.into.items c.push.new.self.items c.new-line.ensures.items c.in_ok-write_text.ensures.ok c.in_ok-push.ensures.items
