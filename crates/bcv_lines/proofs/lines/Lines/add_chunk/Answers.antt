use Rattle.std.proofs.Common.{length, ap, arith}
use Rattle.bcv_lines.proofs.Newlines.{passes_line_whole, passes_script_whole}
use Rattle.bcv_lines.proofs.lines.Lines.add_chunk.Goals as goal

pub returns-then-count-gt-MOST_OF_LINE-clause-bytes : goal.returns-then-count-gt-MOST_OF_LINE-clause-bytes
returns-then-count-gt-MOST_OF_LINE-clause-bytes c =
    passes_line_whole c.args.self.now.used c.args.self.now.line.items c.args.self.now.chunk c.requires.line c.requires.chunk (omega (arith, ap length c.bytes-more.ensures))

pub returns-then-self-count-gt-MOST_OF_SCRIPT-clause-bytes : goal.returns-then-self-count-gt-MOST_OF_SCRIPT-clause-bytes
returns-then-self-count-gt-MOST_OF_SCRIPT-clause-bytes c =
    passes_script_whole c.args.self.now.used c.args.self.now.line.items c.args.self.now.chunk c.requires.line c.requires.chunk (omega (arith, ap length c.bytes-more.ensures))
