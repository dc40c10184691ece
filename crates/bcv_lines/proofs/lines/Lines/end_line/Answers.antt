use Rattle.std.proofs.Common.{◌+◌, ◌<◌, ◌≤◌, length, arith}
use Rattle.std.proofs.lemmas.Grind.{common_steps}
use Rattle.bcv_lines.proofs.Newlines.{passes_line, passes_script}
use Rattle.bcv_lines.proofs.lines.Lines.end_line.Goals as goal

pub returns-then-count-gt-MOST_OF_LINE-clause-bytes : goal.returns-then-count-gt-MOST_OF_LINE-clause-bytes
returns-then-count-gt-MOST_OF_LINE-clause-bytes c =
    let within : c.args.end < length c.args.self.now.chunk = c.requires.end.within in
    let over : 1048576 < length c.args.self.now.line.items + c.args.end = grind (arith, common_steps) in
    passes_line c.args.self.now.used c.args.end c.args.self.now.line.items c.args.self.now.chunk c.requires.line c.requires.end.none_before (omega arith) over

pub returns-then-self-count-ge-MOST_OF_SCRIPT-clause-bytes : goal.returns-then-self-count-ge-MOST_OF_SCRIPT-clause-bytes
returns-then-self-count-ge-MOST_OF_SCRIPT-clause-bytes c =
    let within : c.args.end < length c.args.self.now.chunk = c.requires.end.within in
    let over : 67108864 ≤ c.args.self.now.used + (length c.args.self.now.line.items + c.args.end) = grind (arith, common_steps) in
    passes_script c.args.self.now.used c.args.end c.args.self.now.line.items c.args.self.now.chunk c.requires.line c.requires.end.none_before over (omega arith)
