use Rattle.bcv_world.proofs.LinesKept.{line_keeps, world_line_keeps}
use Rattle.bcv_world.proofs.lines.lines_keep.Goals as goal

pub returns-clause-world : goal.returns-clause-world
returns-clause-world c = world_line_keeps

pub returns-clause-event : goal.returns-clause-event
returns-clause-event c = line_keeps
