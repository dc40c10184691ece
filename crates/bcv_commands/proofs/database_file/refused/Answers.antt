use Rattle.bcv_commands.proofs.Headers.{refused_end, refused_limit, refused_fault}
use Rattle.bcv_commands.proofs.database_file.refused.Goals as goal

pub returns-in-Ended-clause-read : goal.returns-in-Ended-clause-read
returns-in-Ended-clause-read g c = refused_end (g.I.Source.left c.args.input.now) (g.I.Source.left c.drain.new.input) c.args.header.now c.requires.header c.header_fault.result c.requires.sizeless c.header_fault.ensures c.in-Ended.ensures.bytes

pub returns-in-TooLong-clause-read : goal.returns-in-TooLong-clause-read
returns-in-TooLong-clause-read g c = refused_limit (g.I.Source.left c.args.input.now) (g.I.Source.left c.drain.new.input) c.args.header.now c.requires.header c.in-TooLong.ensures.bytes

pub returns-in-Failed-clause-read : goal.returns-in-Failed-clause-read
returns-in-Failed-clause-read g c = refused_fault (g.I.Source.left c.args.input.now) (g.I.Source.left c.drain.new.input) c.args.header.now c.requires.header c.in-Failed.ensures.bytes
