use Rattle.std.proofs.Common.{arith}
use Rattle.bcv_inbox.proofs.Packed.{filled}
use Rattle.bcv_inbox.proofs.fill.Goals as goal

pub returns-clause-bytes : goal.returns-clause-bytes
returns-clause-bytes g c =
    filled (g.I.Source.left c.args.input.now) (g.I.Source.left c.take.new.self) c.args.room.now c.take.new.into _ c.args.held c.take.result (omega (arith, c.requires.within)) c.take.ensures.bytes
