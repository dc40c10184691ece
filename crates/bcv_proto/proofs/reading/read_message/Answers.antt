use Rattle.std.proofs.Common.{sym, subst, arith}
use Rattle.bcv_proto.specs.declared.message.Parsed.{Parsed}
use Rattle.bcv_proto.specs.Messages.{Reads}
use Rattle.bcv_proto.proofs.Parsing.{parsed_reads}
use Rattle.bcv_proto.proofs.reading.read_message.Goals as goal

pub returns-clause-reads : goal.returns-clause-reads
returns-clause-reads c =
    subst (λ (f : Parsed). Reads c.args.bytes.now f) (sym c.front_of.ensures) (parsed_reads c.args.bytes.now (λ i. omega (arith, c.type_inv.bytes i)))
