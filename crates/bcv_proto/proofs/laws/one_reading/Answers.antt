use Rattle.bcv_proto.proofs.Parsing.{one_reading}
use Rattle.bcv_proto.proofs.laws.one_reading.Goals as goal

pub returns : goal.returns
returns c = one_reading
