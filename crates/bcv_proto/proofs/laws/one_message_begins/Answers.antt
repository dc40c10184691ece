use Rattle.bcv_proto.proofs.Parsing.{one_message_begins}
use Rattle.bcv_proto.proofs.laws.one_message_begins.Goals as goal

pub returns : goal.returns
returns c = one_message_begins
