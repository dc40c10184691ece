use Rattle.bcv_proto.proofs.Parsing.{no_message_goes_on}
use Rattle.bcv_proto.proofs.laws.no_message_goes_on.Goals as goal

pub returns : goal.returns
returns c = no_message_goes_on
