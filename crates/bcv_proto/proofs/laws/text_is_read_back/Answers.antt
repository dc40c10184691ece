use Rattle.bcv_proto.proofs.Parsing.{text_is_read_back}
use Rattle.bcv_proto.proofs.laws.text_is_read_back.Goals as goal

pub returns : goal.returns
returns c = text_is_read_back
