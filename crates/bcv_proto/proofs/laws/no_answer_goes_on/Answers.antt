use Rattle.bcv_proto.proofs.AnswerParts.{no_answer_goes_on}
use Rattle.bcv_proto.proofs.laws.no_answer_goes_on.Goals as goal

pub returns : goal.returns
returns c = no_answer_goes_on
