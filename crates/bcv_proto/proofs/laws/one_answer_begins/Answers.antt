use Rattle.bcv_proto.proofs.AnswerParts.{one_answer_begins}
use Rattle.bcv_proto.proofs.laws.one_answer_begins.Goals as goal

pub returns : goal.returns
returns c = one_answer_begins
