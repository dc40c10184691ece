use Rattle.std.proofs.Common.{refl, subst}
use Rattle.bcv_proto.specs.Messages.{Begins}
use Rattle.bcv_daemon.proofs.MessageRuns.{is_cut, no_front}
use Rattle.bcv_daemon.proofs.connection.Connection.next.Goals as goal

pub answer_one-requires-clause-begins : goal.answer_one-requires-clause-begins
answer_one-requires-clause-begins g c =
    subst (λ l. Begins l c.in-Whole.message c.in-Whole.len) c.bytes.ensures.bytes ((c.read_message.ensures.reads.whole c.in-Whole.message c.in-Whole.len).0 c.in-Whole.is)

pub returns-in-Bad-clause-next : goal.returns-in-Bad-clause-next
returns-in-Bad-clause-next g c =
    ((refl, refl), search, refl, no_front _ _ c.read_message.result c.read_message.ensures.reads c.in-Bad.is c.bytes.ensures.bytes)

pub returns-in-Short-clause-next : goal.returns-in-Short-clause-next
returns-in-Short-clause-next g c =
    ((refl, refl), search, is_cut _ _ c.read_message.result c.read_message.ensures.reads c.in-Short.is c.bytes.ensures.bytes)
