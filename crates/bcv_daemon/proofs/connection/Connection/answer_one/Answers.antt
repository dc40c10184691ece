use Rattle.std.proofs.Common.{◌∙◌, ◌++◌, ap, arith, refl, sym}
use Rattle.bcv_proto.specs.Answers.{answer_text}
use Rattle.bcv_daemon.specs.Responses.{fitted}
use Rattle.bcv_daemon.proofs.Turns.{one_served}
use Rattle.bcv_daemon.proofs.connection.Connection.answer_one.Goals as goal

pub overflow_add-self : goal.overflow_add-self
overflow_add-self g c = omega (arith, c.requires.below, c.requires.begins.1, c.bytes.ensures.few)

pub returns-then-is_no_memory-clause-next : goal.returns-then-is_no_memory-clause-next
returns-then-is_no_memory-clause-next g c =
    record { message = c.args.message; count = c.args.len; begins = c.requires.begins; given = c.respond-given.result; answered = c.respond-given.ensures.answered }

pub returns-clause-next : goal.returns-clause-next
returns-clause-next g c =
    record { message = c.args.message; count = c.args.len; begins = c.requires.begins; given = c.respond-given.result; answered = c.respond-given.ensures.answered }

pub returns-in-Ok-clause-next : goal.returns-in-Ok-clause-next
returns-in-Ok-clause-next g c =
    one_served g.D.Disk.told g.D.Disk.shown g.S.Store.told _ _ _ _ c.args.message c.respond-given.result c.args.len c.requires.begins c.requires.below
    (sym c.is_no_memory.ensures ∙ c.if-is_no_memory.false) c.respond-given.ensures.answered c.skip.ensures refl
    (c.in-Ok.ensures.ok ∙ ap (λ s. c.args.self.now.pending.items ++ answer_text s (fitted c.respond-given.result)) c.session_of-session.ensures)
