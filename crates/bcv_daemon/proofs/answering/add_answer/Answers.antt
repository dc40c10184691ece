use Rattle.std.proofs.Common.{◌≡◌, arith, length, refl}
use Rattle.bcv_model.specs.ReplyText.{reply_text}
use Rattle.bcv_model.specs.declared.reply.Reply.TheVariants as reply
use Rattle.bcv_daemon.proofs.answering.add_answer.Goals as goal

pub write_answer-requires-else-branch : goal.write_answer-requires-else-branch
unfolding reply_text
write_answer-requires-else-branch c =
    let short : length (reply_text reply.TooLarge) ≡ 9 = refl in
    record { fits = omega (arith, short) }
