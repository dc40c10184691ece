use Rattle.std.proofs.Common.{◌<◌, ◌^◌, List, length, subst, sym}
use Rattle.bcv_model.specs.declared.reply.Row.{Row}
use Rattle.bcv_proto.specs.declared.answer.Answer.{Answer}
use Rattle.bcv_proto.specs.Answers.{FitsAnswer}
use Rattle.bcv_proto.proofs.Writers.{few_rows}
use Rattle.bcv_proto.proofs.writing.add_fields.Goals as goal

pub add_rows-requires : goal.add_rows-requires
add_rows-requires c =
    subst (λ (rows : List Row). length rows < 2 ^ 32) (sym c.items-in-Rows.ensures)
    (few_rows c.in-Rows.rows (subst (λ (a : Answer). FitsAnswer a) c.in-Rows.is c.requires))
