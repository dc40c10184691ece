use Rattle.std.proofs.Common.{◌++◌, ◌∷◌, []}
use Rattle.std.specs.Int.{w32, to_be_bytes}
use Rattle.bcv_proto.specs.Answers.{answer_number, answer_fields}
use Rattle.bcv_proto.proofs.AnswerParts.{body}
use Rattle.bcv_proto.proofs.Writers.{adds_more, byte_added}
use Rattle.bcv_proto.proofs.writing.add_unmeasured.Goals as goal

pub returns : goal.returns
returns c =
    let a = c.args.answer.now in
    let r = c.add_fields.result in
    let new = c.add_fields.new.into.items in
    let kind = byte_added c.add_u32.new.into.items c.push.new.self.items c.number_of.result (answer_number a) c.number_of.ensures c.in_ok-push.ensures.items in
    adds_more r c.args.into.now.items c.add_u32.new.into.items new (to_be_bytes w32 0) (body c.args.session a) c.in_ok-add_u32.ensures
    (adds_more r c.add_u32.new.into.items c.push.new.self.items new (answer_number a ∷ []) (to_be_bytes w32 c.args.session ++ answer_fields a) kind
    (adds_more r c.push.new.self.items c.add_u32-2.new.into.items new (to_be_bytes w32 c.args.session) (answer_fields a) c.in_ok-add_u32-2.ensures c.add_fields.ensures))
