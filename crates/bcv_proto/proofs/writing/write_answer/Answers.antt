use Rattle.std.proofs.Common.{◌≡◌, ◌++◌, ℕ, length, ap, ◌∙◌, arith}
use Rattle.std.specs.Int.{w32, to_be_bytes}
use Rattle.bcv_proto.proofs.AnswerParts.{body, body_length}
use Rattle.bcv_proto.proofs.Writers.{measured}
use Rattle.bcv_proto.proofs.writing.write_answer.Goals as goal

pub returns-in-Ok-clause-ok : goal.returns-in-Ok-clause-ok
returns-in-Ok-clause-ok c =
    let old = c.args.into.now.items in
    let rest = body c.args.session c.args.answer.now in
    let at : c.len-start.result ≡ length old = omega (arith, c.len-start.ensures) in
    measured old rest c.len-start.result c.add_unmeasured.new.into.items c.measure.new.into.items at c.in-Ok.ensures c.measure.ensures
    ∙ ap (λ (n : ℕ). old ++ (to_be_bytes w32 n ++ rest)) (body_length c.args.session c.args.answer.now)
