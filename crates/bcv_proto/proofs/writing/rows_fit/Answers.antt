use Rattle.std.proofs.Common.{◌+◌, ◌<◌, length, take, sym, arith}
use Rattle.std.specs.List.{flat_map}
use Rattle.bcv_proto.specs.Answers.{most_answer, row_fields}
use Rattle.bcv_proto.proofs.Writers.{rows_too_long}
use Rattle.bcv_proto.proofs.writing.rows_fit.Goals as goal

pub returns-then-more-len : goal.returns-then-more-len
returns-then-more-len c =
    let rows = c.args.rows.now in
    let i = c.loop-row.row-index in
    let r = c.row-item.result in
    let over : most_answer < 9 + (length (flat_map row_fields (take i rows)) + length (row_fields r)) =
    omega (arith, c.loop-row.invariant.0, c.loop-row.invariant.1, c.row_len-more.ensures, c.if-more-len.true) in
    sym (rows_too_long rows i r c.loop-row-test.true c.row-item.is over)
