use Rattle.std.proofs.Common.{◌≡◌, ◌+◌, ◌≤◌, length, take}
use Rattle.std.specs.List.{flat_map}
use Rattle.bcv_proto.specs.Answers.{most_answer, row_fields}
use Rattle.bcv_proto.proofs.writing.rows_fit.Given as goal

abbrev pub invariant-loop-row : goal.invariant-loop-row
invariant-loop-row l = (l.len ≡ 9 + length (flat_map row_fields (take l.row-index l.rows))) × (l.len ≤ most_answer)
