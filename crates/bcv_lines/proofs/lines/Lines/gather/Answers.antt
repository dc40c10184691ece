use Rattle.std.proofs.Common.{◌≡◌, false, List, ℕ, subst}
use Rattle.bcv_lines.specs.Lines.{has_newline}
use Rattle.bcv_lines.specs.Reading.{IsFirstNewline}
use Rattle.bcv_lines.proofs.Newlines.{first_newline, no_newline}
use Rattle.bcv_lines.proofs.lines.Lines.gather.Goals as goal

pub end_line-requires-clause-end : goal.end_line-requires-clause-end
end_line-requires-clause-end c = subst (λ (l : List ℕ). IsFirstNewline l c.in-Some.end) c.bytes.ensures (first_newline c.bytes.result.now c.in-Some.end c.in-Some.ensures)

pub add_chunk-requires-clause-chunk : goal.add_chunk-requires-clause-chunk
add_chunk-requires-clause-chunk c = subst (λ (l : List ℕ). has_newline l ≡ false) c.bytes.ensures (no_newline c.bytes.result.now c.in-None.ensures)
