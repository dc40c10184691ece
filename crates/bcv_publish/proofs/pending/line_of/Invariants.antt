use Rattle.std.proofs.Common.{◌≡◌, drop}
use Rattle.bcv_dbmap.specs.Past.{writer_of}
use Rattle.bcv_publish.proofs.pending.line_of.Given as goal

abbrev pub invariant-loop-line : goal.invariant-loop-line
invariant-loop-line l = writer_of l.writer (drop l.line-index l.writers) ≡ writer_of l.writer l.writers
