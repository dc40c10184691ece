use Rattle.std.proofs.Common.{◌≡◌, drop}
use Rattle.bcv_base.specs.Keyed.{keyed}
use Rattle.bcv_base.specs.ManifestRules.{writer_id}
use Rattle.bcv_dbmap.proofs.writers.has_writer.Given as goal

abbrev pub invariant-loop-writer : goal.invariant-loop-writer
invariant-loop-writer l = keyed writer_id l.id.0 (drop l.writer-index l.writers) ≡ keyed writer_id l.id.0 l.writers
