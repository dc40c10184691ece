use Rattle.std.proofs.Common.{◌≡◌}
use Rattle.bcv_base.specs.declared.manifest.Writer.{Writer}
use Rattle.bcv_base.specs.ManifestRules.{writer_id}
use Rattle.bcv_dbmap.proofs.Places.{IsPast}
use Rattle.bcv_dbmap.proofs.writers.line_of.Given as goal

abbrev pub invariant-loop-place : goal.invariant-loop-place
invariant-loop-place l = (w : Writer) → w.id ≡ l.id → IsPast writer_id w l.writers l.place
