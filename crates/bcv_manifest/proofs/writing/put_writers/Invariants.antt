use Rattle.std.proofs.Common.{◌≡◌, ◌++◌, take}
use Rattle.std.specs.List.{flat_map}
use Rattle.bcv_base.specs.ManifestText.{writer_text}
use Rattle.bcv_manifest.proofs.writing.put_writers.Given as goal

abbrev pub invariant-loop-writer : goal.invariant-loop-writer
invariant-loop-writer l = l.out.items ≡ l.initial.out.items ++ flat_map writer_text (take l.writer-index l.writers)
