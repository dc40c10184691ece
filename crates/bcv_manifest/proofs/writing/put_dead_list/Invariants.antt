use Rattle.std.proofs.Common.{◌≡◌, ◌++◌, take}
use Rattle.std.specs.List.{flat_map}
use Rattle.bcv_base.specs.ManifestText.{dead_text}
use Rattle.bcv_manifest.proofs.writing.put_dead_list.Given as goal

abbrev pub invariant-loop-entry : goal.invariant-loop-entry
invariant-loop-entry l = l.out.items ≡ l.initial.out.items ++ flat_map dead_text (take l.entry-index l.dead)
