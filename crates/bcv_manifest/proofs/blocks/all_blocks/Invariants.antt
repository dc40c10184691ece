use Rattle.std.proofs.Common.{◌≡◌, take}
use Rattle.bcv_base.specs.declared.id.Id16.{Id16}
use Rattle.bcv_base.specs.Ids.{has_id}
use Rattle.bcv_base.specs.ManifestRules.{lists}
use Rattle.bcv_manifest.proofs.blocks.all_blocks.Given as goal

abbrev pub invariant-loop-db : goal.invariant-loop-db
invariant-loop-db l = (i : Id16) → has_id i l.ids.items ≡ lists (take l.db-index l.dbs) i
