use Rattle.std.proofs.Common.{◌≡◌, ◌+◌, drop}
use Rattle.bcv_base.specs.Keyed.{without_keyed}
use Rattle.bcv_base.specs.ManifestRules.{db_name}
use Rattle.bcv_dbmap.specs.Checked.{needed_total}
use Rattle.bcv_dbmap.proofs.sizes.needed_without.Given as goal

abbrev pub invariant-loop-db : goal.invariant-loop-db
invariant-loop-db l = l.total + needed_total l.block (without_keyed db_name l.name (drop l.db-index l.dbs)) ≡ needed_total l.block (without_keyed db_name l.name l.dbs)
