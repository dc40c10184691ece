use Rattle.std.proofs.Common.{◌≡◌, ◌++◌, drop}
use Rattle.bcv_base.specs.Keyed.{without_keyed}
use Rattle.bcv_base.specs.ManifestRules.{db_name}
use Rattle.bcv_dbmap.proofs.databases.without_name.Given as goal

abbrev pub invariant-loop-db : goal.invariant-loop-db
invariant-loop-db l = l.after.items ++ without_keyed db_name l.name (drop l.db-index l.dbs) ≡ without_keyed db_name l.name l.dbs
