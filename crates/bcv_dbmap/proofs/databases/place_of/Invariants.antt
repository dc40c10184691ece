use Rattle.std.proofs.Common.{◌≡◌}
use Rattle.bcv_base.specs.declared.manifest.DbEntry.{DbEntry}
use Rattle.bcv_base.specs.ManifestRules.{db_name}
use Rattle.bcv_dbmap.proofs.Places.{IsPast}
use Rattle.bcv_dbmap.proofs.databases.place_of.Given as goal

abbrev pub invariant-loop-place : goal.invariant-loop-place
invariant-loop-place l = (d : DbEntry) → d.name ≡ l.name → IsPast db_name d l.dbs l.place
