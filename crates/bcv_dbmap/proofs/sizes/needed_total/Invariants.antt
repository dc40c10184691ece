use Rattle.std.proofs.Common.{◌≡◌, ◌+◌, drop}
use Rattle.bcv_dbmap.specs.Checked.{needed_total}
use Rattle.bcv_dbmap.proofs.sizes.needed_total.Given as goal

abbrev pub invariant-loop-db : goal.invariant-loop-db
invariant-loop-db l = l.total + needed_total l.block (drop l.db-index l.dbs) ≡ needed_total l.block l.dbs
