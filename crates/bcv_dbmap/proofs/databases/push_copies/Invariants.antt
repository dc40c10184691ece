use Rattle.std.proofs.Common.{◌≡◌, ◌++◌, take}
use Rattle.bcv_dbmap.proofs.databases.push_copies.Given as goal

abbrev pub invariant-loop-db : goal.invariant-loop-db
invariant-loop-db l = l.into.items ≡ l.initial.into.items ++ take l.db-index l.dbs
