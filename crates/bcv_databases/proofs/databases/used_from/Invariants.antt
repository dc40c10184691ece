use Rattle.std.proofs.Common.{◌≡◌, drop}
use Rattle.bcv_databases.specs.Changes.{use_of}
use Rattle.bcv_databases.proofs.databases.used_from.Given as goal

abbrev pub invariant-loop-used : goal.invariant-loop-used
invariant-loop-used l = use_of l.set (drop l.used-index l.uses) ≡ use_of l.set l.uses
