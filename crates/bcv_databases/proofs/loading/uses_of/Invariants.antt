use Rattle.std.proofs.Common.{◌≡◌, take}
use Rattle.bcv_databases.specs.Slots.{uses_from}
use Rattle.bcv_databases.proofs.loading.uses_of.Given as goal

abbrev pub invariant-loop-place : goal.invariant-loop-place
invariant-loop-place l = l.uses.items ≡ uses_from 0 (take l.place l.locals)
