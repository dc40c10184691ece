use Rattle.std.proofs.Common.{◌≡◌, map, take}
use Rattle.bcv_databases.specs.Slots.{loaded_set}
use Rattle.bcv_databases.proofs.loading.sets_of.Given as goal

abbrev pub invariant-loop-local : goal.invariant-loop-local
invariant-loop-local l = l.sets.items ≡ map loaded_set (take l.local-index l.locals)
