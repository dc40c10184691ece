use Rattle.std.proofs.Common.{◌≡◌, ◌++◌, map, take}
use Rattle.bcv_dbmap.specs.Merged.{dead_of}
use Rattle.bcv_dbmap.proofs.dead.push_ids.Given as goal

abbrev pub invariant-loop-id : goal.invariant-loop-id
invariant-loop-id l = l.into.items ≡ l.initial.into.items ++ map (dead_of l.stamp) (take l.id-index l.ids)
