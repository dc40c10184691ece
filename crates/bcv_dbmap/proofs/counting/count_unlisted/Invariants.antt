use Rattle.std.proofs.Common.{◌≡◌, ◌+◌, length}
use Rattle.std.specs.Prelude.{not}
use Rattle.bcv_dbmap.specs.Counted.{lists_behind}
use Rattle.bcv_dbmap.specs.Merged.{chosen}
use Rattle.bcv_dbmap.proofs.counting.count_unlisted.Given as goal

abbrev pub invariant-loop-rest : goal.invariant-loop-rest
invariant-loop-rest l =
    l.count + length (chosen (λ i. not (lists_behind l.name l.filled l.dbs i)) l.rest) ≡ length (chosen (λ i. not (lists_behind l.name l.filled l.dbs i)) l.ids)

abbrev pub decreases-loop-rest : goal.decreases-loop-rest
decreases-loop-rest l = length l.rest
