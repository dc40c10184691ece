use Rattle.std.proofs.Common.{◌≡◌, ◌+◌, length}
use Rattle.std.specs.Prelude.{not}
use Rattle.std.specs.List.{filter}
use Rattle.bcv_base.specs.Ids.{has_id}
use Rattle.bcv_base.specs.ManifestRules.{Ascends, dead_id}
use Rattle.bcv_dbmap.specs.Checked.{counted}
use Rattle.bcv_dbmap.specs.Merged.{taken_off}
use Rattle.bcv_dbmap.proofs.counting.count_staying.Given as goal

abbrev pub invariant-loop-rest : goal.invariant-loop-rest
invariant-loop-rest l =
    (l.count + length (filter (λ e. not (has_id e.id (taken_off (counted l.plan)))) l.rest) ≡ length (filter (λ e. not (has_id e.id (taken_off (counted l.plan)))) l.dead)) × Ascends dead_id l.rest

abbrev pub decreases-loop-rest : goal.decreases-loop-rest
decreases-loop-rest l = length l.rest
