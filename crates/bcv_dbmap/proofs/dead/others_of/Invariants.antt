use Rattle.std.proofs.Common.{◌≡◌, take}
use Rattle.std.specs.Prelude.{not}
use Rattle.std.specs.List.{filter}
use Rattle.bcv_base.specs.Ids.{has_id}
use Rattle.bcv_dbmap.proofs.dead.others_of.Given as goal

abbrev pub invariant-loop-entry : goal.invariant-loop-entry
invariant-loop-entry l = l.kept.items ≡ filter (λ e. not (has_id e.id l.ids)) (take l.entry-index l.dead)
