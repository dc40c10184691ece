use Rattle.std.proofs.Common.{◌≡◌, map, take}
use Rattle.bcv_base.specs.declared.manifest.Dead.{Dead}
use Rattle.bcv_dbmap.proofs.counting.copy_ids.Given as goal

abbrev pub invariant-loop-place : goal.invariant-loop-place
invariant-loop-place l = take l.place l.ids ≡ map (λ (e : Dead). e.id) (take l.place l.dead)
