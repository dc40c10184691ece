use Rattle.std.proofs.Common.{◌≡◌, Bool, drop}
use Rattle.bcv_base.specs.declared.manifest.Dead.{Dead}
use Rattle.bcv_cleanup.specs.Released.{IsTestOf, has_more}
use Rattle.bcv_cleanup.proofs.released.releases_more.Given as goal

-- none of the entries so far is a further one
abbrev pub invariant-loop-entry : goal.invariant-loop-entry
invariant-loop-entry g l =
    (released : Dead → Bool) → IsTestOf (goal.F-post g l.rule.rule) l.moment l.retention released → has_more released l.ids l.dead ≡ has_more released l.ids (drop l.entry-index l.dead)
