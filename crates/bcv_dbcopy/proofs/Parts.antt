-- A task with some fields as literals, so that what is stuck on them computes.
use Rattle.std.proofs.Common.{◌≡◌, ◌∙◌, ℕ, Option, sym, ap}
use Rattle.bcv_base.specs.declared.seen.Latest.{Latest}
use Rattle.bcv_dbmap.specs.declared.plan.EditPlan.{EditPlan}
use Rattle.bcv_dbcopy.specs.State.{State}

-- the task with an entry, a manifest and a block size in the place of its own
abbrev pub with_parts : State → EditPlan → Option Latest → Option ℕ → State
with_parts s p o block = record s { edit = p; publish = record s.publish { latest = o }; block = block }

pub parts_same : (s : State) (p : EditPlan) (o : Option Latest) (block : Option ℕ) → s.edit ≡ p → s.publish.latest ≡ o → s.block ≡ block → with_parts s p o block ≡ s
parts_same s p o block p_is o_is block_is =
    ap (λ (x : EditPlan). with_parts s x o block) (sym p_is) ∙ ap (λ (x : Option Latest). with_parts s s.edit x block) (sym o_is)
    ∙ ap (λ (x : Option ℕ). with_parts s s.edit s.publish.latest x) (sym block_is)
