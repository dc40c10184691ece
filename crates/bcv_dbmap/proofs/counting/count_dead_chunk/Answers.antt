use Rattle.std.proofs.Common.{ℕ, false, List, length, replicate, sym, ap, subst, ◌∙◌}
use Rattle.std.specs.Prelude.{not}
use Rattle.std.specs.List.{filter}
use Rattle.std.proofs.lemmas.List.{take-replicate, length-map}
use Rattle.bcv_base.specs.declared.id.Id16.{Id16}
use Rattle.bcv_base.specs.declared.manifest.Dead.{Dead}
use Rattle.bcv_base.specs.Ids.{has_id}
use Rattle.bcv_base.specs.ManifestRules.{Ascends}
use Rattle.bcv_dbmap.specs.Checked.{counted}
use Rattle.bcv_dbmap.specs.Merged.{own_key, taken_off}
use Rattle.bcv_dbmap.proofs.Counts.{ids_ascend, count_of_ids}
use Rattle.bcv_dbmap.proofs.counting.count_dead_chunk.Goals as goal

pub count_kept-requires-clause-order : goal.count_kept-requires-clause-order
count_kept-requires-clause-order c = subst (Ascends own_key) (sym c.copy_ids.ensures) (ids_ascend c.args.chunk.now c.requires.order)

pub count_kept-requires-clause-none : goal.count_kept-requires-clause-none
count_kept-requires-clause-none c =
    take-replicate (length c.args.chunk.now) 2048 false c.requires.few
    ∙ ap (λ (n : ℕ). replicate n false) (sym (ap length c.copy_ids.ensures ∙ length-map c.args.chunk.now (λ (e : Dead). e.id)))

pub returns : goal.returns
returns c =
    let taken = λ (i : Id16). has_id i (taken_off (counted c.args.plan.now)) in
    c.count_kept.ensures ∙ ap (λ (l : List Id16). length (filter (λ i. not (taken i)) l)) c.copy_ids.ensures ∙ count_of_ids taken c.args.chunk.now
