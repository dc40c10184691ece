use Rattle.std.proofs.Common.{ℕ, ◌+◌, ◌≤◌, List, length, sym, ap, ap₂, subst, ◌∙◌, arith}
use Rattle.std.specs.Prelude.{not}
use Rattle.std.specs.List.{filter}
use Rattle.bcv_base.specs.declared.manifest.Dead.{Dead}
use Rattle.bcv_base.specs.Ids.{has_id}
use Rattle.bcv_base.specs.ManifestRules.{Ascends, dead_id}
use Rattle.bcv_dbmap.specs.Checked.{counted}
use Rattle.bcv_dbmap.specs.Merged.{taken_off}
use Rattle.bcv_dbmap.proofs.Counts.{filtered_piece, few_filtered, ascends_take, ascends_drop}
use Rattle.bcv_dbmap.proofs.counting.count_staying.Goals as goal

pub count_dead_chunk-count-requires-clause-order : goal.count_dead_chunk-count-requires-clause-order
count_dead_chunk-count-requires-clause-order c = subst (Ascends dead_id) (sym c.split_at.ensures.front) (ascends_take dead_id c.min.result c.loop-rest.rest.now c.loop-rest.invariant.1)

pub overflow_add-count : goal.overflow_add-count
overflow_add-count c =
    let test = λ (e : Dead). not (has_id e.id (taken_off (counted c.args.plan.now))) in
    let pieces =
    ap (λ (n : ℕ). c.loop-rest.count + n + length (filter test c.split_at.result.1.now)) c.count_dead_chunk-count.ensures
    ∙ ap₂ (λ (first later : List Dead). (c.loop-rest.count + length (filter test first)) + length (filter test later)) c.split_at.ensures.front c.split_at.ensures.back
    ∙ filtered_piece test c.loop-rest.rest.now c.min.result c.loop-rest.count (length (filter test c.args.dead.now)) c.loop-rest.invariant.0 in
    let few : length (filter test c.args.dead.now) ≤ length c.args.dead.now = few_filtered test c.args.dead.now in
    omega arith

pub loop-rest-preserved : goal.loop-rest-preserved
loop-rest-preserved c =
    let test = λ (e : Dead). not (has_id e.id (taken_off (counted c.args.plan.now))) in (
      ap (λ (n : ℕ). c.loop-rest.count + n + length (filter test c.split_at.result.1.now)) c.count_dead_chunk-count.ensures
          ∙ ap₂ (λ (first later : List Dead). (c.loop-rest.count + length (filter test first)) + length (filter test later)) c.split_at.ensures.front c.split_at.ensures.back
          ∙ filtered_piece test c.loop-rest.rest.now c.min.result c.loop-rest.count (length (filter test c.args.dead.now)) c.loop-rest.invariant.0,
      subst (Ascends dead_id) (sym c.split_at.ensures.back) (ascends_drop dead_id c.min.result c.loop-rest.rest.now c.loop-rest.invariant.1),
    )
