use Rattle.std.proofs.Common.{ℕ, ◌+◌, ◌≤◌, List, length, ap, ap₂, ◌∙◌, arith}
use Rattle.std.specs.Prelude.{not, ◌||◌}
use Rattle.bcv_base.specs.declared.id.Id16.{Id16}
use Rattle.bcv_base.specs.Ids.{has_id}
use Rattle.bcv_dbmap.specs.Counted.{lists_behind}
use Rattle.bcv_dbmap.specs.Merged.{chosen}
use Rattle.bcv_dbmap.proofs.Counts.{counted_piece, few_chosen}
use Rattle.bcv_dbmap.proofs.counting.count_unlisted.Goals as goal

pub overflow_add-count : goal.overflow_add-count
overflow_add-count c =
    let out = λ (i : Id16). lists_behind c.args.name.now c.args.filled.now c.args.dbs.now i in
    let pieces =
    ap (λ (n : ℕ). c.loop-rest.count + n + length (chosen (λ i. not (out i)) c.split_at.result.1.now)) c.count_chunk-count.ensures
    ∙ ap₂ (λ (first later : List Id16). (c.loop-rest.count + length (chosen (λ i. not (out i || has_id i later)) first)) + length (chosen (λ i. not (out i)) later)) c.split_at.ensures.front c.split_at.ensures.back
    ∙ counted_piece out c.loop-rest.rest.now c.min.result c.loop-rest.count (length (chosen (λ i. not (out i)) c.args.ids.now)) c.loop-rest.invariant in
    let few : length (chosen (λ i. not (out i)) c.args.ids.now) ≤ length c.args.ids.now = few_chosen (λ i. not (out i)) c.args.ids.now in
    omega arith

pub loop-rest-preserved : goal.loop-rest-preserved
loop-rest-preserved c =
    let out = λ (i : Id16). lists_behind c.args.name.now c.args.filled.now c.args.dbs.now i in
    ap (λ (n : ℕ). c.loop-rest.count + n + length (chosen (λ i. not (out i)) c.split_at.result.1.now)) c.count_chunk-count.ensures
    ∙ ap₂ (λ (first later : List Id16). (c.loop-rest.count + length (chosen (λ i. not (out i || has_id i later)) first)) + length (chosen (λ i. not (out i)) later)) c.split_at.ensures.front c.split_at.ensures.back
    ∙ counted_piece out c.loop-rest.rest.now c.min.result c.loop-rest.count (length (chosen (λ i. not (out i)) c.args.ids.now)) c.loop-rest.invariant
