use Rattle.std.proofs.Common.{ℕ, true, false, length, replicate, sym, ap, subst, ◌∙◌, arith}
use Rattle.std.specs.Prelude.{not, ◌||◌}
use Rattle.std.specs.List.{filter}
use Rattle.std.proofs.lemmas.List.{take-replicate, length-take-le}
use Rattle.bcv_base.specs.declared.id.Id16.{Id16}
use Rattle.bcv_base.specs.Ids.{has_id}
use Rattle.bcv_base.specs.ManifestRules.{Ascends}
use Rattle.bcv_dbmap.specs.Counted.{lists_behind}
use Rattle.bcv_dbmap.specs.Merged.{own_key, chosen}
use Rattle.bcv_dbmap.proofs.Chosen.{ascends_chosen, filter_chosen}
use Rattle.bcv_dbmap.proofs.counting.count_chunk.Goals as goal

pub count_left-requires-clause-order : goal.count_left-requires-clause-order
count_left-requires-clause-order c = subst (Ascends own_key) (sym c.sort_and_pack-kept.ensures.front) (ascends_chosen (λ _. true) c.copy_from_slice.new.self)

pub count_left-requires-clause-none : goal.count_left-requires-clause-none
count_left-requires-clause-none c =
    let kept : ℕ = c.sort_and_pack-kept.result in
    take-replicate kept 2048 false (omega (arith, ap length c.copy_from_slice.ensures.after)) ∙ ap (λ (n : ℕ). replicate n false) (sym (length-take-le kept c.sort_and_pack-kept.new.ids (omega arith)))

pub returns : goal.returns
returns c =
    let test = λ (i : Id16). not (lists_behind c.args.name.now c.args.filled.now c.args.dbs.now i || has_id i c.args.later.now) in
    c.count_left.ensures
    ∙ ap length (ap (filter test) (c.sort_and_pack-kept.ensures.front ∙ ap (chosen (λ _. true)) c.copy_from_slice.ensures.after) ∙ filter_chosen test c.args.chunk.now)
