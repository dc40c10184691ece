use Rattle.std.proofs.Common.{◌≡◌, Bool, false, List, length, replicate, ap, ◌∙◌}
use Rattle.std.specs.Prelude.{not, ◌||◌}
use Rattle.std.specs.List.{filter}
use Rattle.bcv_base.specs.declared.id.Id16.{Id16}
use Rattle.bcv_base.specs.Ids.{has_id}
use Rattle.bcv_dbmap.specs.Counted.{lists_other, is_filled, lists_behind}
use Rattle.bcv_dbmap.specs.Merged.{marked}
use Rattle.bcv_dbmap.proofs.Counts.{count_marked}
use Rattle.bcv_dbmap.proofs.Marked.{marked_twice}
use Rattle.bcv_dbmap.proofs.counting.count_left.Goals as goal

pub returns : goal.returns
returns c =
    let ids : List Id16 = c.args.ids.now in
    let none : List Bool = replicate (length ids) false in
    let other = λ (i : Id16). lists_other c.args.name.now c.args.dbs.now i in
    let filled = λ (i : Id16). is_filled c.args.filled.now i in
    let again = λ (i : Id16). has_id i c.args.later.now in
    let all : c.mark.new.marks ≡ marked (λ i. (other i || filled i) || again i) ids none =
    c.mark.ensures
    ∙ ap (marked again ids) (c.mark_filled.ensures ∙ ap (marked filled ids) (c.mark_others.ensures ∙ ap (marked other ids) c.requires.none) ∙ marked_twice other filled ids none)
    ∙ marked_twice (λ i. other i || filled i) again ids none in
    c.count_unmarked.ensures ∙ ap (λ (l : List Bool). length (filter (λ b. not b) l)) all
    ∙ count_marked (λ i. lists_behind c.args.name.now c.args.filled.now c.args.dbs.now i || has_id i c.args.later.now) ids
