use Rattle.std.proofs.Common.{Bool, List, length, ap, ◌∙◌}
use Rattle.std.specs.Prelude.{not}
use Rattle.std.specs.List.{filter}
use Rattle.bcv_base.specs.declared.id.Id16.{Id16}
use Rattle.bcv_base.specs.Ids.{has_id}
use Rattle.bcv_dbmap.specs.Checked.{counted}
use Rattle.bcv_dbmap.specs.Merged.{marked, taken_off}
use Rattle.bcv_dbmap.proofs.Counts.{count_marked}
use Rattle.bcv_dbmap.proofs.counting.count_kept.Goals as goal

pub returns : goal.returns
returns c =
    let taken = λ (i : Id16). has_id i (taken_off (counted c.args.plan.now)) in
    c.count_unmarked.ensures
    ∙ ap (λ (l : List Bool). length (filter (λ b. not b) l)) (c.mark_taken.ensures ∙ ap (marked taken c.args.ids.now) c.requires.none)
    ∙ count_marked taken c.args.ids.now
