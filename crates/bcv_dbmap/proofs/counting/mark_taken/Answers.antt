use Rattle.std.proofs.Common.{List, sym, ap, ◌∙◌}
use Rattle.std.specs.Prelude.{not}
use Rattle.std.specs.List.{filter}
use Rattle.bcv_base.specs.declared.id.Id16.{Id16}
use Rattle.bcv_base.specs.Ids.{has_id, id_eq}
use Rattle.bcv_dbmap.specs.declared.plan.EditPlan.{EditPlan}
use Rattle.bcv_dbmap.specs.Checked.{counted, zero_id}
use Rattle.bcv_dbmap.specs.Counted.{is_filled}
use Rattle.bcv_dbmap.specs.Merged.{marked, taken_off}
use Rattle.bcv_dbmap.proofs.Counts.{filled_is}
use Rattle.bcv_dbmap.proofs.Marked.{marked_alike, marked_nothing}
use Rattle.bcv_dbmap.proofs.counting.mark_taken.Goals as goal

pub returns-in-New : goal.returns-in-New
returns-in-New c =
    let blocks : List Id16 = c.in-New.entry.blocks in
    c.mark_filled.ensures ∙ ap (λ (l : List Id16). marked (is_filled l) c.args.ids.now c.args.marks.now) c.items.ensures
    ∙ marked_alike (is_filled blocks) (λ i. has_id i (filter (λ x. not (id_eq x zero_id)) blocks)) c.args.ids.now c.args.marks.now (λ i. filled_is i blocks)
    ∙ ap (λ (p : EditPlan). marked (λ i. has_id i (taken_off (counted p))) c.args.ids.now c.args.marks.now) (sym c.in-New.is)

pub returns-in-Upload : goal.returns-in-Upload
returns-in-Upload c =
    let blocks : List Id16 = c.in-Upload.entry.blocks in
    c.mark_filled-in-Upload.ensures ∙ ap (λ (l : List Id16). marked (is_filled l) c.args.ids.now c.args.marks.now) c.items-in-Upload.ensures
    ∙ marked_alike (is_filled blocks) (λ i. has_id i (filter (λ x. not (id_eq x zero_id)) blocks)) c.args.ids.now c.args.marks.now (λ i. filled_is i blocks)
    ∙ ap (λ (p : EditPlan). marked (λ i. has_id i (taken_off (counted p))) c.args.ids.now c.args.marks.now) (sym c.in-Upload.is)

pub returns-in-Copy : goal.returns-in-Copy
returns-in-Copy c =
    sym (marked_nothing c.args.ids.now c.args.marks.now c.requires.len)
    ∙ ap (λ (p : EditPlan). marked (λ i. has_id i (taken_off (counted p))) c.args.ids.now c.args.marks.now) (sym c.in-Copy.is)

pub returns-in-Remove : goal.returns-in-Remove
returns-in-Remove c =
    sym (marked_nothing c.args.ids.now c.args.marks.now c.requires.len)
    ∙ ap (λ (p : EditPlan). marked (λ i. has_id i (taken_off (counted p))) c.args.ids.now c.args.marks.now) (sym c.in-Remove.is)
