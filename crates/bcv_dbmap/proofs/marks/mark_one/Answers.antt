use Rattle.std.proofs.Common.{◌≡◌, ℕ, false, get_or, Result, sym, ap, ◌∙◌}
use Rattle.std.specs.Cmp.Lexicographic.{texts_ties}
use Rattle.std.specs.Ordering.{is_eq}
use Rattle.std.specs.Result.{is_ok}
use Rattle.bcv_base.specs.Ids.{has_id}
use Rattle.bcv_base.specs.declared.id.Id16.{Id16}
use Rattle.bcv_base.proofs.Searched.{searched}
use Rattle.bcv_dbmap.proofs.Chosen.{sorted_ids}
use Rattle.bcv_dbmap.proofs.Keys.{key_turned}
use Rattle.bcv_dbmap.proofs.Marked.{marked_at, marked_missing}
use Rattle.bcv_dbmap.proofs.marks.mark_one.Goals as goal

pub returns-in-Ok : goal.returns-in-Ok
returns-in-Ok c =
    let id = c.args.id.now in
    let there = (get_or c.args.ids.now c.in-Ok.place id).0 in
    marked_at id c.args.ids.now c.args.marks.now c.in-Ok.place id c.requires.order c.requires.len c.in-Ok.ensures.bound
    (key_turned id.0 there ∙ texts_ties there id.0 ∙ ap is_eq (c.in-Ok.ensures.ok id))

pub returns-in_default : goal.returns-in_default
returns-in_default c =
    let missing : has_id c.args.id.now c.args.ids.now ≡ false =
    sym (searched (λ (k : Id16). k.0) c.args.id.now c.args.ids.now c.args.id.now.0 c.binary_search.result (sorted_ids c.args.ids.now c.requires.order) c.binary_search.ensures.bound c.binary_search.ensures.position)
    ∙ ap (λ (r : Result ℕ ℕ). is_ok r) c.in_default.is in
    marked_missing c.args.id.now c.args.ids.now c.args.marks.now c.requires.len missing
