use Rattle.std.proofs.Common.{◌≡◌, false, List, length, replicate, ap, subst, ◌∙◌, arith}
use Rattle.std.specs.Prelude.{IfOk}
use Rattle.std.proofs.lemmas.List.{with_items_is}
use Rattle.bcv_base.specs.declared.id.Id16.{Id16}
use Rattle.bcv_base.specs.ManifestRules.{lists}
use Rattle.bcv_dbmap.specs.Merged.{marked, unmarked}
use Rattle.bcv_dbmap.proofs.Marked.{unmarked_is}
use Rattle.bcv_dbmap.proofs.marks.unlisted_of.Goals as goal

pub returns : goal.returns
returns c =
    let ids : List Id16 = c.args.ids.now in
    let shown = c.deref.ensures.value ∙ with_items_is c.in_ok-marks.marks c.mark_listed.new.marks (omega arith) in
    let first : c.deref_mut.result.now ≡ replicate (length ids) false = c.deref_mut.ensures.value ∙ c.in_ok-marks.ensures.items_if_clones_equal (λ y e. e) in
    let all : c.deref.result.now ≡ marked (lists c.args.dbs.now) ids (replicate (length ids) false) = shown ∙ c.mark_listed.ensures ∙ ap (marked (lists c.args.dbs.now) ids) first in
    subst (λ (l : List Id16). IfOk c.without_mark.result (λ v. v.items ≡ l)) (ap (unmarked ids) all ∙ unmarked_is (lists c.args.dbs.now) ids) c.without_mark.ensures
