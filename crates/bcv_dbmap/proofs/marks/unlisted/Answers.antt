use Rattle.std.proofs.Common.{◌≡◌, List, true, sym, ap, subst, ◌∙◌}
use Rattle.std.specs.Prelude.{not, IfOk}
use Rattle.std.specs.List.{filter}
use Rattle.bcv_base.specs.declared.id.Id16.{Id16}
use Rattle.bcv_base.specs.ManifestRules.{Ascends, lists}
use Rattle.bcv_dbmap.specs.Merged.{own_key}
use Rattle.bcv_dbmap.proofs.Chosen.{ascends_chosen, filter_chosen}
use Rattle.bcv_dbmap.proofs.marks.unlisted.Goals as goal

pub unlisted_of-requires : goal.unlisted_of-requires
unlisted_of-requires c = subst (Ascends own_key) (sym (c.deref.ensures.value ∙ c.in_ok-sorted.ensures)) (ascends_chosen (λ _. true) c.args.ids.now)

pub returns : goal.returns
returns c =
    let test = λ (i : Id16). not (lists c.args.dbs.now i) in
    subst (λ (l : List Id16). IfOk c.unlisted_of.result (λ v. v.items ≡ l))
    (ap (filter test) (c.deref.ensures.value ∙ c.in_ok-sorted.ensures) ∙ filter_chosen test c.args.ids.now) c.unlisted_of.ensures
