use Rattle.std.proofs.Common.{◌≡◌, Bool, true, sym, ap, subst, ◌∙◌}
use Rattle.std.specs.Prelude.{not, IfOk}
use Rattle.std.specs.List.{filter}
use Rattle.bcv_base.specs.declared.manifest.Dead.{Dead}
use Rattle.bcv_base.specs.Ids.{has_id}
use Rattle.bcv_base.specs.ManifestRules.{Ascends}
use Rattle.bcv_dbmap.specs.Merged.{own_key}
use Rattle.bcv_dbmap.proofs.Chosen.{ascends_chosen, has_all}
use Rattle.bcv_dbmap.proofs.dead.others.Goals as goal

pub others_of-requires : goal.others_of-requires
others_of-requires c = subst (Ascends own_key) (sym (c.deref.ensures.value ∙ c.in_ok-sorted.ensures)) (ascends_chosen (λ _. true) c.args.ids.now)

pub returns : goal.returns
returns c =
    let sorted : c.deref.result.now ≡ _ = c.deref.ensures.value ∙ c.in_ok-sorted.ensures in
    let same : (λ (e : Dead). not (has_id e.id c.deref.result.now)) ≡ (λ (e : Dead). not (has_id e.id c.args.ids.now)) = λ j e. not ((ap (has_id e.id) sorted ∙ has_all e.id c.args.ids.now) j) in
    subst (λ (test : Dead → Bool). IfOk c.others_of.result (λ v. v.items ≡ filter test c.args.dead.now)) same c.others_of.ensures
