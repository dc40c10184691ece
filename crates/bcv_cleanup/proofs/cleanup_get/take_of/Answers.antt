use Rattle.std.proofs.Common.{◌∙◌, ◌<◌, ◌^◌, List, drop, ap, subst, arith}
use Rattle.std.proofs.lemmas.List.{take_rest}
use Rattle.bcv_base.specs.declared.id.Id16.{Id16}
use Rattle.bcv_base.specs.declared.manifest.Dead.{Dead}
use Rattle.bcv_cleanup.specs.Picks.{PicksFirst}
use Rattle.bcv_cleanup.specs.Released.{has_more}
use Rattle.bcv_cleanup.proofs.Walks.{finds_first}
use Rattle.bcv_cleanup.proofs.cleanup_get.take_of.Goals as goal

pub returns-clause-finds : goal.returns-clause-finds
returns-clause-finds g c =
    let place = c.take_released-place.result in
    let ids = c.take_released-place.new.ids.items in
    let small : c.args.moment < 2 ^ 64 = omega arith in
    finds_first (goal.F-pre g c.args.rule.now.rule) (goal.F-post g c.args.rule.now.rule) c.args.moment c.args.manifest.now place ids c.releases_more.result c.requires.rule small c.requires.rules
    (subst (λ (dead : List Dead). PicksFirst (goal.F-post g c.args.rule.now.rule) c.args.moment c.args.manifest.now.retention dead place ids) c.items-dead.ensures c.take_released-place.ensures.picks)
    (λ released test.
    c.releases_more.ensures.more released test ∙ ap (λ (l : List Dead). has_more released c.deref.result.now l) (take_rest c.items-dead.result.now place)
    ∙ ap (λ (l : List Id16). has_more released l (drop place c.items-dead.result.now)) c.deref.ensures.value
    ∙ ap (λ (l : List Dead). has_more released ids (drop place l)) c.items-dead.ensures)
