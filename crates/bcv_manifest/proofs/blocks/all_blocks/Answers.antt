use Rattle.std.proofs.Common.{◌++◌, List, ap, ◌∙◌}
use Rattle.std.proofs.lemmas.List.{take_all}
use Rattle.bcv_base.specs.declared.id.Id16.{Id16}
use Rattle.bcv_base.specs.declared.manifest.DbEntry.{DbEntry}
use Rattle.bcv_base.specs.Ids.{has_id}
use Rattle.bcv_base.specs.ManifestRules.{lists}
use Rattle.bcv_manifest.proofs.Searched.{lists_more}
use Rattle.bcv_manifest.proofs.blocks.all_blocks.Goals as goal

pub loop-db-preserved : goal.loop-db-preserved
loop-db-preserved c =
    let own = c.items.ensures ∙ ap (λ (d : DbEntry). d.blocks) c.db-item.is in
    let all = c.in_ok-extend_from_slice.ensures.items ∙ ap (λ (is : List Id16). c.loop-db.ids.items ++ is) own in
    λ i. ap (has_id i) all ∙ lists_more i c.loop-db.ids.items c.args.dbs.now c.loop-db.db-index c.db-item.result c.loop-db-test.true (c.loop-db.invariant i)

pub returns : goal.returns
returns c = λ i. c.loop-db.invariant i ∙ ap (λ (ds : List DbEntry). lists ds i) (take_all c.loop-db.db-index c.args.dbs.now c.loop-db-test.false)
