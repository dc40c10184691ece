use Rattle.std.proofs.Common.{List, sym, ap, ◌∙◌}
use Rattle.bcv_base.specs.declared.id.Id16.{Id16}
use Rattle.bcv_base.specs.declared.manifest.DbEntry.{DbEntry}
use Rattle.bcv_base.specs.Ids.{has_id}
use Rattle.bcv_dbmap.specs.Merged.{marked}
use Rattle.bcv_dbmap.proofs.Marked.{marked_nothing, each_more}
use Rattle.bcv_dbmap.proofs.marks.mark_listed.Goals as goal

pub loop-db-init : goal.loop-db-init
loop-db-init c = sym (marked_nothing c.args.ids.now c.args.marks.now c.requires.len)

pub loop-db-preserved : goal.loop-db-preserved
loop-db-preserved c =
    let own = c.items.ensures ∙ ap (λ (d : DbEntry). d.blocks) c.db-item.is in
    each_more (λ (d : DbEntry) (i : Id16). has_id i d.blocks) c.args.ids.now c.args.marks.now c.loop-db.marks c.mark.new.marks c.args.dbs.now c.loop-db.db-index c.db-item.result c.loop-db-test.true c.loop-db.invariant
    (c.mark.ensures ∙ ap (λ (l : List Id16). marked (λ i. has_id i l) c.args.ids.now c.loop-db.marks) own)
