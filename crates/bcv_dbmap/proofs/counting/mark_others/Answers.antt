use Rattle.std.proofs.Common.{sym, ap, ◌∙◌}
use Rattle.std.specs.Prelude.{not, ◌&&◌}
use Rattle.std.specs.Str.{bytes_eq}
use Rattle.bcv_base.specs.declared.id.Id16.{Id16}
use Rattle.bcv_base.specs.declared.manifest.DbEntry.{DbEntry}
use Rattle.bcv_base.specs.Ids.{has_id}
use Rattle.bcv_dbmap.specs.Merged.{marked}
use Rattle.bcv_dbmap.proofs.Marked.{marked_nothing, each_more}
use Rattle.bcv_dbmap.proofs.counting.mark_others.Goals as goal

pub loop-db-init : goal.loop-db-init
loop-db-init c = sym (marked_nothing c.args.ids.now c.args.marks.now c.requires.len)

pub loop-db-preserved : goal.loop-db-preserved
loop-db-preserved c =
    let test = λ (d : DbEntry) (i : Id16). not (bytes_eq d.name c.args.name.now) && has_id i d.blocks in
    each_more test c.args.ids.now c.args.marks.now c.loop-db.marks c.mark_if_other.new.marks c.args.dbs.now c.loop-db.db-index c.db-item.result c.loop-db-test.true
    c.loop-db.invariant (c.mark_if_other.ensures ∙ ap (λ (d : DbEntry). marked (test d) c.args.ids.now c.loop-db.marks) c.db-item.is)
