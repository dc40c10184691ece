use Rattle.std.proofs.Common.{[], sym}
use Rattle.std.specs.Prelude.{not, ◌&&◌}
use Rattle.bcv_base.specs.declared.id.Id16.{Id16}
use Rattle.bcv_base.specs.Ids.{id_eq}
use Rattle.bcv_dbmap.specs.Checked.{zero_id}
use Rattle.bcv_dbmap.proofs.Marked.{marked_nothing, each_more}
use Rattle.bcv_dbmap.proofs.counting.mark_filled.Goals as goal

pub loop-id-init : goal.loop-id-init
loop-id-init c = sym (marked_nothing c.args.ids.now c.args.marks.now c.requires.len)

pub loop-id-preserved : goal.loop-id-preserved
loop-id-preserved c =
    each_more (λ (x i : Id16). not (id_eq x zero_id) && id_eq x i) c.args.ids.now c.args.marks.now c.loop-id.marks c.mark_if_filled.new.marks c.args.filled.now c.loop-id.id-index (record { 0 = [] }) c.loop-id-test.true
    c.loop-id.invariant c.mark_if_filled.ensures
