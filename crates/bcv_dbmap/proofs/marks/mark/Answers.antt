use Rattle.std.proofs.Common.{[], sym}
use Rattle.bcv_base.specs.Ids.{id_eq}
use Rattle.bcv_dbmap.proofs.Marked.{marked_nothing, each_more}
use Rattle.bcv_dbmap.proofs.marks.mark.Goals as goal

pub loop-other-init : goal.loop-other-init
loop-other-init c = sym (marked_nothing c.args.ids.now c.args.marks.now c.requires.len)

pub loop-other-preserved : goal.loop-other-preserved
loop-other-preserved c =
    each_more id_eq c.args.ids.now c.args.marks.now c.loop-other.marks c.mark_one.new.marks c.args.others.now c.loop-other.other-index (record { 0 = [] }) c.loop-other-test.true
    c.loop-other.invariant c.mark_one.ensures
