use Rattle.bcv_script.proofs.Adding.{map_onto}
use Rattle.bcv_proto.specs.Answers.{row_fields}
use Rattle.bcv_proto.proofs.writing.add_each_row.Goals as goal

pub loop-row-preserved : goal.loop-row-preserved
loop-row-preserved c =
    map_onto row_fields c.args.rows.now c.loop-row.row-index c.row-item.result c.args.into.now.items c.loop-row.into.items c.add_row.new.into.items
    c.loop-row-test.true c.row-item.is c.loop-row.invariant c.in_ok-add_row.ensures
