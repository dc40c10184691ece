use Rattle.std.specs.Ordering.{is_eq, is_gt}
use Rattle.std.proofs.Common.{true, false}
use Rattle.bcv_base.specs.ManifestRules.{db_name}
use Rattle.bcv_dbmap.proofs.Places.{ordered, put_over, put_before, put_later}
use Rattle.bcv_dbmap.proofs.databases.place_of.Goals as goal

pub returns-then-is_eq-clause-place : goal.returns-then-is_eq-clause-place
returns-then-is_eq-clause-place c = λ d e.
    put_over db_name d c.args.dbs.now c.loop-place.place c.index-dbs-place.result c.loop-place-test.true (c.loop-place.invariant d e)
    (ordered db_name d c.args.dbs.now is_eq c.loop-place.place c.index-dbs-place.result c.args.name.now c.cmp_bytes-order.result c.is_eq.result true e c.cmp_bytes-order.ensures c.is_eq.ensures c.if-is_eq.true)

pub returns-then-is_gt-clause-place : goal.returns-then-is_gt-clause-place
returns-then-is_gt-clause-place c = λ d e.
    put_before db_name d c.args.dbs.now c.loop-place.place c.index-dbs-place.result c.loop-place-test.true (c.loop-place.invariant d e)
    (ordered db_name d c.args.dbs.now is_gt c.loop-place.place c.index-dbs-place.result c.args.name.now c.cmp_bytes-order.result c.is_gt.result true e c.cmp_bytes-order.ensures c.is_gt.ensures c.if-is_gt.true)

pub loop-place-preserved : goal.loop-place-preserved
loop-place-preserved c = λ d e.
    put_later db_name d c.args.dbs.now c.loop-place.place c.index-dbs-place.result c.loop-place-test.true (c.loop-place.invariant d e)
    (ordered db_name d c.args.dbs.now is_eq c.loop-place.place c.index-dbs-place.result c.args.name.now c.cmp_bytes-order.result c.is_eq.result false e c.cmp_bytes-order.ensures c.is_eq.ensures c.if-is_eq.false)
    (ordered db_name d c.args.dbs.now is_gt c.loop-place.place c.index-dbs-place.result c.args.name.now c.cmp_bytes-order.result c.is_gt.result false e c.cmp_bytes-order.ensures c.is_gt.ensures c.if-is_gt.false)
