use Rattle.std.proofs.Common.{true, false, [], ap}
use Rattle.std.specs.Ordering.{is_eq, is_gt}
use Rattle.bcv_base.specs.declared.id.Id16.{Id16}
use Rattle.bcv_base.specs.declared.manifest.Writer.{Writer}
use Rattle.bcv_base.specs.ManifestRules.{writer_id}
use Rattle.bcv_dbmap.proofs.Places.{ordered, put_over, put_before, put_later}
use Rattle.bcv_dbmap.proofs.writers.line_of.Goals as goal

-- what stands past the end of a list of writers
abbrev no_writer : Writer
no_writer = record { id = record { 0 = [] }; last = record { 0 = [] }; number = 0 }

pub returns-then-is_eq-clause-place : goal.returns-then-is_eq-clause-place
returns-then-is_eq-clause-place c = λ w e.
    put_over writer_id w c.args.writers.now c.loop-place.place no_writer c.loop-place-test.true (c.loop-place.invariant w e)
    (ordered writer_id w c.args.writers.now is_eq c.loop-place.place no_writer c.args.id.now.0 c.cmp-order.result c.is_eq.result true (ap (λ (i : Id16). i.0) e) c.cmp-order.ensures c.is_eq.ensures c.if-is_eq.true)

pub returns-then-is_gt-clause-place : goal.returns-then-is_gt-clause-place
returns-then-is_gt-clause-place c = λ w e.
    put_before writer_id w c.args.writers.now c.loop-place.place no_writer c.loop-place-test.true (c.loop-place.invariant w e)
    (ordered writer_id w c.args.writers.now is_gt c.loop-place.place no_writer c.args.id.now.0 c.cmp-order.result c.is_gt.result true (ap (λ (i : Id16). i.0) e) c.cmp-order.ensures c.is_gt.ensures c.if-is_gt.true)

pub loop-place-preserved : goal.loop-place-preserved
loop-place-preserved c = λ w e.
    put_later writer_id w c.args.writers.now c.loop-place.place no_writer c.loop-place-test.true (c.loop-place.invariant w e)
    (ordered writer_id w c.args.writers.now is_eq c.loop-place.place no_writer c.args.id.now.0 c.cmp-order.result c.is_eq.result false (ap (λ (i : Id16). i.0) e) c.cmp-order.ensures c.is_eq.ensures c.if-is_eq.false)
    (ordered writer_id w c.args.writers.now is_gt c.loop-place.place no_writer c.args.id.now.0 c.cmp-order.result c.is_gt.result false (ap (λ (i : Id16). i.0) e) c.cmp-order.ensures c.is_gt.ensures c.if-is_gt.false)
