use Rattle.std.specs.Ordering.{is_eq, is_gt}
use Rattle.std.proofs.Common.{◌≡◌, true, false, length, subst, arith}
use Rattle.bcv_notes.proofs.Placing.{ordered, put_over, put_before, put_later, put_last, IsPast}
use Rattle.bcv_notes.proofs.folding.place_of.Goals as goal

pub returns-then-is_eq : goal.returns-then-is_eq
returns-then-is_eq c =
    record {
      there = (
        c.loop-place-test.true,
        λ d e.
            put_over d c.args.locals.now c.loop-place.place c.index-locals-place.result c.loop-place-test.true (c.loop-place.invariant d e)
            (ordered d c.args.locals.now is_eq c.loop-place.place c.index-locals-place.result c.args.db.now c.cmp_bytes-order.result c.is_eq.result true e c.cmp_bytes-order.ensures c.is_eq.ensures c.if-is_eq.true),
      );
      free = tt;
    }

pub returns-then-is_gt : goal.returns-then-is_gt
returns-then-is_gt c =
    record {
      there = tt;
      free = (
        omega (arith, c.loop-place-test.true),
        λ d e.
            put_before d c.args.locals.now c.loop-place.place c.index-locals-place.result c.loop-place-test.true (c.loop-place.invariant d e)
            (ordered d c.args.locals.now is_gt c.loop-place.place c.index-locals-place.result c.args.db.now c.cmp_bytes-order.result c.is_gt.result true e c.cmp_bytes-order.ensures c.is_gt.ensures c.if-is_gt.true),
      );
    }

pub loop-place-preserved : goal.loop-place-preserved
loop-place-preserved c = λ d e.
    put_later d c.args.locals.now c.loop-place.place c.index-locals-place.result c.loop-place-test.true (c.loop-place.invariant d e)
    (ordered d c.args.locals.now is_eq c.loop-place.place c.index-locals-place.result c.args.db.now c.cmp_bytes-order.result c.is_eq.result false e c.cmp_bytes-order.ensures c.is_eq.ensures c.if-is_eq.false)
    (ordered d c.args.locals.now is_gt c.loop-place.place c.index-locals-place.result c.args.db.now c.cmp_bytes-order.result c.is_gt.result false e c.cmp_bytes-order.ensures c.is_gt.ensures c.if-is_gt.false)

pub returns : goal.returns
returns c =
    let n = length c.args.locals.now in
    let end : c.loop-place.place ≡ n = omega (arith, c.loop-place-test.false, c.loop-place.auto.place-end) in
    record { there = tt; free = (omega arith, λ d e. put_last d c.args.locals.now n (omega arith) (subst (IsPast d c.args.locals.now) end (c.loop-place.invariant d e))) }
