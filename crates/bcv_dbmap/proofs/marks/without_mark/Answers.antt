use Rattle.std.proofs.Common.{[]}
use Rattle.bcv_dbmap.proofs.Marked.{unmarked_skips, unmarked_keeps}
use Rattle.bcv_dbmap.proofs.marks.without_mark.Goals.{then-not-marks-place+in_ok-push, else-not-marks-place}
use Rattle.bcv_dbmap.proofs.marks.without_mark.Goals as goal

pub loop-place-preserved : goal.loop-place-preserved
loop-place-preserved c =
    elim c.if-not-marks-place.branch [
      | then-not-marks-place+in_ok-push w ↦
          rw (w.kept-is, w.in_ok-push.ensures.items)
          (unmarked_keeps c.args.ids.now c.args.marks.now c.loop-place.place (record { 0 = [] }) c.loop-place.kept.items c.loop-place-test.true c.requires c.loop-place.invariant w.if-not-marks-place.true)
      | else-not-marks-place w ↦
          rw w.kept-is
          (unmarked_skips c.args.ids.now c.args.marks.now c.loop-place.place (record { 0 = [] }) c.loop-place.kept.items c.loop-place-test.true c.requires c.loop-place.invariant w.if-not-marks-place.false)
    ]
