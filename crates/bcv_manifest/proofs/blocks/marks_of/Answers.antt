use Rattle.std.proofs.Common.{List, ap, ◌∙◌, arith}
use Rattle.std.proofs.lemmas.List.{take_all, length-set}
use Rattle.bcv_base.specs.declared.manifest.Dead.{Dead}
use Rattle.bcv_manifest.specs.Marks.{is_dead_id}
use Rattle.bcv_manifest.proofs.Marked.{marked_more}
use Rattle.bcv_manifest.proofs.blocks.marks_of.Goals as goal

pub loop-entry-preserved : goal.loop-entry-preserved
loop-entry-preserved c =
    let so_far = c.loop-entry.invariant in
    let count = c.saturating_add-count.result in
    let at = c.place_of_mark-place in
    (so_far.0, rw length-set so_far.1, marked_more _ c.args.dead.now c.loop-entry.marks.items count c.loop-entry.entry-index at.result c.loop-entry-test.true so_far.1 at.ensures.place at.ensures.within so_far.2)

pub returns : goal.returns
returns c =
    let all = c.loop-entry.invariant in
    let whole = take_all c.loop-entry.entry-index c.args.dead.now c.loop-entry-test.false in
    record {
      some = omega (arith, all.0, all.1);
      each = λ i is. rw all.1 (all.2 i (ap (λ (es : List Dead). is_dead_id es i) whole ∙ is));
    }
