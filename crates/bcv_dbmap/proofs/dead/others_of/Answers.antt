use Rattle.std.proofs.Common.{[], get_or, sym, ◌∙◌}
use Rattle.std.specs.Prelude.{not}
use Rattle.std.proofs.lemmas.Bool.{not_from_true, not_from_false}
use Rattle.bcv_base.specs.declared.manifest.Dead.{Dead}
use Rattle.bcv_base.specs.Ids.{has_id}
use Rattle.bcv_dbmap.proofs.Chosen.{sorted_ids}
use Rattle.bcv_dbmap.proofs.Filtered.{keeps, skips}
use Rattle.bcv_dbmap.proofs.dead.others_of.Goals.{then-not-is_one_of+in_ok-push, else-not-is_one_of}
use Rattle.bcv_dbmap.proofs.dead.others_of.Goals as goal

pub is_one_of-requires : goal.is_one_of-requires
is_one_of-requires c = sorted_ids c.args.ids.now c.requires

-- what stands past the end of a delete list
abbrev no_dead : Dead
no_dead = record { id = record { 0 = [] }; stamp = 0 }

pub loop-entry-preserved : goal.loop-entry-preserved
loop-entry-preserved c =
    let test = λ (e : Dead). not (has_id e.id c.args.ids.now) in
    let x : Dead = get_or c.args.dead.now c.loop-entry.entry-index no_dead in
    elim c.if-not-is_one_of.branch [
      | then-not-is_one_of+in_ok-push w ↦
          rw (w.kept-is, w.in_ok-push.ensures.items)
          (keeps test c.args.dead.now c.loop-entry.kept.items c.loop-entry.entry-index no_dead c.loop-entry-test.true c.loop-entry.invariant
          (not_from_false (has_id x.id c.args.ids.now) (sym c.is_one_of.ensures ∙ w.if-not-is_one_of.true)))
      | else-not-is_one_of w ↦
          rw w.kept-is
          (skips test c.args.dead.now c.loop-entry.kept.items c.loop-entry.entry-index no_dead c.loop-entry-test.true c.loop-entry.invariant
          (not_from_true (has_id x.id c.args.ids.now) (sym c.is_one_of.ensures ∙ w.if-not-is_one_of.false)))
    ]
