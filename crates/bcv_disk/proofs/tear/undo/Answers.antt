use Rattle.std.proofs.Common.{List, ℕ, ◌-◌, [], ◌∷◌, ◌++◌, length, take, vec_capacity, sym, ◌∙◌, ap, subst, arith}
use Rattle.bcv_disk.specs.Tearing.{HoldsFirst, undone}
use Rattle.bcv_disk.specs.declared.platter.Act.{Act}
use Rattle.bcv_disk.proofs.Lawful.{last_split}
use Rattle.bcv_disk.proofs.Undoing.{IsUndone, undo_end, undo_holds, undo_step}
use Rattle.bcv_disk.proofs.tear.undo.Goals as goal

pub step_back-requires : goal.step_back-requires
step_back-requires c =
    let rest = c.loop-over.rest.now in
    let split = last_split rest c.act-item.result c.in-len1-up.len_at_least c.act-item.is in
    let saved = c.in-Some.ensures.items in
    let so_far = subst (λ (l : List (List ℕ)). IsUndone c.args.acts.now (take (length rest - 1) rest ++ c.act-item.result ∷ []) c.loop-over.bytes.items l) saved (subst (λ (l : List Act). IsUndone c.args.acts.now l c.loop-over.bytes.items c.loop-over.saved.items) split c.loop-over.invariant.0) in
    subst (λ (o : List ℕ). HoldsFirst c.act-item.result o c.loop-over.bytes.items (vec_capacity c.loop-over.bytes)) (sym c.items.ensures)
    (undo_holds c.args.acts.now (take (length rest - 1) rest) c.act-item.result c.loop-over.bytes.items c.in-Some.over c.pop.new.self.items (vec_capacity c.loop-over.bytes) so_far c.requires.lawful (omega (arith, c.requires.room, c.loop-over.invariant.1)))

pub loop-over-preserved : goal.loop-over-preserved
loop-over-preserved c =
    let rest = c.loop-over.rest.now in
    let split = last_split rest c.act-item.result c.in-len1-up.len_at_least c.act-item.is in
    let saved = c.in-Some.ensures.items in
    let so_far = subst (λ (l : List (List ℕ)). IsUndone c.args.acts.now (take (length rest - 1) rest ++ c.act-item.result ∷ []) c.loop-over.bytes.items l) saved (subst (λ (l : List Act). IsUndone c.args.acts.now l c.loop-over.bytes.items c.loop-over.saved.items) split c.loop-over.invariant.0) in (
      subst (λ (b : List ℕ). IsUndone c.args.acts.now (take (length rest - 1) rest) b c.pop.new.self.items) (sym (c.step_back.ensures.bytes ∙ ap (λ (o : List ℕ). undone c.act-item.result o c.loop-over.bytes.items) c.items.ensures))
          (undo_step c.args.acts.now (take (length rest - 1) rest) c.act-item.result c.loop-over.bytes.items c.in-Some.over c.pop.new.self.items (vec_capacity c.loop-over.bytes) so_far c.requires.lawful (omega (arith, c.requires.room, c.loop-over.invariant.1))),
      omega (arith, c.loop-over.invariant.1, c.step_back.ensures.room),
    )

pub returns-clause-undone : goal.returns-clause-undone
returns-clause-undone c =
    undo_end c.args.acts.now c.loop-over.rest.now c.loop-over.bytes.items (subst (λ (l : List (List ℕ)). IsUndone c.args.acts.now c.loop-over.rest.now c.loop-over.bytes.items l) (grind arith) c.loop-over.invariant.0)
