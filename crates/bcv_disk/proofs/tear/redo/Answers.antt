use Rattle.std.proofs.Common.{◌≡◌, List, ℕ, ◌-◌, [], ◌∷◌, ◌++◌, length, drop, vec_capacity, sym, ◌∙◌, ap, subst, arith}
use Rattle.std.proofs.lemmas.List.{length-drop}
use Rattle.bcv_disk.specs.Tearing.{HasPlace, redone}
use Rattle.bcv_disk.specs.declared.platter.Act.{Act}
use Rattle.bcv_disk.proofs.Redoing.{IsRedone, IsRedone-rest, first_split, redo_place, redo_start, redo_step}
use Rattle.bcv_disk.proofs.tear.redo.Goals as goal

pub loop-rest-init : goal.loop-rest-init
loop-rest-init c =
    let acts = c.args.acts.now in
    let bytes = c.args.bytes.now.items in
    let copied : c.extend_from_slice.new.self.items ≡ bytes = c.in-Ok.ensures.items ∙ (λ i. c.requires.empty i ++ c.deref.ensures.value i) in (
      IsRedone-rest acts (drop c.args.first acts) bytes c.args.image c.extend_from_slice.new.self.items (length acts - c.args.first) (omega (arith, length-drop c.args.first acts))
          (subst (λ (l : List ℕ). IsRedone acts (drop c.args.first acts) bytes c.args.image l) (sym copied) (redo_start acts c.args.first bytes c.args.image c.requires.undone)),
      omega arith,
    )

pub step_on-requires-clause-place : goal.step_on-requires-clause-place
step_on-requires-clause-place c =
    let rest = c.loop-rest.rest.now in
    let split = first_split rest c.act-item.result c.in-len1-up.len_at_least c.act-item.is in
    let so_far = subst (λ (l : List Act). IsRedone c.args.acts.now l c.loop-rest.bytes.items c.args.image c.extend_from_slice.new.self.items) split c.loop-rest.invariant.0 in
    redo_place c.args.acts.now (drop 1 rest) c.act-item.result c.loop-rest.bytes.items c.extend_from_slice.new.self.items c.args.image (vec_capacity c.loop-rest.bytes) so_far c.requires.image c.requires.lawful
    (omega (arith, c.requires.room, c.loop-rest.invariant.1))

pub loop-rest-preserved : goal.loop-rest-preserved
loop-rest-preserved c =
    let acts = c.args.acts.now in
    let rest = c.loop-rest.rest.now in
    let old = c.extend_from_slice.new.self.items in
    let split = first_split rest c.act-item.result c.in-len1-up.len_at_least c.act-item.is in
    let so_far = subst (λ (l : List Act). IsRedone acts l c.loop-rest.bytes.items c.args.image old) split c.loop-rest.invariant.0 in
    let bytes_are = sym (c.step_on.ensures.bytes ∙ ap (λ (o : List ℕ). redone c.args.image o c.act-item.result c.loop-rest.bytes.items) c.deref-in-len1-up.ensures.value) in
    let step = redo_step acts (drop 1 rest) c.act-item.result c.loop-rest.bytes.items old c.args.image (vec_capacity c.loop-rest.bytes) so_far c.requires.image c.requires.lawful (omega (arith, c.requires.room, c.loop-rest.invariant.1)) in (
      IsRedone-rest acts (drop 1 rest) c.step_on.new.bytes.items c.args.image old _ (omega (arith, length-drop 1 rest)) (subst (λ (b : List ℕ). IsRedone acts (drop 1 rest) b c.args.image old) bytes_are step),
      omega (arith, c.loop-rest.invariant.1, c.step_on.ensures.room),
    )
