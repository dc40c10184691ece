use Rattle.std.proofs.Common.{◌≡◌, ℕ, map, ◌+◌, ◌≤◌, List, [], ◌∷◌, ◌++◌, length, drop, sym, ap, subst, ◌∙◌, inl, inr}
use Rattle.std.specs.Prelude.{◌⊎◌}
use Rattle.std.proofs.lemmas.List.{take_rest}
use Rattle.bcv_base.specs.declared.id.Id16.{Id16}
use Rattle.bcv_base.specs.declared.manifest.Dead.{Dead}
use Rattle.bcv_dbmap.specs.Merged.{dead_of}
use Rattle.bcv_dbmap.proofs.Merging.{IsMerged, merged_more, merged_all}
use Rattle.bcv_dbmap.proofs.dead.with_dead.Goals.{then-loop-id-test+else-entry-dead, else-loop-id-test}
use Rattle.bcv_dbmap.proofs.dead.with_dead.Goals as goal

pub loop-id-preserved : goal.loop-id-preserved
loop-id-preserved c =
    rw c.in_ok-push.ensures.items
    (subst (λ (s : Dead × ℕ × ℕ). IsMerged c.args.stamp c.args.ids.now c.args.dead.now (c.loop-id.merged.items ++ s.0 ∷ []) (c.loop-id.id + s.1) (c.loop-id.entry + s.2)) (sym c.first_of-of_ids.ensures)
    (merged_more c.args.stamp c.args.ids.now c.args.dead.now c.loop-id.merged.items c.loop-id.id c.loop-id.entry (record { 0 = [] }) (record { id = record { 0 = [] }; stamp = 0 }) c.loop-id-test.true c.if-entry-dead.true c.loop-id.invariant))

pub returns : goal.returns
returns c =
    let ended : (length c.args.ids.now ≤ c.loop-id.id) ⊎ (length c.args.dead.now ≤ c.loop-id.entry) = elim c.loop-id-test.branch [
      | then-loop-id-test+else-entry-dead w ↦ inr w.if-entry-dead.false
      | else-loop-id-test w ↦ inl w.loop-id-test.false
    ] in
    let named : c.push_ids.new.into.items ≡ c.loop-id.merged.items ++ map (dead_of c.args.stamp) (drop c.loop-id.id c.args.ids.now) =
    c.in_ok-push_ids.ensures ∙ ap (λ (l : List Id16). c.loop-id.merged.items ++ map (dead_of c.args.stamp) l) (take_rest c.args.ids.now c.loop-id.id) in
    c.in_ok-extend_from_slice.ensures.items ∙ ap (λ (l : List Dead). c.push_ids.new.into.items ++ l) (take_rest c.args.dead.now c.loop-id.entry)
    ∙ ap (λ (l : List Dead). l ++ drop c.loop-id.entry c.args.dead.now) named
    ∙ merged_all c.args.stamp c.args.ids.now c.args.dead.now c.loop-id.merged.items c.loop-id.id c.loop-id.entry c.loop-id.invariant ended
