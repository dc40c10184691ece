use Rattle.std.proofs.Common.{rules, ◌∙◌}
use Rattle.std.proofs.lemmas.List.Sorted.{answers_always}
use Rattle.bcv_base.specs.declared.manifest.Dead.{Dead}
use Rattle.bcv_manifest.proofs.Marked.{is_dead_found}
use Rattle.bcv_base.proofs.Searched.{searched}
use Rattle.bcv_manifest.proofs.blocks.has_dead.Goals as goal

-- the closure gives a dead block's id
pub returns : goal.returns
returns c =
    let facts = c.binary_search_by_key.ensures in
    let by_id = facts.position (λ (e : Dead). e.id) (answers_always _ _ _ (λ f a r g called. search rules)) in
    let nobody : Dead = record { id = c.args.id.now; stamp = 0 } in
    c.is_ok.ensures.value ∙ searched (λ (e : Dead). e.id.0) nobody c.args.dead.now c.args.id.now.0 c.binary_search_by_key.result c.requires facts.bound by_id ∙ is_dead_found c.args.dead.now c.args.id.now
