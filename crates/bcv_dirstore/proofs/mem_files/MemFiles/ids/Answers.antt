use Rattle.std.proofs.Common.{◌∙◌, ◌++◌, ℕ, List, sym, ap}
use Rattle.std.proofs.lemmas.List.{append-nil}
use Rattle.std.specs.Map.{keys_of}
use Rattle.bcv_base.specs.declared.id.Id16.{Id16}
use Rattle.bcv_base.specs.Ids.{has_id}
use Rattle.bcv_dirstore.proofs.FirstIds.{has_key}
use Rattle.bcv_dirstore.proofs.mem_files.MemFiles.ids.Goals as goal

pub returns : goal.returns
returns c =
    let all = sym (append-nil c.loop-id.into.items) ∙ ap (λ (rest : List (Id16 × List ℕ)). c.loop-id.into.items ++ keys_of rest) (sym c.in-None.ensures.steps.0) ∙ c.loop-id.invariant in
    λ (i : Id16). ap (has_id i) all ∙ has_key i _
