use Rattle.std.proofs.Common.{◌∙◌, sym}
use Rattle.std.proofs.lemmas.List.Sorted.{list_any-IsPermutation}
use Rattle.bcv_base.specs.Ids.{id_eq}
use Rattle.bcv_manifest.proofs.blocks.listed_blocks.Goals as goal

pub returns-clause-same : goal.returns-clause-same
returns-clause-same c = λ i. sym (list_any-IsPermutation (λ x. id_eq x i) c.in_ok-ids.ids.items c.sort_unstable.new.self.items c.sort_unstable.ensures.permutation) ∙ c.in_ok-ids.ensures i
