use Rattle.std.proofs.Common.{◌∙◌}
use Rattle.bcv_base.specs.declared.id.Id16.{Id16}
use Rattle.bcv_base.proofs.Searched.{searched}
use Rattle.bcv_base.proofs.id.is_one_of.Goals as goal

pub returns : goal.returns
returns c = c.is_ok.ensures.value ∙ searched (λ (k : Id16). k.0) c.args.id.now c.args.ids.now c.args.id.now.0 c.binary_search.result c.requires c.binary_search.ensures.bound c.binary_search.ensures.position
