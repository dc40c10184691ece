use Rattle.std.proofs.Common.{◌∙◌, List, ap, refl, slice_set}
use Rattle.bcv_base.specs.declared.outcome.Outcome.{Outcome}
use Rattle.bcv_memstore.proofs.Planning.{set_padded}
use Rattle.bcv_memstore.proofs.plan.set_at.Goals as goal

pub returns : goal.returns
returns c = ap (λ (os : List Outcome). slice_set os c.args.place c.args.outcome) c.in_ok-pad.ensures.padded ∙ set_padded c.args.place _ c.args.outcome c.args.later.now.items refl
