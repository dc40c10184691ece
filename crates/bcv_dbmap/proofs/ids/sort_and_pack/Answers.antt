use Rattle.std.proofs.Common.{◌∙◌}
use Rattle.bcv_dbmap.proofs.Chosen.{packed}
use Rattle.bcv_dbmap.proofs.ids.sort_and_pack.Goals as goal

pub returns-clause-front : goal.returns-clause-front
returns-clause-front c = c.pack.ensures.front ∙ packed c.args.ids.now c.sort_unstable.new.self c.sort_unstable.ensures.permutation c.sort_unstable.ensures.sorted
