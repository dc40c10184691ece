use Rattle.std.proofs.Common.{refl}
use Rattle.bcv_databases.proofs.Ends.{same_over}
use Rattle.bcv_databases.proofs.Slots.{keeps_all}
use Rattle.bcv_databases.proofs.databases.Databases.reserve.Goals as goal

pub returns-clause-same : goal.returns-clause-same
returns-clause-same c = same_over c.args.self.now _ _ c.self.view_is refl c.reserve.ensures.items (keeps_all c.self.inside.sets.items)
