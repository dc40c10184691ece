use Rattle.bcv_databases.specs.Catalog.{Catalog}
use Rattle.bcv_databases.specs.Sound.{KeepsViews}
use Rattle.std.proofs.Common.{subst}
use Rattle.bcv_databases.proofs.Slots.{keeps_all}
use Rattle.bcv_databases.proofs.databases.Databases.end_pending.Goals as goal

pub returns-in_default-clause-views : goal.returns-in_default-clause-views
returns-in_default-clause-views c = subst (λ (k : Catalog). KeepsViews k.sets c.self.inside.sets.items) c.self.view_is (keeps_all c.self.inside.sets.items)

pub returns-in_default-upload-clause-views : goal.returns-in_default-upload-clause-views
returns-in_default-upload-clause-views c = subst (λ (k : Catalog). KeepsViews k.sets c.self.inside.sets.items) c.self.view_is (keeps_all c.self.inside.sets.items)
