use Rattle.bcv_tasks.proofs.Owned.{owned_stays}
use Rattle.bcv_tasks.proofs.laws.owned_stays.Goals as goal

pub returns : goal.returns
returns c = owned_stays
