use Rattle.bcv_cleanup.proofs.PutLaws.{nothing_is_complete}
use Rattle.bcv_cleanup.proofs.laws.nothing_is_complete.Goals as goal

pub returns : goal.returns
returns c = nothing_is_complete
