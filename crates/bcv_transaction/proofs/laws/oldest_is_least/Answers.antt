use Rattle.bcv_transaction.proofs.FitLaws.{oldest_is_least}
use Rattle.bcv_transaction.proofs.laws.oldest_is_least.Goals as goal

pub returns : goal.returns
returns c = oldest_is_least
