use Rattle.bcv_transaction.proofs.FitLaws.{parts_are_seen}
use Rattle.bcv_transaction.proofs.laws.transactions_are_parts.Goals as goal

pub returns : goal.returns
returns c = parts_are_seen
