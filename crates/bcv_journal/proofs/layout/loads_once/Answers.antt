use Rattle.bcv_journal.proofs.Unique.{Loads-once}
use Rattle.bcv_journal.proofs.layout.loads_once.Goals as goal

pub returns : goal.returns
returns c = Loads-once
