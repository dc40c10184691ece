use Rattle.bcv_journal.proofs.Unique.{ends_load, ends_once}
use Rattle.bcv_journal.proofs.layout.tail_once.Goals as goal

pub returns-clause-loads : goal.returns-clause-loads
returns-clause-loads c = ends_load

pub returns-clause-once : goal.returns-clause-once
returns-clause-once c = ends_once
