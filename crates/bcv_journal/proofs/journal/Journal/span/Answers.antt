use Rattle.bcv_journal.proofs.Append.{settled_ends}
use Rattle.bcv_journal.proofs.journal.Journal.span.Goals as goal

pub returns-clause-leaves : goal.returns-clause-leaves
returns-clause-leaves g c items has = settled_ends (g.D.Disk.shown c.args.self.now.disk) c.args.self.now.area items has.1
