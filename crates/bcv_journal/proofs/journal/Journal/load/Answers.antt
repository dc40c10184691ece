use Rattle.std.proofs.Common.{refl}
use Rattle.bcv_journal.proofs.Appended.{ready_loads}
use Rattle.bcv_journal.proofs.journal.Journal.load.Goals as goal

pub returns-in-Ok : goal.returns-in-Ok
returns-in-Ok g c = ready_loads g.D.Disk.told g.D.Disk.shown c.args.disk _ c.in-Ok.items refl c.in-Ok.ensures
