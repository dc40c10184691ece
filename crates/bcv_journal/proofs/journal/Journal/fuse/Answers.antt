use Rattle.std.proofs.Common.{refl}
use Rattle.bcv_journal.proofs.Appended.{planned_journal}
use Rattle.bcv_journal.proofs.journal.Journal.fuse.Goals as goal

pub returns : goal.returns
returns g c = planned_journal g.D.Disk.shown c.args.self.now _ _ c.fuse.ensures refl refl
