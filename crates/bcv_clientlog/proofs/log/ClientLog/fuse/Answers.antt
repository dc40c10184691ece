use Rattle.std.proofs.Common.{refl}
use Rattle.bcv_clientlog.proofs.LogNoted.{planned}
use Rattle.bcv_clientlog.proofs.log.ClientLog.fuse.Goals as goal

pub returns : goal.returns
returns g c = planned g.D.Disk.shown c.args.self.now _ _ c.fuse.ensures refl refl
