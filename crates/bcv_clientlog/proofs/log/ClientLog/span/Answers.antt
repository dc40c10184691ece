use Rattle.bcv_clientlog.proofs.Held.{at_rest}
use Rattle.bcv_clientlog.proofs.log.ClientLog.span.Goals as goal

pub returns-clause-leaves : goal.returns-clause-leaves
returns-clause-leaves g c k h image left = at_rest g.D.Disk.shown c.args.self.now.journal h.items h.has k h.are h.room (c.span.ensures.leaves h.items h.has) image left
