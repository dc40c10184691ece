use Rattle.std.proofs.Common.{◌≡◌, rules, subst}
use Rattle.bcv_clientlog.proofs.Held.{at_rest}
use Rattle.bcv_clientlog.proofs.log.ClientLog.down.Goals as goal

pub returns-clause-leaves : goal.returns-clause-leaves
returns-clause-leaves g c k h image left =
    let shown = g.D.Disk.shown in
    let same : c.down.result ≡ c.args.self.journal.disk = (search rules) in
    at_rest shown c.args.self.journal h.items h.has k h.are h.room (c.span.ensures.leaves h.items h.has) image (subst (λ (d : _). (shown d).may_leave image) same left)
