use Rattle.std.proofs.Common.{rules}
use Rattle.bcv_daemon.proofs.Ending.{ends_at}
use Rattle.bcv_daemon.proofs.connection.Connection.end_sessions.Goals as goal

pub loop-session-preserved : goal.loop-session-preserved
loop-session-preserved g c =
    let e = c.call.ensures in
    record {
      client = e.client;
      ends = ends_at g.D.Disk.told g.D.Disk.shown g.S.Store.told _ _ _ c.deref-session-items.result.now c.loop-session.session-index _ c.call.result (search rules)
          c.loop-session.invariant.ends (record { same = e.same; disk = e.disk; causes = e.causes; asks = e.asks; falls = e.falls; counted = e.counted; caches = e.caches });
    }
