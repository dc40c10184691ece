use Rattle.bcv_daemon.proofs.ServedAll.{on_more}
use Rattle.bcv_daemon.proofs.connections.serve_connections.Goals as goal

pub loop-served-preserved : goal.loop-served-preserved
loop-served-preserved g c = record {
  client = c.serve_stream.ensures.client;
  on = on_more g.D.Disk.told g.D.Disk.shown g.S.Store.told _ _ _ c.loop-served.served c.loop-served.invariant.on c.serve_stream.ensures.served;
}
