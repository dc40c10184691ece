use Rattle.bcv_client.specs.InForm.{IsClient}
use Rattle.bcv_client.specs.RangeReads.{point}
use Rattle.bcv_daemon.specs.Served.{ServedOn}
use Rattle.bcv_daemon.proofs.connections.serve_connections.Given as goal

abbrev pub invariant-loop-served : goal.invariant-loop-served
invariant-loop-served g l = record {
  client : IsClient l.daemon.client;
  on :
      ServedOn g.D.Disk.told g.D.Disk.shown g.S.Store.told
      (point l.initial.daemon.client (g.S.Store.shown l.initial.outside.store) (g.N.Names.shown l.initial.outside.names) (g.C.Clock.shown l.initial.outside.clock))
      l.served
      (point l.daemon.client (g.S.Store.shown l.outside.store) (g.N.Names.shown l.outside.names) (g.C.Clock.shown l.outside.clock));
}
