use Rattle.std.proofs.Common.{take}
use Rattle.bcv_client.specs.InForm.{IsClient}
use Rattle.bcv_daemon.specs.Connections.{EndsAll}
use Rattle.bcv_client.specs.RangeReads.{point}
use Rattle.bcv_daemon.proofs.connection.Connection.end_sessions.Given as goal

abbrev pub invariant-loop-session : goal.invariant-loop-session
invariant-loop-session g l = record {
  client : IsClient l.client;
  ends :
      EndsAll g.D.Disk.told g.D.Disk.shown g.S.Store.told
      (point l.initial.client (g.S.Store.shown l.initial.outside.store) (g.N.Names.shown l.initial.outside.names) (g.C.Clock.shown l.initial.outside.clock))
      (take l.session-index l.session-items)
      (point l.client (g.S.Store.shown l.outside.store) (g.N.Names.shown l.outside.names) (g.C.Clock.shown l.outside.clock));
}
