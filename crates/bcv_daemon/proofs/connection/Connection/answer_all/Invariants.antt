use Rattle.std.proofs.Common.{ℕ, ◌≤◌, List, [], length}
use Rattle.std.specs.Io.KnownBytes.{Appends}
use Rattle.bcv_client.specs.InForm.{IsClient}
use Rattle.bcv_client.specs.RangeReads.{point}
use Rattle.bcv_daemon.specs.Connections.{Serves}
use Rattle.bcv_daemon.proofs.connection.Connection.answer_all.Given as goal

abbrev pub invariant-messages : goal.invariant-messages
invariant-messages g l = record {
  client : IsClient l.client;
  served :
      (written : List ℕ) × Appends (g.O.Sink.given l.initial.out) (g.O.Sink.given l.out) written
      × Serves g.D.Disk.told g.D.Disk.shown g.S.Store.told
      (point l.initial.client (g.S.Store.shown l.initial.outside.store) (g.N.Names.shown l.initial.outside.names) (g.C.Clock.shown l.initial.outside.clock))
      (point l.client (g.S.Store.shown l.outside.store) (g.N.Names.shown l.outside.names) (g.C.Clock.shown l.outside.clock))
      l.initial.self l.self [] written l.self.pending.items;
  later : g.O.Sink.faults l.initial.out ≤ g.O.Sink.faults l.out;
}

abbrev pub decreases-messages : goal.decreases-messages
decreases-messages g l = length l.self.inbox
