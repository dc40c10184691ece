use Rattle.std.proofs.Common.{◌≡◌, ℕ, ◌+◌, ◌-◌, ◌≤◌, ◌^◌, false, List, [], length}
use Rattle.std.specs.Io.KnownBytes.{Appends, Consumes}
use Rattle.bcv_client.specs.InForm.{IsClient}
use Rattle.bcv_client.specs.RangeReads.{point}
use Rattle.bcv_daemon.specs.Connections.{Serves}
use Rattle.bcv_daemon.proofs.serving.serve.Given as goal

abbrev pub invariant-pieces : goal.invariant-pieces
invariant-pieces g l = record {
  client : IsClient l.client;
  unended : g.I.Source.ended l.input ≡ false;
  none : l.connection.pending.items ≡ [];
  served :
      (taken : List ℕ) × (written : List ℕ)
      × Consumes (g.I.Source.left l.initial.input) (g.I.Source.left l.input) taken
      × Appends (g.O.Sink.given l.initial.out) (g.O.Sink.given l.out) written
      × Serves g.D.Disk.told g.D.Disk.shown g.S.Store.told
      (point l.initial.client (g.S.Store.shown l.initial.outside.store) (g.N.Names.shown l.initial.outside.names) (g.C.Clock.shown l.initial.outside.clock))
      (point l.client (g.S.Store.shown l.outside.store) (g.N.Names.shown l.outside.names) (g.C.Clock.shown l.outside.clock))
      l.initial.connection l.connection taken written [];
  input_later : g.I.Source.faults l.initial.input ≤ g.I.Source.faults l.input;
  output_later : g.O.Sink.faults l.initial.out ≤ g.O.Sink.faults l.out;
}

abbrev pub decreases-pieces : goal.decreases-pieces
decreases-pieces g l = (2 ^ 63 + 73) - (l.connection.used + length l.connection.inbox)
