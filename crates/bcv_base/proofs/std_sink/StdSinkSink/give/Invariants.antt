-- A write that was cut short adds nothing.
use Rattle.std.proofs.Common.{◌≡◌}
use Rattle.std.specs.Io.KnownBytes.{Keeps}
use Rattle.bcv_base.proofs.std_sink.StdSinkSink.give.Given as goal

abbrev pub invariant-loop : goal.invariant-loop
invariant-loop g l = record {
  kept : Keeps (g.W.Write.contents l.initial.self.inner) (g.W.Write.contents l.self.inner);
  faults : l.self.faults ≡ l.initial.self.faults;
}
