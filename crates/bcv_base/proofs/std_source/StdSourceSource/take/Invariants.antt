-- A read that was cut short takes nothing.
use Rattle.std.proofs.Common.{◌≡◌}
use Rattle.std.specs.Io.KnownBytes.{Keeps}
use Rattle.bcv_base.proofs.std_source.StdSourceSource.take.Given as goal

abbrev pub invariant-loop : goal.invariant-loop
invariant-loop g l = record {
  kept : Keeps (g.R.Read.remaining l.initial.self.inner) (g.R.Read.remaining l.self.inner);
  unended : l.self.ended ≡ l.initial.self.ended;
  faults : l.self.faults ≡ l.initial.self.faults;
}
