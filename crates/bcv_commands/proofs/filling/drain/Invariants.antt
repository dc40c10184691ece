use Rattle.std.proofs.Common.{◌≡◌, ℕ, false, ◌≤◌, ◌+◌, ◌-◌, List, length}
use Rattle.std.specs.Io.KnownBytes.{Consumes}
use Rattle.bcv_commands.proofs.filling.drain.Given as goal

abbrev pub invariant-draining : goal.invariant-draining
invariant-draining g l = record {
  taken : List ℕ;
  consumes : Consumes (g.I.Source.left l.initial.input) (g.I.Source.left l.input) taken;
  count : l.length ≡ l.before + length taken;
  room : length l.room ≡ 512;
  within : l.length ≤ 268435456;
  unended : g.I.Source.ended l.input ≡ false;
  later : g.I.Source.faults l.initial.input ≤ g.I.Source.faults l.input;
}

abbrev pub decreases-draining : goal.decreases-draining
decreases-draining g l = 268435456 - l.length
