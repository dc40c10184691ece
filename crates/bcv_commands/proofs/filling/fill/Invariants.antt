use Rattle.std.proofs.Common.{◌≡◌, false, ◌≤◌, ◌+◌, ◌-◌, length, take}
use Rattle.std.specs.Io.KnownBytes.{Consumes}
use Rattle.bcv_commands.proofs.filling.fill.Given as goal

abbrev pub invariant-filling : goal.invariant-filling
invariant-filling g l = record {
  consumes : Consumes (g.I.Source.left l.initial.input) (g.I.Source.left l.input) (take l.count l.slice);
  front : l.count ≤ length l.slice;
  len : length l.slice ≡ length l.initial.slice;
  within : l.before + l.count ≤ 268435456;
  unended : g.I.Source.ended l.input ≡ false;
  later : g.I.Source.faults l.initial.input ≤ g.I.Source.faults l.input;
}

abbrev pub decreases-filling : goal.decreases-filling
decreases-filling g l = length l.slice - l.count
