use Rattle.std.proofs.Common.{◌≡◌, false, ◌≤◌, ◌-◌}
use Rattle.bcv_commands.proofs.PairsTaken.{PairsTaken}
use Rattle.bcv_commands.proofs.pairs.read_pairs.Given as goal

abbrev pub invariant-lines : goal.invariant-lines
invariant-lines g l = record {
  pairs : PairsTaken (g.I.Source.left l.initial.input) (g.I.Source.left l.input) l.pairs.items l.after l.reader.used l.reader.chunk;
  unended : g.I.Source.ended l.input ≡ false;
  later : g.I.Source.faults l.initial.input ≤ g.I.Source.faults l.input;
}

abbrev pub decreases-lines : goal.decreases-lines
decreases-lines g l = 67108864 - l.reader.used
