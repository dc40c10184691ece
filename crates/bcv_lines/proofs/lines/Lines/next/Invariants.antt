use Rattle.std.proofs.Common.{◌≡◌, false, ◌≤◌, ◌+◌, ◌-◌, length}
use Rattle.bcv_lines.specs.Reading.{FitsFront}
use Rattle.bcv_lines.proofs.Reader.{Took}
use Rattle.bcv_lines.proofs.lines.Lines.next.Given as goal

abbrev pub invariant-loop-self : goal.invariant-loop-self
invariant-loop-self g l = record {
  took : Took (g.I.Source.left l.initial.input) (g.I.Source.left l.input) l.initial.self.chunk l.self.line.items l.self.chunk;
  front : FitsFront l.self.used l.self.line.items;
  used : l.self.used ≡ l.initial.self.used;
  unended : g.I.Source.ended l.input ≡ false;
  later : g.I.Source.faults l.initial.input ≤ g.I.Source.faults l.input;
}

abbrev pub decreases-loop-self : goal.decreases-loop-self
decreases-loop-self g l = (1048577 - length l.self.line.items) + (1 - length l.self.chunk)
