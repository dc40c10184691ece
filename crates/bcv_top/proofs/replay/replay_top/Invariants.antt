use Rattle.std.proofs.Common.{◌≡◌, false, ◌≤◌, ◌-◌}
use Rattle.bcv_top.proofs.Played.{Played}
use Rattle.bcv_top.proofs.replay.replay_top.Given as goal

abbrev pub invariant-lines : goal.invariant-lines
invariant-lines g l = record {
  played : Played (g.I.Source.left l.initial.input) (g.I.Source.left l.input) (g.O.Sink.given l.initial.out) (g.O.Sink.given l.out) l.world l.number l.reader.used l.reader.chunk;
  unended : g.I.Source.ended l.input ≡ false;
  input_later : g.I.Source.faults l.initial.input ≤ g.I.Source.faults l.input;
  output_later : g.O.Sink.faults l.initial.out ≤ g.O.Sink.faults l.out;
}

abbrev pub decreases-lines : goal.decreases-lines
decreases-lines g l = 67108864 - l.reader.used
