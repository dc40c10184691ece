use Rattle.std.proofs.Common.{◌≡◌, ◌≢◌, ◌+◌, None, length, refl, sym, ap, subst, Result, Err, arith}
use Rattle.bcv_commands.specs.declared.status.Status.{Status}
use Rattle.bcv_commands.specs.declared.status.Status.TheVariants as status
use Rattle.bcv_top.proofs.Causes.{line_end, last_end, caused, caused_by_input, end_line_end, end_caused}
use Rattle.bcv_top.specs.Headline.{HasCauses}
use Rattle.bcv_top.specs.Led.{kept_at}
use Rattle.bcv_top.proofs.Played.{Ended, at_end, at_words, at_causes, played_none, played_few, played_ready, ends_unstarted, ends_limit, ends_fault, ends_memory, ends_line, ends_last, ends_end, goes_on}
use Rattle.bcv_lines.proofs.LineLists.{line_is, last_is}
use Rattle.std.specs.Io.KnownBytes.{IsAtEnd}
use Rattle.std.specs.Prelude.{◌++◌}
use Rattle.bcv_top.proofs.replay.replay_top.Goals as goal

pub returns-in-Err-clause-replays : goal.returns-in-Err-clause-replays
returns-in-Err-clause-replays g c =
    at_end (g.I.Source.left c.args.input.now) (g.I.Source.left c.args.input.now) (g.O.Sink.given c.args.out.now) (g.O.Sink.given c.args.out.now) c.at.result.status status.NoMemory c.at.result.world None c.at.ensures.status c.at.ensures.world
    (ends_unstarted (g.I.Source.left c.args.input.now) (g.O.Sink.given c.args.out.now))

pub lines-init : goal.lines-init
lines-init g c = record {
  played = played_none (g.I.Source.left c.args.input.now) (g.O.Sink.given c.args.out.now) c.in-Ok.reader.chunk c.in-Ok.reader.used c.in-Ok.ensures.0 c.in-Ok.ensures.1;
  unended = c.requires.unended;
  input_later = omega arith;
  output_later = omega arith;
}

pub overflow_add-number : goal.overflow_add-number
overflow_add-number g c =
    let few = played_few (g.I.Source.left c.args.input.now) (g.I.Source.left c.lines.input) (g.O.Sink.given c.args.out.now) (g.O.Sink.given c.lines.out) c.lines.world c.lines.number c.lines.reader.used c.lines.reader.chunk c.lines.invariant.played in
    omega (arith, few)

pub overflow_add-number-in-Last : goal.overflow_add-number-in-Last
overflow_add-number-in-Last g c =
    let few = played_few (g.I.Source.left c.args.input.now) (g.I.Source.left c.lines.input) (g.O.Sink.given c.args.out.now) (g.O.Sink.given c.lines.out) c.lines.world c.lines.number c.lines.reader.used c.lines.reader.chunk c.lines.invariant.played in
    omega (arith, few)

pub say-requires-clause-ready : goal.say-requires-clause-ready
say-requires-clause-ready g c =
    played_ready (g.I.Source.left c.args.input.now) (g.I.Source.left c.lines.input) (g.O.Sink.given c.args.out.now) (g.O.Sink.given c.lines.out) c.lines.world c.lines.number c.lines.reader.used c.lines.reader.chunk c.lines.invariant.played

pub say_last-status-requires-clause-ready : goal.say_last-status-requires-clause-ready
say_last-status-requires-clause-ready g c =
    played_ready (g.I.Source.left c.args.input.now) (g.I.Source.left c.lines.input) (g.O.Sink.given c.args.out.now) (g.O.Sink.given c.lines.out) c.lines.world c.lines.number c.lines.reader.used c.lines.reader.chunk c.lines.invariant.played

pub say-requires-clause-short : goal.say-requires-clause-short
say-requires-clause-short g c =
    let r = c.in-Line.ensures.read in
    let l = line_is c.lines.reader.used (c.lines.reader.chunk ++ r.0) c.next.new.self.line.items c.as_slice-line.result.now c.next.new.self.chunk c.as_slice-line.ensures.value r.2 in
    l.1.is_line.short

pub say_last-status-requires-clause-short : goal.say_last-status-requires-clause-short
say_last-status-requires-clause-short g c =
    let r = c.in-Last.ensures.read in
    let l = last_is c.lines.reader.used (c.lines.reader.chunk ++ r.0) c.next.new.self.line.items c.as_slice-last.result.now (IsAtEnd (g.I.Source.left c.next.new.input)) c.as_slice-last.ensures.value r.2 in
    l.3.is_line.short

pub returns-in-Err-say-clause-words : goal.returns-in-Err-say-clause-words
returns-in-Err-say-clause-words g c =
    let w = c.in-Err-say.ensures.says in
    let end = line_end c.in-Err-say.status (c.lines.number + 1) c.lines.world c.say.new.world c.as_slice-line.result.now w.0 w.2 in
    at_words c.at-in-Err-say.result.status c.in-Err-say.status c.at-in-Err-say.ensures.status end.1

pub returns-in-Err-say-clause-replays : goal.returns-in-Err-say-clause-replays
returns-in-Err-say-clause-replays g c =
    let r = c.in-Line.ensures.read in
    let l = line_is c.lines.reader.used (c.lines.reader.chunk ++ r.0) c.next.new.self.line.items c.as_slice-line.result.now c.next.new.self.chunk c.as_slice-line.ensures.value r.2 in
    let w = c.in-Err-say.ensures.says in
    at_end (g.I.Source.left c.args.input.now) (g.I.Source.left c.next.new.input) (g.O.Sink.given c.args.out.now) (g.O.Sink.given c.say.new.out) c.at-in-Err-say.result.status c.in-Err-say.status c.at-in-Err-say.result.world c.say.new.world c.at-in-Err-say.ensures.status c.at-in-Err-say.ensures.world
    (ends_line (g.I.Source.left c.args.input.now) (g.I.Source.left c.lines.input) (g.O.Sink.given c.args.out.now) (g.O.Sink.given c.lines.out) c.lines.world c.lines.number c.lines.reader.used c.lines.reader.chunk c.lines.invariant.played
    (g.I.Source.left c.next.new.input) r.0 r.1
    (g.O.Sink.given c.say.new.out) c.as_slice-line.result.now c.next.new.self.chunk w.0 c.say.new.world (c.lines.number + 1) c.in-Err-say.status l.0 l.1 refl w.1 w.2)

pub returns-in-Err-say-clause-causes : goal.returns-in-Err-say-clause-causes
returns-in-Err-say-clause-causes g c =
    let w = c.in-Err-say.ensures.says in
    let end = line_end c.in-Err-say.status (c.lines.number + 1) c.lines.world c.say.new.world c.as_slice-line.result.now w.0 w.2 in
    at_causes (g.I.Source.faults c.args.input.now) (g.I.Source.faults c.next.new.input) (g.O.Sink.faults c.args.out.now) (g.O.Sink.faults c.say.new.out) c.at-in-Err-say.result.status c.in-Err-say.status c.at-in-Err-say.ensures.status
    (caused (g.I.Source.faults c.args.input.now) (g.I.Source.faults c.next.new.input) (g.O.Sink.faults c.args.out.now) (g.O.Sink.faults c.lines.out) (g.O.Sink.faults c.say.new.out) c.in-Err-say.status end c.lines.invariant.output_later
    (λ e. c.in-Err-say.ensures.cause (ap (λ (s : Status). let r : Result (Unit {0}) Status = Err s in r) e)))

pub lines-smaller : goal.lines-smaller
lines-smaller g c = let f = c.in-Line.ensures.read.2.1.fits in omega (arith, f, c.in-Line.ensures.counts)

pub lines-preserved : goal.lines-preserved
lines-preserved g c =
    let r = c.in-Line.ensures.read in
    let l = line_is c.lines.reader.used (c.lines.reader.chunk ++ r.0) c.next.new.self.line.items c.as_slice-line.result.now c.next.new.self.chunk c.as_slice-line.ensures.value r.2 in
    let w = c.in-Ok-say.ensures.says in
    let counts : c.next.new.self.used ≡ c.lines.reader.used + length c.as_slice-line.result.now + 1 = omega (arith, c.in-Line.ensures.counts, ap length c.as_slice-line.ensures.value) in
    record {
      played = goes_on (g.I.Source.left c.args.input.now) (g.I.Source.left c.lines.input) (g.O.Sink.given c.args.out.now) (g.O.Sink.given c.lines.out) c.lines.world c.lines.number c.lines.reader.used c.lines.reader.chunk c.lines.invariant.played
          (g.I.Source.left c.next.new.input) r.0 r.1
          (g.O.Sink.given c.say.new.out) c.as_slice-line.result.now c.next.new.self.chunk w.0 c.say.new.world (c.lines.number + 1) c.next.new.self.used l.0 l.1 refl counts w.1 w.2;
      unended = c.in-Line.ensures.goes_on refl;
      input_later = omega (arith, c.lines.invariant.input_later, c.in-Line.ensures.later);
      output_later = omega (arith, c.lines.invariant.output_later, c.say.ensures.later);
    }

pub returns-in-Last-clause-words : goal.returns-in-Last-clause-words
returns-in-Last-clause-words g c =
    let w = c.say_last-status.ensures.says in
    let end = last_end c.say_last-status.result (c.lines.number + 1) c.lines.world c.say_last-status.new.world c.as_slice-last.result.now w.0 w.2 in
    at_words c.at-in-Last.result.status c.say_last-status.result c.at-in-Last.ensures.status end.1

pub returns-in-Last-clause-replays : goal.returns-in-Last-clause-replays
returns-in-Last-clause-replays g c =
    let r = c.in-Last.ensures.read in
    let l = last_is c.lines.reader.used (c.lines.reader.chunk ++ r.0) c.next.new.self.line.items c.as_slice-last.result.now (IsAtEnd (g.I.Source.left c.next.new.input)) c.as_slice-last.ensures.value r.2 in
    let w = c.say_last-status.ensures.says in
    at_end (g.I.Source.left c.args.input.now) (g.I.Source.left c.next.new.input) (g.O.Sink.given c.args.out.now) (g.O.Sink.given c.say_last-status.new.out) c.at-in-Last.result.status c.say_last-status.result c.at-in-Last.result.world c.say_last-status.new.world c.at-in-Last.ensures.status c.at-in-Last.ensures.world
    (ends_last (g.I.Source.left c.args.input.now) (g.I.Source.left c.lines.input) (g.O.Sink.given c.args.out.now) (g.O.Sink.given c.lines.out) c.lines.world c.lines.number c.lines.reader.used c.lines.reader.chunk c.lines.invariant.played
    (g.I.Source.left c.next.new.input) r.0 r.1
    (g.O.Sink.given c.say_last-status.new.out) c.as_slice-last.result.now w.0 c.say_last-status.new.world (c.lines.number + 1) c.say_last-status.result l.0 l.1 l.3 l.2 refl w.1 w.2)

pub returns-in-Last-clause-causes : goal.returns-in-Last-clause-causes
returns-in-Last-clause-causes g c =
    let w = c.say_last-status.ensures.says in
    let end = last_end c.say_last-status.result (c.lines.number + 1) c.lines.world c.say_last-status.new.world c.as_slice-last.result.now w.0 w.2 in
    at_causes (g.I.Source.faults c.args.input.now) (g.I.Source.faults c.next.new.input) (g.O.Sink.faults c.args.out.now) (g.O.Sink.faults c.say_last-status.new.out) c.at-in-Last.result.status c.say_last-status.result c.at-in-Last.ensures.status
    (caused (g.I.Source.faults c.args.input.now) (g.I.Source.faults c.next.new.input) (g.O.Sink.faults c.args.out.now) (g.O.Sink.faults c.lines.out) (g.O.Sink.faults c.say_last-status.new.out) c.say_last-status.result end c.lines.invariant.output_later c.say_last-status.ensures.cause)

pub returns-in-End-clause-words : goal.returns-in-End-clause-words
returns-in-End-clause-words g c = let end = end_line_end c.lines.world in at_words c.at-in-End.result.status c.ended.result c.at-in-End.ensures.status (subst (λ (s : Status). s ≢ status.BadWords) (sym c.ended.ensures) end.1)

pub returns-in-End-clause-replays : goal.returns-in-End-clause-replays
returns-in-End-clause-replays g c =
    let r = c.in-End.ensures.read in
    at_end (g.I.Source.left c.args.input.now) (g.I.Source.left c.next.new.input) (g.O.Sink.given c.args.out.now) (g.O.Sink.given c.lines.out) c.at-in-End.result.status c.ended.result c.at-in-End.result.world c.lines.world c.at-in-End.ensures.status c.at-in-End.ensures.world
    (subst (λ (s : Status). Ended (g.I.Source.left c.args.input.now) (g.I.Source.left c.next.new.input) (g.O.Sink.given c.args.out.now) (g.O.Sink.given c.lines.out) s (kept_at s c.lines.world)) (sym c.ended.ensures)
    (ends_end (g.I.Source.left c.args.input.now) (g.I.Source.left c.lines.input) (g.O.Sink.given c.args.out.now) (g.O.Sink.given c.lines.out) c.lines.world c.lines.number c.lines.reader.used c.lines.reader.chunk c.lines.invariant.played
    (g.I.Source.left c.next.new.input) r.0 r.1 r.2.0 r.2.1))

pub returns-in-End-clause-causes : goal.returns-in-End-clause-causes
returns-in-End-clause-causes g c =
    at_causes (g.I.Source.faults c.args.input.now) (g.I.Source.faults c.next.new.input) (g.O.Sink.faults c.args.out.now) (g.O.Sink.faults c.lines.out) c.at-in-End.result.status c.ended.result c.at-in-End.ensures.status
    (subst (λ (s : Status). HasCauses (g.I.Source.faults c.args.input.now) (g.I.Source.faults c.next.new.input) (g.O.Sink.faults c.args.out.now) (g.O.Sink.faults c.lines.out) s) (sym c.ended.ensures)
    (end_caused (g.I.Source.faults c.args.input.now) (g.I.Source.faults c.next.new.input) (g.O.Sink.faults c.args.out.now) (g.O.Sink.faults c.lines.out) c.lines.world))

pub returns-in-TooLong-clause-replays : goal.returns-in-TooLong-clause-replays
returns-in-TooLong-clause-replays g c =
    let r = c.in-TooLong.ensures.read in
    at_end (g.I.Source.left c.args.input.now) (g.I.Source.left c.next.new.input) (g.O.Sink.given c.args.out.now) (g.O.Sink.given c.lines.out) c.at-in-TooLong.result.status status.TooLong c.at-in-TooLong.result.world c.lines.world c.at-in-TooLong.ensures.status c.at-in-TooLong.ensures.world
    (ends_limit (g.I.Source.left c.args.input.now) (g.I.Source.left c.lines.input) (g.O.Sink.given c.args.out.now) (g.O.Sink.given c.lines.out) c.lines.world c.lines.number c.lines.reader.used c.lines.reader.chunk c.lines.invariant.played
    (g.I.Source.left c.next.new.input) r.0 r.1 r.2)

pub returns-in-ReadFault-clause-replays : goal.returns-in-ReadFault-clause-replays
returns-in-ReadFault-clause-replays g c =
    let r = c.in-ReadFault.ensures.read in
    at_end (g.I.Source.left c.args.input.now) (g.I.Source.left c.next.new.input) (g.O.Sink.given c.args.out.now) (g.O.Sink.given c.lines.out) c.at-in-ReadFault.result.status status.ReadFault c.at-in-ReadFault.result.world c.lines.world c.at-in-ReadFault.ensures.status c.at-in-ReadFault.ensures.world
    (ends_fault (g.I.Source.left c.args.input.now) (g.I.Source.left c.lines.input) (g.O.Sink.given c.args.out.now) (g.O.Sink.given c.lines.out) c.lines.world c.lines.number c.lines.reader.used c.lines.reader.chunk c.lines.invariant.played
    (g.I.Source.left c.next.new.input) r.0 r.1 r.2)

pub returns-in-ReadFault-clause-causes : goal.returns-in-ReadFault-clause-causes
returns-in-ReadFault-clause-causes g c =
    at_causes (g.I.Source.faults c.args.input.now) (g.I.Source.faults c.next.new.input) (g.O.Sink.faults c.args.out.now) (g.O.Sink.faults c.lines.out) c.at-in-ReadFault.result.status status.ReadFault c.at-in-ReadFault.ensures.status
    (caused_by_input (g.I.Source.faults c.args.input.now) (g.I.Source.faults c.lines.input) (g.I.Source.faults c.next.new.input) (g.O.Sink.faults c.args.out.now) (g.O.Sink.faults c.lines.out) c.lines.invariant.input_later (c.in-ReadFault.ensures.cause refl))

pub returns-in-NoMemory-clause-replays : goal.returns-in-NoMemory-clause-replays
returns-in-NoMemory-clause-replays g c =
    let r = c.in-NoMemory.ensures.read in
    at_end (g.I.Source.left c.args.input.now) (g.I.Source.left c.next.new.input) (g.O.Sink.given c.args.out.now) (g.O.Sink.given c.lines.out) c.at-in-NoMemory.result.status status.NoMemory c.at-in-NoMemory.result.world c.lines.world c.at-in-NoMemory.ensures.status c.at-in-NoMemory.ensures.world
    (ends_memory (g.I.Source.left c.args.input.now) (g.I.Source.left c.lines.input) (g.O.Sink.given c.args.out.now) (g.O.Sink.given c.lines.out) c.lines.world c.lines.number c.lines.reader.used c.lines.reader.chunk c.lines.invariant.played
    (g.I.Source.left c.next.new.input) r.0 r.1)
