use Rattle.std.proofs.Common.{◌++◌, ◌∙◌, take}
use Rattle.std.proofs.KnownBytes.{Appends-trans}
use Rattle.bcv_output.proofs.Writer.{wrote_more, wrote_front, wrote_nothing, some_left}
use Rattle.bcv_output.proofs.write_all.Goals as goal

pub loop-rest-preserved : goal.loop-rest-preserved
loop-rest-preserved g c =
    let inv = c.loop-rest.invariant in
    let rest = c.loop-rest.rest.now in
    record {
      written = inv.written ++ take c.in-Some.count rest;
      appends = Appends-trans (g.O.Sink.given c.args.out.now) (g.O.Sink.given c.loop-rest.out) (g.O.Sink.given c.give.new.self) inv.written (take c.in-Some.count rest) inv.appends c.in-Some.ensures.bytes.2;
      joined = wrote_more inv.written rest c.args.text.now c.after-left.result.now c.in-Some.count inv.joined c.after-left.ensures;
      steady = c.in-Some.ensures.cause ∙ inv.steady;
    }

pub returns-in-Failed-clause-bytes : goal.returns-in-Failed-clause-bytes
returns-in-Failed-clause-bytes g c =
    wrote_front (g.O.Sink.given c.args.out.now) (g.O.Sink.given c.loop-rest.out) (g.O.Sink.given c.give.new.self) c.loop-rest.invariant.written c.loop-rest.rest.now c.args.text.now c.loop-rest.invariant.appends c.loop-rest.invariant.joined
    (some_left c.loop-rest.rest.now c.loop-rest-test.ensures) c.in-Failed.ensures.bytes

pub returns-in-NoMemory-clause-bytes : goal.returns-in-NoMemory-clause-bytes
returns-in-NoMemory-clause-bytes g c =
    wrote_nothing (g.O.Sink.given c.args.out.now) (g.O.Sink.given c.loop-rest.out) (g.O.Sink.given c.give.new.self) c.loop-rest.invariant.written c.loop-rest.rest.now c.args.text.now c.loop-rest.invariant.appends c.loop-rest.invariant.joined
    (some_left c.loop-rest.rest.now c.loop-rest-test.ensures) c.in-NoMemory.ensures.bytes
