use Rattle.std.proofs.Common.{◌++◌, [], ap, length, length-append, refl, subst, sym, arith}
use Rattle.bcv_proto.specs.Messages.{IsCut}
use Rattle.std.proofs.KnownBytes.{Appends-nil, Appends-trans, Consumes-nil, Consumes-trans, Consumes-kept}
use Rattle.bcv_daemon.proofs.Cuts.{cut_short}
use Rattle.bcv_daemon.proofs.MessageRuns.{counts_same, ends_with_input, serves_as, serves_came, serves_more, serves_none, stops_join, stops_up}
use Rattle.bcv_daemon.proofs.serving.serve.Goals as goal

pub pieces-init : goal.pieces-init
pieces-init g c =
    record {
      client = c.requires.client;
      unended = c.requires.unended;
      none = c.requires.none;
      served = ([], [], Consumes-nil (g.I.Source.left c.args.input.now), Appends-nil (g.O.Sink.given c.args.out.now), serves_none g.D.Disk.told g.D.Disk.shown g.S.Store.told _ c.args.connection.now c.requires.none);
      input_later = omega arith;
      output_later = omega arith;
    }

pub returns-in-Err-clause-serves : goal.returns-in-Err-clause-serves
returns-in-Err-clause-serves g c =
    let s = c.pieces.invariant.served in
    let w = c.in-Err.ensures.answers in (
      s.0,
      s.1 ++ w.0,
      s.2,
      Appends-trans _ _ _ s.1 w.0 s.3 w.1,
      stops_up g.D.Disk.told g.D.Disk.shown g.S.Store.told _ _ c.args.connection.now c.answer_all.new.self s.0 (s.1 ++ w.0) _ c.in-Err.end
          (stops_join g.D.Disk.told g.D.Disk.shown g.S.Store.told _ _ _ c.args.connection.now c.pieces.connection c.answer_all.new.self s.0 s.1 [] w.0 c.in-Err.end s.4 c.pieces.invariant.none w.2),
    )

pub pieces-preserved : goal.pieces-preserved
pieces-preserved g c =
    let inv = c.pieces.invariant in
    let s = inv.served in
    let w = c.in-Ok.ensures.answers in
    let r = c.in-Some.ensures.bytes in
    record {
      client = c.answer_all.ensures.client;
      unended = c.in-Some.ensures.ends;
      none = w.2.1;
      served = (
        s.0 ++ r.more,
        s.1 ++ w.0,
        Consumes-trans _ _ _ s.0 r.more s.2 r.consumes,
        Appends-trans _ _ _ s.1 w.0 s.3 w.1,
        serves_came g.D.Disk.told g.D.Disk.shown g.S.Store.told _ _ c.args.connection.now c.answer_all.new.self _ s.0 (s.1 ++ w.0) [] r.more
            (serves_more g.D.Disk.told g.D.Disk.shown g.S.Store.told _ _ _ c.args.connection.now c.pieces.connection c.answer_all.new.self s.0 s.1 [] w.0 [] s.4 inv.none w.2.0)
            r.joined refl refl,
      );
      input_later = omega (arith, inv.input_later, c.in-Some.ensures.cause);
      output_later = omega (arith, inv.output_later, c.answer_all.ensures.later);
    }

pub pieces-smaller : goal.pieces-smaller
pieces-smaller g c =
    let w = c.in-Ok.ensures.answers in
    let r = c.in-Some.ensures.bytes in
    omega (
      arith,
      counts_same g.D.Disk.told g.D.Disk.shown g.S.Store.told _ _ c.pieces.connection c.answer_all.new.self w.0 [] w.2.0,
      ap length r.joined,
      length-append c.answer_all.new.self.inbox r.more,
      r.some,
      cut_short c.answer_all.new.self.inbox w.2.3,
      w.2.2,
    )

pub refill-requires-clause-room : goal.refill-requires-clause-room
refill-requires-clause-room g c = omega (arith, cut_short c.answer_all.new.self.inbox c.in-Ok.ensures.answers.2.3)

pub returns-in-End-clause-serves : goal.returns-in-End-clause-serves
returns-in-End-clause-serves g c =
    let inv = c.pieces.invariant in
    let s = inv.served in
    let w = c.in-Ok.ensures.answers in
    let r = c.in-End.ensures.bytes in (
      s.0,
      s.1 ++ w.0,
      Consumes-kept _ _ _ s.0 s.2 r.2,
      Appends-trans _ _ _ s.1 w.0 s.3 w.1,
      ends_with_input g.D.Disk.told g.D.Disk.shown g.S.Store.told _ _ c.args.connection.now c.answer_all.new.self _ s.0 (s.1 ++ w.0) _ c.ended.result
          (serves_more g.D.Disk.told g.D.Disk.shown g.S.Store.told _ _ _ c.args.connection.now c.pieces.connection c.answer_all.new.self s.0 s.1 [] w.0 [] s.4 inv.none w.2.0)
          (record { inbox = r.0; sessions = refl; used = refl }) w.2.2 r.1 w.2.3 c.ended.ensures,
    )

pub returns-in-Failed-clause-serves : goal.returns-in-Failed-clause-serves
returns-in-Failed-clause-serves g c =
    let inv = c.pieces.invariant in
    let s = inv.served in
    let w = c.in-Ok.ensures.answers in
    let r = c.in-Failed.ensures.bytes in (
      s.0,
      s.1 ++ w.0,
      Consumes-kept _ _ _ s.0 s.2 r.1,
      Appends-trans _ _ _ s.1 w.0 s.3 w.1,
      (
        serves_as g.D.Disk.told g.D.Disk.shown g.S.Store.told _ _ c.args.connection.now c.answer_all.new.self _ s.0 (s.1 ++ w.0) []
            (serves_more g.D.Disk.told g.D.Disk.shown g.S.Store.told _ _ _ c.args.connection.now c.pieces.connection c.answer_all.new.self s.0 s.1 [] w.0 [] s.4 inv.none w.2.0)
            (record { inbox = r.0; sessions = refl; used = refl }),
        w.2.2,
        subst (λ l. IsCut l) (sym r.0) w.2.3,
      ),
    )
