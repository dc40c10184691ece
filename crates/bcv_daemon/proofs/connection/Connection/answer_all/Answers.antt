use Rattle.std.proofs.Common.{◌++◌, [], ap, length, refl, arith}
use Rattle.std.proofs.KnownBytes.{Appends-nil, Appends-trans}
use Rattle.bcv_daemon.proofs.MessageRuns.{serves_begin, serves_more, serves_wrote, stops_join, stops_last, stops_pending, waits}
use Rattle.bcv_daemon.proofs.connection.Connection.answer_all.Goals as goal

pub messages-init : goal.messages-init
messages-init g c =
    record {
      client = c.requires.client;
      served = ([], Appends-nil (g.O.Sink.given c.args.out.now), serves_begin g.D.Disk.told g.D.Disk.shown g.S.Store.told _ c.args.self.now);
      later = omega arith;
    }

pub messages-smaller : goal.messages-smaller
messages-smaller g c = omega (arith, c.in-Answered.ensures.next.1, ap length c.in-Ok.ensures.others.inbox)

pub messages-preserved : goal.messages-preserved
messages-preserved g c =
    let inv = c.messages.invariant in
    let w = c.in-Ok.ensures.writes in
    record {
      client = c.in-Answered.ensures.client;
      served = (
        inv.served.0 ++ w.0,
        Appends-trans _ _ _ inv.served.0 w.0 inv.served.1 w.1,
        serves_more g.D.Disk.told g.D.Disk.shown g.S.Store.told _ _ _ c.args.self.now c.messages.self _ [] inv.served.0 _ w.0 _ inv.served.2 refl
            (serves_wrote g.D.Disk.told g.D.Disk.shown g.S.Store.told _ _ c.messages.self c.next.new.self _ [] [] _ w.0 _ c.in-Answered.ensures.next.0 c.in-Ok.ensures.others w.2),
      );
      later = omega (arith, inv.later, c.in-Ok.ensures.later);
    }

pub returns-in-Err-clause-answers : goal.returns-in-Err-clause-answers
returns-in-Err-clause-answers g c =
    let inv = c.messages.invariant in
    let w = c.in-Err.ensures.writes in (
      inv.served.0 ++ w.0,
      Appends-trans _ _ _ inv.served.0 w.0 inv.served.1 w.1,
      stops_join g.D.Disk.told g.D.Disk.shown g.S.Store.told _ _ _ c.args.self.now c.messages.self _ [] inv.served.0 _ w.0 c.in-Err.end inv.served.2 refl
          (stops_pending g.D.Disk.told g.D.Disk.shown g.S.Store.told _ _ c.messages.self c.next.new.self _ [] [] _ _ w.0 c.in-Err.end c.in-Answered.ensures.next.0 c.in-Err.ensures.others w.2),
    )

pub returns-in-Waits-clause-answers : goal.returns-in-Waits-clause-answers
returns-in-Waits-clause-answers g c =
    let inv = c.messages.invariant in
    let w = c.write_pending.ensures.writes in (
      inv.served.0 ++ w.0,
      Appends-trans _ _ _ inv.served.0 w.0 inv.served.1 w.1,
      waits g.D.Disk.told g.D.Disk.shown g.S.Store.told _ _ _ c.args.self.now c.messages.self c.next.new.self _ inv.served.0 w.0 c.write_pending.result inv.served.2 c.in-Waits.ensures.next
          c.write_pending.ensures.others w.2 c.write_pending.ensures.all,
    )

pub returns-in-Ends-clause-answers : goal.returns-in-Ends-clause-answers
returns-in-Ends-clause-answers g c =
    let inv = c.messages.invariant in
    let w = c.write_last.ensures.writes in (
      inv.served.0 ++ w.0,
      Appends-trans _ _ _ inv.served.0 w.0 inv.served.1 w.1,
      stops_last g.D.Disk.told g.D.Disk.shown g.S.Store.told _ _ _ c.args.self.now c.messages.self c.next.new.self _ inv.served.0 w.0 c.in-Ends.end c.write_last.result inv.served.2
          c.in-Ends.ensures.next c.write_last.ensures.others w.2,
    )
