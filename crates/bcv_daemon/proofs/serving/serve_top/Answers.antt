use Rattle.std.proofs.Common.{[]}
use Rattle.std.proofs.KnownBytes.{Appends-nil, Consumes-nil}
use Rattle.bcv_daemon.proofs.ServedAll.{served, unserved}
use Rattle.bcv_daemon.proofs.serving.serve_top.Goals as goal

pub returns-in-Err-clause-serves : goal.returns-in-Err-clause-serves
returns-in-Err-clause-serves g c =
    ([], [], Consumes-nil (g.I.Source.left c.args.input.now), Appends-nil (g.O.Sink.given c.args.out.now), unserved g.D.Disk.told g.D.Disk.shown g.S.Store.told _ _ c.talks_are_runs.ensures.runs)

pub returns-clause-serves : goal.returns-clause-serves
returns-clause-serves g c =
    let s = c.serve-end.ensures.serves in (
      s.0,
      s.1,
      s.2,
      s.3,
      served g.D.Disk.told g.D.Disk.shown g.S.Store.told _ _ _ c.in-Ok.connection c.serve-end.new.connection s.0 s.1 _ c.serve-end.result c.in-Ok.ensures s.4
          c.end_sessions.ensures.ends c.talks_are_runs.ensures.runs,
    )
