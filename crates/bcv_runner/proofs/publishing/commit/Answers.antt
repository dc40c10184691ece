use Rattle.std.proofs.Common.{sym}
use Rattle.bcv_runner.specs.CommandAsks.{CommitsFilled}
use Rattle.bcv_runner.proofs.TalkJoins.{committed, goes_on, stops}
use Rattle.bcv_runner.proofs.publishing.commit.Goals as goal

pub returns-then-not-is_polled-clause-talk : goal.returns-then-not-is_polled-clause-talk
returns-then-not-is_polled-clause-talk g c =
    let d = g.D.Disk in
    let t = stops d.told d.shown g.S.Store.told (CommitsFilled d.told d.shown g.S.Store.told c.args.db c.args.size c.args.pages) c.run_task-polled.result c.ended.result _ _ c.run_task-polled.ensures.asks
    (sym c.if-not-is_polled.ensures) c.ended.ensures.ending in
    record { exchanges = t.0; talks = t.1; asks = t.2 }

pub returns-clause-talk : goal.returns-clause-talk
returns-clause-talk g c =
    let d = g.D.Disk in
    let t = goes_on d.told d.shown g.S.Store.told (CommitsFilled d.told d.shown g.S.Store.told c.args.db c.args.size c.args.pages) c.run_task-polled.result c.commit_filled.result _ _ _ c.run_task-polled.ensures.asks
    (sym c.if-not-is_polled.ensures) (committed d.told d.shown g.S.Store.told c.args.db c.args.size c.args.pages c.commit_filled.result _ _ c.commit_filled.ensures.talk) in
    record { exchanges = t.0; talks = t.1; asks = t.2 }
