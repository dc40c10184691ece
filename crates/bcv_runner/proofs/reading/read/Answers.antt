use Rattle.std.proofs.Common.{sym}
use Rattle.bcv_runner.specs.ReadAsks.{DatabaseIsRead}
use Rattle.bcv_runner.proofs.TalkJoins.{goes_on, stops, was_read}
use Rattle.bcv_runner.proofs.reading.read.Goals as goal

pub returns-then-not-is_polled-clause-talk : goal.returns-then-not-is_polled-clause-talk
returns-then-not-is_polled-clause-talk g c =
    let d = g.D.Disk in
    let t = stops d.told d.shown g.S.Store.told (DatabaseIsRead d.told d.shown g.S.Store.told c.args.db c.args.offset c.args.length) c.run_task-polled.result c.ended.result _ _ c.run_task-polled.ensures.asks
    (sym c.if-not-is_polled.ensures) c.ended.ensures.ending in
    record { exchanges = t.0; talks = t.1; asks = t.2 }

pub returns-clause-talk : goal.returns-clause-talk
returns-clause-talk g c =
    let d = g.D.Disk in
    let t = goes_on d.told d.shown g.S.Store.told (DatabaseIsRead d.told d.shown g.S.Store.told c.args.db c.args.offset c.args.length) c.run_task-polled.result c.read_database.result _ _ _ c.run_task-polled.ensures.asks
    (sym c.if-not-is_polled.ensures) (was_read d.told d.shown g.S.Store.told c.args.db c.args.offset c.args.length c.read_database.result _ _ c.read_database.ensures.talk) in
    record { exchanges = t.0; talks = t.1; asks = t.2 }
