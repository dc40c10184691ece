use Rattle.std.proofs.Common.{sym}
use Rattle.bcv_model.specs.declared.ask.Ask.TheVariants as ask
use Rattle.bcv_runner.specs.CommandAsks.{AsksLast}
use Rattle.bcv_runner.proofs.TalkJoins.{goes_on, once, stops}
use Rattle.bcv_runner.proofs.publishing.list.Goals as goal

pub returns-then-not-is_polled-clause-talk : goal.returns-then-not-is_polled-clause-talk
returns-then-not-is_polled-clause-talk g c =
    let d = g.D.Disk in
    let t = stops d.told d.shown g.S.Store.told (AsksLast d.told d.shown g.S.Store.told ask.List) c.run_task-polled.result c.ended.result _ _ c.run_task-polled.ensures.asks (sym c.if-not-is_polled.ensures) c.ended.ensures.ending in
    record { exchanges = t.0; talks = t.1; asks = t.2 }

pub returns-clause-talk : goal.returns-clause-talk
returns-clause-talk g c =
    let d = g.D.Disk in
    let t = goes_on d.told d.shown g.S.Store.told (AsksLast d.told d.shown g.S.Store.told ask.List) c.run_task-polled.result c.ended-2.result _ _ _ c.run_task-polled.ensures.asks (sym c.if-not-is_polled.ensures)
    (once d.told d.shown g.S.Store.told ask.List c.ask_client-table.result c.ended-2.result _ _ c.ask_client-table.ensures.exchanged c.ended-2.ensures.ending) in
    record { exchanges = t.0; talks = t.1; asks = t.2 }
