use Rattle.bcv_daemon.proofs.Asked.{asked_once, asked_twice, no_task}
use Rattle.bcv_daemon.proofs.asking.ask_to_end.Goals as goal

pub returns-in-Task-clause-asked : goal.returns-in-Task-clause-asked
returns-in-Task-clause-asked g c =
    let e = c.in-Task.ensures in
    let f = c.call-in-Task.ensures in
    asked_twice g.D.Disk.told g.D.Disk.shown g.S.Store.told _ _ _ c.args.ask c.in-Task.task c.in-Task.left c.call-in-Task.result
    (record { same = e.same; disk = e.disk; causes = e.causes; asks = e.asks; falls = e.falls; counted = e.counted; caches = e.caches })
    (record { same = f.same; disk = f.disk; causes = f.causes; asks = f.asks; falls = f.falls; counted = f.counted; caches = f.caches })

pub returns-in_default : goal.returns-in_default
returns-in_default g c =
    let e = c.call.ensures in
    record {
      client = e.client;
      asked = asked_once g.D.Disk.told g.D.Disk.shown g.S.Store.told _ _ c.args.ask c.call.result
          (record { same = e.same; disk = e.disk; causes = e.causes; asks = e.asks; falls = e.falls; counted = e.counted; caches = e.caches }) (no_task c.call.result c.in_default.not-Task);
    }
