use Rattle.bcv_runner.proofs.TalkJoins.{polls, publishes, resolves}
use Rattle.bcv_runner.proofs.run.run_asks.Goals as goal

pub returns-in-Publish-clause-talk : goal.returns-in-Publish-clause-talk
returns-in-Publish-clause-talk g c =
    publishes g.D.Disk.told g.D.Disk.shown g.S.Store.told c.args.operation c.in-Publish.ask c.publish.result c.ended.result _ _ c.in-Publish.is c.publish.ensures c.ended.ensures.ending

pub returns-in-Poll-clause-talk : goal.returns-in-Poll-clause-talk
returns-in-Poll-clause-talk g c =
    polls g.D.Disk.told g.D.Disk.shown g.S.Store.told c.args.operation c.run_task.result c.ended-in-Poll.result _ _ c.in-Poll.is c.run_task.ensures.asks c.ended-in-Poll.ensures.ending

pub returns-in-Resolve-clause-talk : goal.returns-in-Resolve-clause-talk
returns-in-Resolve-clause-talk g c =
    resolves g.D.Disk.told g.D.Disk.shown g.S.Store.told c.args.operation c.run_task-in-Resolve.result c.ended-in-Resolve.result _ _ c.in-Resolve.is c.run_task-in-Resolve.ensures.asks c.ended-in-Resolve.ensures.ending
