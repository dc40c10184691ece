use Rattle.std.proofs.Common.{◌∙◌, sym}
use Rattle.bcv_runner.proofs.TalkJoins.{known, unknown}
use Rattle.bcv_runner.proofs.publishing.publish.Goals as goal

pub returns-in-Some : goal.returns-in-Some
returns-in-Some g c =
    unknown g.D.Disk.told g.D.Disk.shown g.S.Store.told c.args.ask c.run_task-reply.result c.run_task-found.result c.after_resolve.result c.in-Some.id _ _ _
    c.run_task-reply.ensures.asks (sym c.unknown_of.ensures ∙ c.in-Some.is) c.run_task-found.ensures.asks c.after_resolve.ensures

pub returns-in-None : goal.returns-in-None
returns-in-None g c =
    known g.D.Disk.told g.D.Disk.shown g.S.Store.told c.args.ask c.run_task-reply.result _ _ c.run_task-reply.ensures.asks
    (sym c.unknown_of.ensures ∙ c.in-None.is)
