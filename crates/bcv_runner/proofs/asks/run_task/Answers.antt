use Rattle.std.proofs.Common.{◌∙◌, sym}
use Rattle.bcv_runner.proofs.TalkJoins.{asked, started}
use Rattle.bcv_runner.proofs.asks.run_task.Goals as goal

pub returns-in-Some-clause-asks : goal.returns-in-Some-clause-asks
returns-in-Some-clause-asks g c =
    started g.D.Disk.told g.D.Disk.shown g.S.Store.told c.args.ask c.ask_client-reply.result c.finish.result c.in-Some.task _ _ _
    c.ask_client-reply.ensures.exchanged (sym c.task_of.ensures ∙ c.in-Some.is) c.finish.ensures.asks

pub returns-in-None-clause-asks : goal.returns-in-None-clause-asks
returns-in-None-clause-asks g c =
    asked g.D.Disk.told g.D.Disk.shown g.S.Store.told c.args.ask c.ask_client-reply.result _ _
    c.ask_client-reply.ensures.exchanged (sym c.task_of.ensures ∙ c.in-None.is)
