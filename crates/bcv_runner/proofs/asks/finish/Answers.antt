use Rattle.std.proofs.Common.{◌≡◌, ◌∙◌, true, false, sym}
use Rattle.bcv_client.specs.TaskCalls.{is_working}
use Rattle.bcv_runner.proofs.TalkJoins.{falls, step_last, step_more}
use Rattle.bcv_runner.proofs.asks.finish.Goals as goal

pub returns-then-not-is_working-clause-asks : goal.returns-then-not-is_working-clause-asks
returns-then-not-is_working-clause-asks g c =
    step_last g.D.Disk.told g.D.Disk.shown g.S.Store.told c.args.task c.ask_client-reply.result _ _ _ c.steps.invariant.asks
    c.ask_client-reply.ensures.exchanged (let e : is_working c.ask_client-reply.result ≡ false = sym c.if-not-is_working.ensures in e)

pub steps-preserved : goal.steps-preserved
steps-preserved g c = record {
  client = c.ask_client-reply.ensures.client;
  taken = c.ask_client-reply.ensures.taken ∙ c.steps.invariant.taken;
  asks =
      step_more g.D.Disk.told g.D.Disk.shown g.S.Store.told c.args.task c.ask_client-reply.result _ _ _ c.steps.invariant.asks
      c.ask_client-reply.ensures.exchanged (let e : is_working c.ask_client-reply.result ≡ true = sym c.if-not-is_working.ensures in e);
}

pub steps-smaller : goal.steps-smaller
steps-smaller g c = falls c.steps.client c.ask_client-reply.new.client c.args.task c.ask_client-reply.result (sym c.if-not-is_working.ensures) c.ask_client-reply.ensures.descends
