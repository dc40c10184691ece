use Rattle.std.proofs.Common.{◌≡◌}
use Rattle.bcv_client.specs.Descent.{steps_to_come}
use Rattle.bcv_client.specs.InForm.{IsClient}
use Rattle.bcv_runner.specs.CommandAsks.{StepsOn, around, point_of}
use Rattle.bcv_runner.specs.CommandTalks.{MakesAsks}
use Rattle.bcv_runner.proofs.asks.finish.Given as goal

abbrev pub invariant-steps : goal.invariant-steps
invariant-steps g l = record {
  client : IsClient l.client;
  taken : l.client.taken ≡ l.initial.client.taken;
  asks :
      MakesAsks g.D.Disk.told g.D.Disk.shown g.S.Store.told (StepsOn l.task)
      (point_of l.initial.client (around g.S.Store.shown g.N.Names.shown g.C.Clock.shown l.initial.outside))
      (point_of l.client (around g.S.Store.shown g.N.Names.shown g.C.Clock.shown l.outside));
}

abbrev pub decreases-steps : goal.decreases-steps
decreases-steps g l = steps_to_come l.client l.task
