-- A run over a store that nobody else writes goes from side to side.
use Rattle.std.proofs.Common.{◌∙◌, List, [], ◌∷◌, ◌++◌, append-nil, ap, subst}
use Rattle.bcv_base.specs.declared.id.Id16.{Id16}
use Rattle.bcv_base.specs.declared.log.Entry.{Entry}
use Rattle.bcv_base.specs.History.{history_of}
use Rattle.bcv_client.specs.Steps.{said_over}
use Rattle.bcv_client.specs.Talk.{Exchange}
use Rattle.bcv_machine.specs.Step.{Asks}
use Rattle.bcv_publisher.specs.PutStep.{version_added}
use Rattle.bcv_publisher.specs.WorkStep.{IsEvent}
use Rattle.bcv_store.specs.StoreShown.{StoreTold}
use Rattle.bcv_talks.specs.Runs.{AskTaken, RunState, RunStep, set_for, side_at, side_over}
use Rattle.bcv_talks.specs.SideRuns.{AloneRunsBySides, SideStep}

side_step : (store : StoreTold) (mine used : List Id16) (a : RunState) (e : Exchange) (b : RunState) (step : RunStep store mine used a e b) → store.alone
    → IsEvent a.names b.names a.clock b.clock e.reply → SideStep (side_at a) e (side_at b)
side_step store mine used a e b step is_alone is =
    let taken : AskTaken store a step.growth.others step.ids e b = step.event is in
    let grown : List Entry = a.store.log ++ step.growth.others in
    record {
      up = taken.up;
      is_up = taken.is_up;
      moment = b.moment;
      request = taken.request;
      published = version_added (history_of grown) (history_of b.store.log);
      choice = taken.choice;
      taken =
          subst
          (λ (log : List Entry). Asks (side_over b.moment log (set_for e.reply a.client)) taken.up e.ask taken.request (said_over grown b.store.log e.reply) taken.choice (side_at b))
          (ap (λ (l : List Entry). a.store.log ++ l) (step.growth.none is_alone) ∙ append-nil a.store.log) taken.taken;
    }

pub alone_runs : (store : StoreTold) → AloneRunsBySides store
alone_runs store mine used a b [] run is_alone events = ap side_at run
alone_runs store mine used a b (e ∷ es) run is_alone events =
    (side_at run.0, side_step store mine used a e run.0 run.1 is_alone events.0, alone_runs store mine (used ++ run.1.ids) run.0 b es run.2 is_alone events.1)
