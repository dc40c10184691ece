use Rattle.std.proofs.Common.{List, ap, sym, ◌∙◌}
use Rattle.std.specs.List.{list_any}
use Rattle.bcv_slots.specs.declared.Slot.{Slot}
use Rattle.bcv_client.specs.NewTasks.{is_busy}
use Rattle.bcv_client.specs.declared.job.Job.{Job}
use Rattle.bcv_client.proofs.BusyTasks.{busy_jobs}
use Rattle.bcv_client.proofs.client.Client.runs_publication.Goals as goal

pub returns : goal.returns
returns g c =
    c.any_publishes.ensures
    ∙ ap (λ (ss : List (Slot Job)). list_any (λ (s : Slot Job). is_busy s.item) ss) c.deref.ensures.value
    ∙ sym (busy_jobs c.args.self.now.ledger.databases c.args.self.now.tasks.items)
