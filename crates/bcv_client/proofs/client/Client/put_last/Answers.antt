use Rattle.std.proofs.Common.{◌≡◌, ◌∙◌, List, Some, ap, length, nat_le, refl, rules, subst, sym}
use Rattle.bcv_slots.specs.Numbered.{least_free, numbers_of}
use Rattle.bcv_slots.specs.declared.Slot.{Slot}
use Rattle.bcv_client.specs.ClientForm.{IsInForm}
use Rattle.bcv_client.specs.declared.job.Job.{Job}
use Rattle.bcv_client.proofs.TasksPut.{form_with}
use Rattle.bcv_client.proofs.client.Client.put_last.Goals as goal

pub task_number-task-requires : goal.task_number-task-requires
task_number-task-requires g c = ap (λ (ss : List (Slot Job)). nat_le 16 (length ss)) c.deref.ensures.value ∙ c.requires.few

pub overflow_cast-task : goal.overflow_cast-task
overflow_cast-task g c = search rules

pub add-requires : goal.add-requires
add-requires g c = c.requires.room

pub returns-clause-form : goal.returns-clause-form
returns-clause-form g c =
    let s = c.args.self.now in
    let n = c.task_number-task.result in
    let least : least_free (numbers_of s.tasks.items) ≡ Some n = ap (λ (ss : List (Slot Job)). least_free (numbers_of ss)) (sym c.deref.ensures.value) ∙ c.task_number-task.ensures in
    subst (IsInForm s.seen s.ledger.databases s.txns) (sym c.add.ensures)
    (form_with s.seen s.ledger.databases s.txns s.tasks.items n c.args.job c.requires.form c.requires.few least c.requires.job c.requires.single)

pub returns-clause-starts : goal.returns-clause-starts
returns-clause-starts g c =
    let s = c.args.self.now in
    let n = c.task_number-task.result in
    let least : least_free (numbers_of s.tasks.items) ≡ Some n = ap (λ (ss : List (Slot Job)). least_free (numbers_of ss)) (sym c.deref.ensures.value) ∙ c.task_number-task.ensures in
    record {
      only = record { id = refl; ledger = refl; seen = refl; latest = refl; txns = refl; taken = refl };
      tasks = (c.requires.few, least, refl, c.add.ensures);
    }
