use Rattle.std.proofs.Common.{List, refl, subst, sym}
use Rattle.bcv_slots.specs.declared.Slot.{Slot}
use Rattle.bcv_client.specs.ClientForm.{IsInForm}
use Rattle.bcv_client.specs.declared.job.Job.{Job}
use Rattle.bcv_client.proofs.TasksPut.{form_at}
use Rattle.bcv_client.proofs.client.Client.give_back.Goals as goal

pub add-requires : goal.add-requires
add-requires g c = c.requires.room

pub returns-clause-form : goal.returns-clause-form
returns-clause-form g c =
    let s = c.args.self.now in
    subst (IsInForm s.seen s.ledger.databases s.txns) (sym {A = List (Slot Job)} c.add.ensures)
    (form_at s.seen s.ledger.databases s.txns s.tasks.items c.args.number c.args.job c.requires.form c.requires.place.few c.requires.place.free c.requires.job c.requires.single)

pub returns-clause-back : goal.returns-clause-back
returns-clause-back g c = record { only = record { id = refl; ledger = refl; seen = refl; latest = refl; txns = refl; taken = refl }; tasks = c.add.ensures }
