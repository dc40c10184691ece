use Rattle.std.proofs.Common.{◌≡◌, ◌∙◌, Option, None, Some, refl, subst, sym}
use Rattle.std.specs.Prelude.{IsSome}
use Rattle.bcv_slots.specs.Numbered.{item_at}
use Rattle.bcv_client.specs.ClientForm.{JobInForm}
use Rattle.bcv_client.specs.ClientParts.{parts_of}
use Rattle.bcv_client.specs.TaskTaken.{TaskOut}
use Rattle.bcv_client.specs.declared.job.Job.{Job}
use Rattle.bcv_client.proofs.BusyTasks.{busy_is}
use Rattle.bcv_client.proofs.TasksTaken.{ends_by, form_out, found_has, goes_by, none_left, none_steps, runs_alone, shut_steps}
use Rattle.bcv_client.proofs.client.Client.take_task.Goals as goal

pub returns-in_default-clause-form : goal.returns-in_default-clause-form
returns-in_default-clause-form g c =
    let old = c.args.self.now in
    form_out old.seen old.ledger.databases old.txns c.args.number old.tasks.items c.take.new.slots.items (parts_of old) refl c.requires.form c.take.ensures.only

pub returns-in_default-clause-takes : goal.returns-in_default-clause-takes
returns-in_default-clause-takes g c =
    let old = c.args.self.now in
    let none : item_at c.args.number old.tasks.items ≡ None = sym c.take.ensures.found ∙ c.in_default.is in (
      record {
        only = record { id = refl; ledger = refl; seen = refl; latest = refl; txns = refl; taken = refl };
        tasks = c.take.ensures.others ∙ none_left c.args.number old.tasks.items none;
      },
      none,
    )

pub returns-in_default-clause-ends : goal.returns-in_default-clause-ends
returns-in_default-clause-ends g c =
    let old = c.args.self.now in
    let none : item_at c.args.number old.tasks.items ≡ None = sym c.take.ensures.found ∙ c.in_default.is in
    none_steps g.D.Disk.shown old _ c.args.number
    (record {
      only = record { id = refl; ledger = refl; seen = refl; latest = refl; txns = refl; taken = refl };
      tasks = c.take.ensures.others ∙ none_left c.args.number old.tasks.items none;
    }) none

pub returns-then-ends_shut-clause-form : goal.returns-then-ends_shut-clause-form
returns-then-ends_shut-clause-form g c =
    let old = c.args.self.now in
    form_out old.seen old.ledger.databases old.txns c.args.number old.tasks.items c.take.new.slots.items (parts_of old) refl c.requires.form c.take.ensures.only

pub returns-then-ends_shut-clause-takes : goal.returns-then-ends_shut-clause-takes
returns-then-ends_shut-clause-takes g c =
    let old = c.args.self.now in
    let both = ends_by _ c.closed.result c.ends_shut.result _ c.ends_shut.ensures c.closed.ensures c.if-ends_shut.true in
    record {
      job = c.in-Some.job;
      out = record {
        only = record { id = refl; ledger = refl; seen = refl; latest = refl; txns = refl; taken = refl };
        found = sym c.take.ensures.found ∙ c.in-Some.is;
        left = c.take.ensures.only c.requires.form.tasks_are.differ;
      };
      busy = both.0;
      shut = both.1;
    }

pub returns-then-ends_shut-clause-ends : goal.returns-then-ends_shut-clause-ends
returns-then-ends_shut-clause-ends g c =
    let old = c.args.self.now in
    let both = ends_by _ c.closed.result c.ends_shut.result _ c.ends_shut.ensures c.closed.ensures c.if-ends_shut.true in
    shut_steps g.D.Disk.shown old _ c.args.number c.in-Some.job
    (record {
      only = record { id = refl; ledger = refl; seen = refl; latest = refl; txns = refl; taken = refl };
      found = sym c.take.ensures.found ∙ c.in-Some.is;
      left = c.take.ensures.only c.requires.form.tasks_are.differ;
    }) both.0 both.1

pub returns-clause-form : goal.returns-clause-form
returns-clause-form g c =
    let old = c.args.self.now in
    form_out old.seen old.ledger.databases old.txns c.args.number old.tasks.items c.take.new.slots.items (parts_of old) refl c.requires.form c.take.ensures.only

pub returns-clause-takes : goal.returns-clause-takes
returns-clause-takes g c =
    let old = c.args.self.now in
    let found : item_at c.args.number old.tasks.items ≡ Some c.in-Some.job = sym c.take.ensures.found ∙ c.in-Some.is in
    let new = record old { tasks = c.take.new.slots } in
    let out : TaskOut old new c.args.number c.in-Some.job = record {
      only = record { id = refl; ledger = refl; seen = refl; latest = refl; txns = refl; taken = refl };
      found = found;
      left = c.take.ensures.only c.requires.form.tasks_are.differ;
    } in (
      out,
      record {
        form = found_has (λ (i : Job). JobInForm old.seen old.ledger.databases old.txns i) c.args.number old.tasks.items c.in-Some.job c.requires.form.tasks_are.each found;
        alone = λ busy. runs_alone old new c.args.number c.in-Some.job out c.requires.form (busy_is old.ledger.databases c.in-Some.job ∙ busy);
        is_open = λ busy. goes_by _ c.closed.result c.ends_shut.result _ c.ends_shut.ensures c.closed.ensures c.if-ends_shut.false busy;
        room = c.take.ensures.room (subst (λ (x : Option Job). IsSome x) (sym c.in-Some.is) refl);
      },
    )
