use Rattle.std.proofs.Common.{ap, refl, subst, ◌∙◌}
use Rattle.bcv_ledger.specs.declared.ledger.Ledger.{Ledger}
use Rattle.bcv_transaction.specs.Open.{Open}
use Rattle.bcv_client.specs.TaskTaken.{CanStep, TaskOut}
use Rattle.bcv_client.specs.declared.job.Job.{Job}
use Rattle.bcv_client.specs.declared.job.Job.TheVariants as job
use Rattle.bcv_client.proofs.AskReplies.{no_causes, no_disk}
use Rattle.bcv_client.proofs.CallFaults.{disk_from, quiet_disk, taken_inside}
use Rattle.bcv_client.proofs.NumberSteps.{open_still, others_single, place_left, publication_steps, quiet_steps, single_steps, taken_names, taken_only}
use Rattle.bcv_client.proofs.PollForm.{read_still}
use Rattle.bcv_client.proofs.FallsCalls.{publication_falls, single_falls, unmoved_falls}
use Rattle.bcv_client.proofs.CallMoments.{publication_moments, single_moments, unmoved_step}
use Rattle.bcv_client.proofs.Descent.{publication_descends, quiet_step, refused_descends}
use Rattle.bcv_client.proofs.Caching.{refused_caches, step_caches}
use Rattle.bcv_client.proofs.CountsOn.{counts_asked, counts_still}
use Rattle.bcv_client.proofs.client.Client.step.Goals as goal

pub take_task-requires : goal.take_task-requires
take_task-requires g c = record { form = c.requires.client.form }

-- ---- no task

pub returns-in-Err-clause-client : goal.returns-in-Err-clause-client
returns-in-Err-clause-client g c =
    let only = taken_only c.args.self.now c.take_task.new.self c.args.number c.take_task.result c.take_task.ensures.takes in
    record { form = c.take_task.ensures.form; read = read_still c.args.self.now.seen _ c.args.self.now.latest _ only.seen only.latest c.requires.client.read }

pub returns-in-Err-clause-same : goal.returns-in-Err-clause-same
returns-in-Err-clause-same g c =
    let only = taken_only c.args.self.now c.take_task.new.self c.args.number c.take_task.result c.take_task.ensures.takes in
    record { id = only.id; taken = only.taken; slots = ap (λ (o : Open). o.slots) only.txns }

pub returns-in-Err-clause-steps : goal.returns-in-Err-clause-steps
returns-in-Err-clause-steps g c =
    quiet_steps g.D.Disk.told g.D.Disk.shown g.S.Store.told (g.S.Store.shown c.args.outside.now.store) (g.N.Names.shown c.args.outside.now.names) (g.C.Clock.shown c.args.outside.now.clock) c.args.self.now
    c.take_task.new.self c.args.number c.in-Err.reply
    (taken_names c.args.self.now c.take_task.new.self c.args.number c.take_task.result c.take_task.ensures.takes) (rw c.in-Err.is at c.take_task.ensures.ends)

-- ---- a publication

pub publication-requires-clause-form : goal.publication-requires-clause-form
publication-requires-clause-form g c = c.take_task.ensures.form

pub publication-requires-clause-read : goal.publication-requires-clause-read
publication-requires-clause-read g c =
    let only = taken_only c.args.self.now c.take_task.new.self c.args.number c.take_task.result c.take_task.ensures.takes in
    read_still c.args.self.now.seen _ c.args.self.now.latest _ only.seen only.latest c.requires.client.read

pub publication-requires-clause-can : goal.publication-requires-clause-can
publication-requires-clause-can g c =
    let takes : TaskOut c.args.self.now c.take_task.new.self c.args.number c.in-Ok.job × CanStep c.take_task.new.self c.in-Ok.job = rw c.in-Ok.is at c.take_task.ensures.takes in
    subst (λ (j : Job). CanStep c.take_task.new.self j) c.in-Publish.is takes.1

pub publication-requires-clause-place : goal.publication-requires-clause-place
publication-requires-clause-place g c =
    let takes : TaskOut c.args.self.now c.take_task.new.self c.args.number c.in-Ok.job × CanStep c.take_task.new.self c.in-Ok.job = rw c.in-Ok.is at c.take_task.ensures.takes in
    place_left c.args.number c.args.self.now.tasks.items c.take_task.new.self.tasks.items c.in-Ok.job takes.0.found takes.0.left c.requires.client.form.tasks_are.few

pub publication-requires-clause-rule : goal.publication-requires-clause-rule
publication-requires-clause-rule g c = c.requires.rule

pub returns-in-Publish-clause-client : goal.returns-in-Publish-clause-client
returns-in-Publish-clause-client g c = record { form = c.publication.ensures.form; read = c.publication.ensures.read }

pub returns-in-Publish-clause-same : goal.returns-in-Publish-clause-same
returns-in-Publish-clause-same g c =
    let only = taken_only c.args.self.now c.take_task.new.self c.args.number c.take_task.result c.take_task.ensures.takes in
    record {
      id = c.publication.ensures.same.id ∙ only.id;
      taken = c.publication.ensures.same.taken ∙ only.taken;
      slots = c.publication.ensures.same.slots ∙ ap (λ (o : Open). o.slots) only.txns;
    }

pub returns-in-Publish-clause-steps : goal.returns-in-Publish-clause-steps
returns-in-Publish-clause-steps g c =
    let j : Job = job.Publish c.in-Publish.set c.in-Publish.taken c.in-Publish.task in
    let found : TaskOut c.args.self.now c.take_task.new.self c.args.number c.in-Ok.job × CanStep c.take_task.new.self c.in-Ok.job = rw c.in-Ok.is at c.take_task.ensures.takes in
    let takes : TaskOut c.args.self.now c.take_task.new.self c.args.number j × CanStep c.take_task.new.self j =
    subst (λ (x : Job). TaskOut c.args.self.now c.take_task.new.self c.args.number x × CanStep c.take_task.new.self x) c.in-Publish.is found in
    publication_steps g.D.Disk.told g.D.Disk.shown g.S.Store.told (g.S.Store.shown c.args.outside.now.store) (g.S.Store.shown c.publication.new.outside.store) (g.N.Names.shown c.args.outside.now.names)
    (g.N.Names.shown c.publication.new.outside.names) (g.C.Clock.shown c.args.outside.now.clock) (g.C.Clock.shown c.publication.new.outside.clock) c.args.self.now c.take_task.new.self c.publication.new.self
    c.args.number c.publication.result c.in-Publish.set c.in-Publish.taken c.in-Publish.task takes.0 (open_still c.args.self.now c.take_task.new.self j takes.0.only takes.1 refl) c.publication.ensures.steps

-- ---- one that ends with its step

pub single_step-requires : goal.single_step-requires
single_step-requires g c =
    let only = taken_only c.args.self.now c.take_task.new.self c.args.number c.take_task.result c.take_task.ensures.takes in
    let takes : TaskOut c.args.self.now c.take_task.new.self c.args.number c.in-Ok.job × CanStep c.take_task.new.self c.in-Ok.job = rw c.in-Ok.is at c.take_task.ensures.takes in
    record {
      form = c.take_task.ensures.form;
      read = read_still c.args.self.now.seen _ c.args.self.now.latest _ only.seen only.latest c.requires.client.read;
      can = takes.1;
      single = others_single c.in-Ok.job c.in_default.not-Publish;
    }

pub returns-in_default : goal.returns-in_default
returns-in_default g c =
    let only = taken_only c.args.self.now c.take_task.new.self c.args.number c.take_task.result c.take_task.ensures.takes in
    let takes : TaskOut c.args.self.now c.take_task.new.self c.args.number c.in-Ok.job × CanStep c.take_task.new.self c.in-Ok.job = rw c.in-Ok.is at c.take_task.ensures.takes in
    record {
      reached = c.single_step.ensures.reached;
      counted = counts_asked (g.S.Store.shown c.args.outside.now.store) (g.S.Store.shown c.single_step.new.store) (g.N.Names.shown c.args.outside.now.names) (g.C.Clock.shown c.args.outside.now.clock) (g.met.S.Store.counted c.args.outside.now.store c.single_step.new.store c.single_step.ensures.reached);
      client = record { form = c.single_step.ensures.form; read = c.single_step.ensures.read };
      same = record {
        id = c.single_step.ensures.only.id ∙ only.id;
        taken = c.single_step.ensures.only.taken ∙ only.taken;
        slots = c.single_step.ensures.only.slots ∙ ap (λ (o : Open). o.slots) only.txns;
      };
      disk = disk_from g.D.Disk.told g.D.Disk.shown c.args.self.now c.take_task.new.self c.single_step.new.self c.single_step.result only.ledger c.single_step.ensures.disk;
      causes = c.single_step.ensures.causes (g.N.Names.shown c.args.outside.now.names) (g.C.Clock.shown c.args.outside.now.clock);
      steps =
          single_steps g.D.Disk.told g.D.Disk.shown g.S.Store.told (g.S.Store.shown c.args.outside.now.store) (g.S.Store.shown c.single_step.new.store) (g.N.Names.shown c.args.outside.now.names)
          (g.C.Clock.shown c.args.outside.now.clock) c.args.self.now c.take_task.new.self c.single_step.new.self c.args.number c.single_step.result c.in-Ok.job takes.0
          (open_still c.args.self.now c.take_task.new.self c.in-Ok.job only takes.1) c.single_step.ensures.ends;
      falls =
          single_falls g.D.Disk.told g.D.Disk.shown g.S.Store.told (g.S.Store.shown c.args.outside.now.store) (g.S.Store.shown c.single_step.new.store) c.args.self.now c.take_task.new.self c.single_step.new.self
          c.args.number (g.N.Names.shown c.args.outside.now.names) c.in-Ok.job takes.0 c.single_step.ensures.falls;
      any_moment =
          single_moments g.D.Disk.told g.D.Disk.shown g.met.D.Disk.only_now g.S.Store.told (g.S.Store.shown c.args.outside.now.store) (g.S.Store.shown c.single_step.new.store) c.args.self.now c.take_task.new.self c.single_step.new.self
          c.args.number c.in-Ok.job takes.0 c.single_step.ensures.any_moment;
      descends = quiet_step c.args.self.now c.single_step.new.self c.args.number c.single_step.result c.single_step.ensures.descends;
      caches =
          step_caches g.S.Store.told (g.S.Store.shown c.args.outside.now.store) (g.S.Store.shown c.single_step.new.store) c.args.self.now c.take_task.new.self c.single_step.new.self.txns
          c.args.number c.in-Ok.job c.single_step.result takes.0 c.single_step.ensures.caches;
    }

pub returns-in-Err-clause-falls : goal.returns-in-Err-clause-falls
returns-in-Err-clause-falls g c =
    let only = taken_only c.args.self.now c.take_task.new.self c.args.number c.take_task.result c.take_task.ensures.takes in
    unmoved_falls g.D.Disk.told g.D.Disk.shown g.S.Store.told (g.S.Store.shown c.args.outside.now.store) c.args.self.now c.take_task.new.self (g.N.Names.shown c.args.outside.now.names) only.id
    (ap (λ (l : Ledger g.row.D.Denot g.D.Disk). l.log) only.ledger)

pub returns-in-Publish-clause-falls : goal.returns-in-Publish-clause-falls
returns-in-Publish-clause-falls g c =
    let j : Job = job.Publish c.in-Publish.set c.in-Publish.taken c.in-Publish.task in
    let found : TaskOut c.args.self.now c.take_task.new.self c.args.number c.in-Ok.job × CanStep c.take_task.new.self c.in-Ok.job = rw c.in-Ok.is at c.take_task.ensures.takes in
    let takes : TaskOut c.args.self.now c.take_task.new.self c.args.number j × CanStep c.take_task.new.self j =
    subst (λ (x : Job). TaskOut c.args.self.now c.take_task.new.self c.args.number x × CanStep c.take_task.new.self x) c.in-Publish.is found in
    publication_falls g.D.Disk.told g.D.Disk.shown g.S.Store.told (g.S.Store.shown c.args.outside.now.store) (g.S.Store.shown c.publication.new.outside.store) c.args.self.now c.take_task.new.self c.publication.new.self
    c.args.number (g.N.Names.shown c.args.outside.now.names) (g.N.Names.shown c.publication.new.outside.names) c.in-Publish.set c.in-Publish.taken c.in-Publish.task takes.0 c.publication.ensures.falls

-- ---- faults

pub returns-in-Err-clause-disk : goal.returns-in-Err-clause-disk
returns-in-Err-clause-disk g c =
    let only = taken_only c.args.self.now c.take_task.new.self c.args.number c.take_task.result c.take_task.ensures.takes in
    quiet_disk g.D.Disk.told g.D.Disk.shown c.args.self.now c.take_task.new.self c.in-Err.reply (ap (λ (l : Ledger _ _). l.log) only.ledger)
    (no_disk c.in-Err.reply (taken_inside c.args.self.now c.take_task.new.self c.args.number c.in-Err.reply (rw c.in-Err.is at c.take_task.ensures.takes)))

pub returns-in-Err-clause-causes : goal.returns-in-Err-clause-causes
returns-in-Err-clause-causes g c =
    no_causes (g.S.Store.shown c.args.outside.now.store) (g.S.Store.shown c.args.outside.now.store) (g.N.Names.shown c.args.outside.now.names) (g.N.Names.shown c.args.outside.now.names)
    (g.C.Clock.shown c.args.outside.now.clock) (g.C.Clock.shown c.args.outside.now.clock) c.in-Err.reply (taken_inside c.args.self.now c.take_task.new.self c.args.number c.in-Err.reply (rw c.in-Err.is at c.take_task.ensures.takes))

pub returns-in-Publish-clause-disk : goal.returns-in-Publish-clause-disk
returns-in-Publish-clause-disk g c =
    let only = taken_only c.args.self.now c.take_task.new.self c.args.number c.take_task.result c.take_task.ensures.takes in
    disk_from g.D.Disk.told g.D.Disk.shown c.args.self.now c.take_task.new.self c.publication.new.self c.publication.result only.ledger c.publication.ensures.disk

pub returns-in-Publish-clause-causes : goal.returns-in-Publish-clause-causes
returns-in-Publish-clause-causes g c = c.publication.ensures.causes

-- ---- at any moment

pub returns-in-Err-clause-any_moment : goal.returns-in-Err-clause-any_moment
returns-in-Err-clause-any_moment g c =
    let only = taken_only c.args.self.now c.take_task.new.self c.args.number c.take_task.result c.take_task.ensures.takes in
    unmoved_step g.D.Disk.told g.D.Disk.shown g.met.D.Disk.only_now g.S.Store.told (g.S.Store.shown c.args.outside.now.store) (g.S.Store.shown c.args.outside.now.store) c.args.self.now c.take_task.new.self
    (ap (λ (l : Ledger g.row.D.Denot g.D.Disk). l.log) only.ledger)

pub returns-in-Publish-clause-any_moment : goal.returns-in-Publish-clause-any_moment
returns-in-Publish-clause-any_moment g c =
    let j : Job = job.Publish c.in-Publish.set c.in-Publish.taken c.in-Publish.task in
    let found : TaskOut c.args.self.now c.take_task.new.self c.args.number c.in-Ok.job × CanStep c.take_task.new.self c.in-Ok.job = rw c.in-Ok.is at c.take_task.ensures.takes in
    let takes : TaskOut c.args.self.now c.take_task.new.self c.args.number j × CanStep c.take_task.new.self j =
    subst (λ (x : Job). TaskOut c.args.self.now c.take_task.new.self c.args.number x × CanStep c.take_task.new.self x) c.in-Publish.is found in
    publication_moments g.D.Disk.told g.D.Disk.shown g.met.D.Disk.only_now g.S.Store.told (g.S.Store.shown c.args.outside.now.store) (g.S.Store.shown c.publication.new.outside.store) c.args.self.now c.take_task.new.self c.publication.new.self
    c.args.number c.in-Publish.set c.in-Publish.taken c.in-Publish.task takes.0 c.publication.ensures.any_moment

-- ---- steps to come

pub returns-in-Err-clause-descends : goal.returns-in-Err-clause-descends
returns-in-Err-clause-descends g c = refused_descends c.args.self.now c.take_task.new.self c.args.number c.in-Err.reply (rw c.in-Err.is at c.take_task.ensures.takes)

pub returns-in-Publish-clause-descends : goal.returns-in-Publish-clause-descends
returns-in-Publish-clause-descends g c =
    let j : Job = job.Publish c.in-Publish.set c.in-Publish.taken c.in-Publish.task in
    let found : TaskOut c.args.self.now c.take_task.new.self c.args.number c.in-Ok.job × CanStep c.take_task.new.self c.in-Ok.job = rw c.in-Ok.is at c.take_task.ensures.takes in
    let takes : TaskOut c.args.self.now c.take_task.new.self c.args.number j × CanStep c.take_task.new.self j =
    subst (λ (x : Job). TaskOut c.args.self.now c.take_task.new.self c.args.number x × CanStep c.take_task.new.self x) c.in-Publish.is found in
    publication_descends c.args.self.now c.take_task.new.self c.publication.new.self c.args.number c.in-Publish.set c.in-Publish.taken c.in-Publish.task c.publication.result takes.0
    c.publication.ensures.descends

-- ---- the cache

pub returns-in-Err-clause-caches : goal.returns-in-Err-clause-caches
returns-in-Err-clause-caches g c =
    let only = taken_only c.args.self.now c.take_task.new.self c.args.number c.take_task.result c.take_task.ensures.takes in
    refused_caches g.S.Store.told (g.S.Store.shown c.args.outside.now.store) c.args.self.now c.take_task.new.self c.args.number c.in-Err.reply (rw c.in-Err.is at c.take_task.ensures.takes) only.txns

pub returns-in-Publish-clause-caches : goal.returns-in-Publish-clause-caches
returns-in-Publish-clause-caches g c =
    let j : Job = job.Publish c.in-Publish.set c.in-Publish.taken c.in-Publish.task in
    let found : TaskOut c.args.self.now c.take_task.new.self c.args.number c.in-Ok.job × CanStep c.take_task.new.self c.in-Ok.job = rw c.in-Ok.is at c.take_task.ensures.takes in
    let takes : TaskOut c.args.self.now c.take_task.new.self c.args.number j × CanStep c.take_task.new.self j =
    subst (λ (x : Job). TaskOut c.args.self.now c.take_task.new.self c.args.number x × CanStep c.take_task.new.self x) c.in-Publish.is found in
    step_caches g.S.Store.told (g.S.Store.shown c.args.outside.now.store) (g.S.Store.shown c.publication.new.outside.store) c.args.self.now c.take_task.new.self c.publication.new.self.txns
    c.args.number j c.publication.result takes.0 c.publication.ensures.caches

pub returns-in-Err-clause-reached : goal.returns-in-Err-clause-reached
returns-in-Err-clause-reached g c = g.met.S.Store.same c.args.outside.now.store

pub returns-in-Publish-clause-reached : goal.returns-in-Publish-clause-reached
returns-in-Publish-clause-reached g c = c.publication.ensures.reached

pub returns-in-Err-clause-counted : goal.returns-in-Err-clause-counted
returns-in-Err-clause-counted g c = counts_still (g.S.Store.shown c.args.outside.now.store) (g.N.Names.shown c.args.outside.now.names) (g.C.Clock.shown c.args.outside.now.clock)

pub returns-in-Publish-clause-counted : goal.returns-in-Publish-clause-counted
returns-in-Publish-clause-counted g c = c.publication.ensures.counted
