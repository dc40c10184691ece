-- What each step and each ask does to the open transactions and to their cache.
use Rattle.std.proofs.Common.{◌≡◌, ◌∙◌, inl, inr, ℕ, Bool, true, false, List, Option, Some, None, Err, refl, sym, subst}
use Rattle.bcv_base.specs.declared.clock.Now.{Now}
use Rattle.bcv_base.specs.declared.clock.Now.TheVariants as now
use Rattle.bcv_base.specs.Drawn.{NamesShown}
use Rattle.bcv_base.specs.Moments.{ClockShown}
use Rattle.bcv_cache.specs.Entry.{Blocks}
use Rattle.bcv_cleanup.specs.Released.{RuleAnswers}
use Rattle.bcv_databases.specs.Catalog.{Catalog}
use Rattle.bcv_disk.specs.DiskShown.{DiskShown, DiskTold}
use Rattle.bcv_ledger.specs.declared.ledger.Ledger.{Ledger}
use Rattle.bcv_model.specs.declared.ask.Ask.{Ask}
use Rattle.bcv_model.specs.declared.reply.Reply.{Reply}
use Rattle.bcv_model.specs.declared.reply.Reply.TheVariants as reply
use Rattle.bcv_slots.specs.Numbered.{item_at}
use Rattle.bcv_store.specs.StoreShown.{StoreShown, StoreTold}
use Rattle.bcv_tasks.specs.declared.publish_task.PublishTask.{PublishTask}
use Rattle.bcv_tasks.specs.TaskWork.{cache_after}
use Rattle.bcv_transaction.specs.Open.{Open}
use Rattle.bcv_client.specs.Caching.{Caches, JobCaches, PublishCaches, StepCaches}
use Rattle.bcv_client.specs.FetchOver.{ClientFetches}
use Rattle.bcv_client.specs.NewTasks.{is_busy}
use Rattle.bcv_client.specs.PublicationOver.{view_at}
use Rattle.bcv_client.specs.PublicationPut.{ClientPuts, PutsBy, signed}
use Rattle.bcv_client.specs.TaskRequests.{ClientWorks, KeepsCache, cache_for}
use Rattle.bcv_client.specs.TaskTaken.{TakesTask, TaskOut}
use Rattle.bcv_client.specs.declared.client.Client.{Client}
use Rattle.bcv_client.specs.declared.job.Access.{Access}
use Rattle.bcv_client.specs.declared.job.Job.{Job}
use Rattle.bcv_client.specs.declared.job.Job.TheVariants as job

-- ---- one job

pub job_as : (store : StoreTold) (before after : StoreShown) (c : Catalog) (o n : Open) (j x : Job) (r : Reply) → j ≡ x → JobCaches store before after c o n x r
    → JobCaches store before after c o n j r
job_as store before after c o n j x r is caches = subst (λ (y : Job). JobCaches store before after c o n y r) (sym is) caches

-- one that has ended without a request leaves all as it is
shut_caches : (store : StoreTold) (before : StoreShown) (c : Catalog) (o n : Open) (j : Job) (r : Reply) → is_busy j ≡ true → n ≡ o → JobCaches store before before c o n j r
shut_caches store before c o n (job.Fetch access txn page) r busy same = absurd (let e : false ≡ true = busy in cc)
shut_caches store before c o n job.Poll r busy same = same
shut_caches store before c o n (job.Publish set taken t) r busy same = inl same
shut_caches store before c o n job.Resolve r busy same = same

module _ {D : Type 0} {g : _} (store : StoreTold) (before after : StoreShown) where
  pub fetch_caches : (old new : Client D g) (access : Access) (txn page : ℕ) (r : Reply) → ClientFetches store before after old new access txn page r
      → JobCaches store before after old.ledger.databases old.txns new.txns (job.Fetch access txn page) r
  fetch_caches old new access txn page r fetches = record { how = fetches.how; answers = fetches.answers; steps = fetches.fetches.steps }

  -- ---- the step of a number

  -- from the client without the task to the client with it
  pub step_caches : (old mid : Client D g) (n : Open) (number : ℕ) (j : Job) (r : Reply) → TaskOut old mid number j
      → JobCaches store before after mid.ledger.databases mid.txns n j r → StepCaches store before after old.ledger.databases old.txns n (item_at number old.tasks.items) r
  step_caches old mid n number j r out caches =
      subst (λ (x : Option Job). StepCaches store before after old.ledger.databases old.txns n x r) (sym out.found)
      (subst (λ (o : Open). JobCaches store before after old.ledger.databases o n j r) out.only.txns
      (subst (λ (l : Ledger D g). JobCaches store before after l.databases mid.txns n j r) out.only.ledger caches))

-- there is no such task, or it has ended without a request
module _ {D : Type 0} {g : _} (store : StoreTold) (before : StoreShown) where
  pub refused_caches : (old mid : Client D g) (number : ℕ) (r : Reply) → TakesTask old mid number (Err r) → mid.txns ≡ old.txns
      → StepCaches store before before old.ledger.databases old.txns mid.txns (item_at number old.tasks.items) r
  refused_caches old mid number reply.NoTask takes same =
      subst (λ (x : Option Job). StepCaches store before before old.ledger.databases old.txns mid.txns x reply.NoTask) (sym takes.1) (same, refl)
  refused_caches old mid number reply.Closed takes same =
      subst (λ (x : Option Job). StepCaches store before before old.ledger.databases old.txns mid.txns x reply.Closed) (sym takes.out.found)
      (shut_caches store before old.ledger.databases old.txns mid.txns takes.job reply.Closed takes.busy same)
  refused_caches old mid number _ takes same = absurd takes

-- ---- a publication

module _ {D : Type 0} {g : _} (told : DiskTold) (shown : D → DiskShown) (store : StoreTold) (before after : StoreShown)
    (clock later_clock : ClockShown) (old new : Client D g) where
  puts_still : (set taken : ℕ) (t u : PublishTask) (r : Reply) (read : Now) → PutsBy told shown store before after old new set taken t r u read → new.txns ≡ old.txns
  puts_still set taken t u r (now.At moment) puts = puts.only.txns
  puts_still set taken t u r now.Failed ends = ends.only.txns

  pub put_caches : (set taken : ℕ) (t u : PublishTask) (r : Reply) → ClientPuts told shown store before after clock later_clock old new set taken t r u
      → PublishCaches (view_at old.ledger.databases set t) t old.txns new.txns
  put_caches set taken t u r puts = inl (puts_still set taken (signed old.id t) u r puts.read puts.by)

  pub work_caches : (answers : RuleAnswers) (names later_names : NamesShown) (set : ℕ) (t u : PublishTask) (r : Reply)
      → ClientWorks told shown answers store before after names later_names clock later_clock old new set t r u → PublishCaches (view_at old.ledger.databases set t) t old.txns new.txns
  work_caches answers names later_names set t u r (inl works) = inr (subst (λ (c : Blocks). KeepsCache t old.txns c new.txns) works.step.cache works.keeps)
  work_caches answers names later_names set t u r (inr rests) = inl rests.txns

-- ---- an ask

pub as_cached : {D : Type 0} {g : _} (store : StoreTold) (before after : StoreShown) (q x : Ask) (old new : Client D g) (r : Reply) → q ≡ x
    → Caches store before after x old new r → Caches store before after q old new r
as_cached store before after q x old new r is caches = subst (λ (y : Ask). Caches store before after y old new r) (sym is) caches
