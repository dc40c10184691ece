-- What each ask does to the open transactions and to the cache that they share, and which of them makes a request.
use Rattle.std.specs.Prelude.{◌≡◌, ◌⊎◌, ℕ, List, Option, Some, None}
use Rattle.bcv_base.specs.Image.{Writes}
use Rattle.bcv_databases.specs.Catalog.{Catalog, found_at}
use Rattle.bcv_machine.specs.State as m
use Rattle.bcv_model.specs.declared.ask.Ask.{Ask}
use Rattle.bcv_model.specs.declared.ask.Ask.TheVariants as ask
use Rattle.bcv_model.specs.declared.reply.Reply.{Reply}
use Rattle.bcv_pages.specs.Held.{Held}
use Rattle.bcv_slots.specs.Numbered.{item_at}
use Rattle.bcv_store.specs.StoreShown.{StoreShown, StoreTold}
use Rattle.bcv_tasks.specs.declared.publish_task.PublishTask.{PublishTask}
use Rattle.bcv_tasks.specs.TaskWork.{cache_after}
use Rattle.bcv_transaction.specs.declared.answers.Stepped.{Stepped}
use Rattle.bcv_transaction.specs.Open.{Open, set_in}
use Rattle.bcv_transaction.specs.StepCalls.{Steps}
use Rattle.bcv_client.specs.FetchOver.{stepped_reply}
use Rattle.bcv_client.specs.PublicationOver.{view_at}
use Rattle.bcv_client.specs.TaskParts.{seen_access}
use Rattle.bcv_client.specs.TaskRequests.{KeepsCache, cache_for}
use Rattle.bcv_client.specs.Transactions.{AsksPage, EndsTxn, FreesPage, pages_for}
use Rattle.bcv_client.specs.TxnBegins.{BeginsTxn}
use Rattle.bcv_client.specs.declared.client.Client.{Client}
use Rattle.bcv_client.specs.declared.job.Access.{Access}
use Rattle.bcv_client.specs.declared.job.Access.TheVariants as access
use Rattle.bcv_client.specs.declared.job.Job.{Job}
use Rattle.bcv_client.specs.declared.job.Job.TheVariants as job

-- ---- a step

-- a page is read, or its block is held: where that is at hand without a request, and else after one get that brings it in
pub record FetchCaches (store : StoreTold) (before after : StoreShown) (access : Access) (pages : Held) (o n : Open)
    (txn page : ℕ) (r : Reply) : Type 0 where
  pub how : Stepped
  pub answers : r ≡ stepped_reply how
  pub steps : Steps (seen_access access) pages store before after o txn page how n

-- a publication leaves all as it is, but that an upload looks for an old block in the cache, which is made where it is not there
abbrev pub PublishCaches : List Writes → PublishTask → Open → Open → Type 0
PublishCaches view t o n = (n ≡ o) ⊎ KeepsCache t o (cache_after view t (cache_for o t)) n

-- by what the task does
abbrev pub JobCaches : StoreTold → StoreShown → StoreShown → Catalog → Open → Open → Job → Reply → Type 0
JobCaches store before after c o n (job.Fetch access txn page) r =
    FetchCaches store before after access (pages_for c txn o) o n txn page r
JobCaches store before after c o n job.Poll r = n ≡ o
JobCaches store before after c o n (job.Publish set taken t) r = PublishCaches (view_at c set t) t o n
JobCaches store before after c o n job.Resolve r = n ≡ o

-- where there is no such task there is no request
abbrev pub StepCaches : StoreTold → StoreShown → StoreShown → Catalog → Open → Open → Option Job → Reply → Type 0
StepCaches store before after c o n (Some j) r = JobCaches store before after c o n j r
StepCaches store before after c o n None r = (n ≡ o) × (after ≡ before)

-- ---- an ask

-- by what is asked: what neither begins, reads, holds, frees, ends nor steps leaves the transactions and the cache as they are
abbrev pub AskCaches : {D : Type 0} {g : _} → StoreTold → StoreShown → StoreShown → Ask → Client D g → Client D g → Reply
    → Type 0
AskCaches store before after (ask.Begin db) old new r = BeginsTxn old new (found_at old.ledger.databases db) r
AskCaches store before after (ask.Read txn page) old new r =
    AsksPage m.ToRead old new txn page (job.Fetch access.ToRead txn page) r
AskCaches store before after (ask.Hold txn page) old new r =
    AsksPage m.ToHold old new txn page (job.Fetch access.ToHold txn page) r
AskCaches store before after (ask.Free txn page) old new r = FreesPage old.txns new.txns txn page r
AskCaches store before after (ask.End txn) old new r = EndsTxn old new txn (set_in txn old.txns.txns) r
AskCaches store before after (ask.Step n) old new r =
    StepCaches store before after old.ledger.databases old.txns new.txns (item_at n old.tasks.items) r
AskCaches store before after _ old new r = new.txns ≡ old.txns

-- a step alone makes requests
abbrev pub IsQuiet : Ask → StoreShown → StoreShown → Type 0
IsQuiet (ask.Step n) before after = Unit {0}
IsQuiet _ before after = after ≡ before

-- the whole of it
pub record Caches {D : Type 0} {g : _} (store : StoreTold) (before after : StoreShown) (q : Ask) (old new : Client D g)
    (r : Reply) : Type 0 where
  pub quiet : IsQuiet q before after
  pub does : AskCaches store before after q old new r
