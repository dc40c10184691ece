-- What the calls on transactions do to a client, whatever its store and its disk tell.
use Rattle.std.specs.Prelude.{◌≡◌, ◌==◌, ℕ, Bool, true, false, not, List, filter, Option, Some, None, option_map, unwrap_or, if◌then◌else◌}
use Rattle.std.specs.List.{AllByRecursion, list_any}
use Rattle.bcv_databases.specs.Catalog.{Catalog}
use Rattle.bcv_databases.specs.Changes.{Trims}
use Rattle.bcv_machine.specs.State as m
use Rattle.bcv_model.specs.declared.reply.Reply.{Reply}
use Rattle.bcv_model.specs.declared.reply.Reply.TheVariants as reply
use Rattle.bcv_pages.specs.Held.{Held}
use Rattle.bcv_slots.specs.declared.Slot.{Slot}
use Rattle.bcv_tasks.specs.declared.publish_task.PublishTask.{PublishTask}
use Rattle.bcv_tasks.specs.declared.publish_task.PublishTask.TheVariants as task
use Rattle.bcv_transaction.specs.declared.answers.Came.{Came}
use Rattle.bcv_transaction.specs.declared.answers.Came.TheVariants as came
use Rattle.bcv_transaction.specs.declared.answers.Freed.{Freed}
use Rattle.bcv_transaction.specs.declared.answers.Freed.TheVariants as freed
use Rattle.bcv_transaction.specs.declared.open_txn.OpenTxn.{OpenTxn}
use Rattle.bcv_transaction.specs.FitLaws.{KeepsTxnView}
use Rattle.bcv_transaction.specs.ListCalls.{EndsIn, FreesIn}
use Rattle.bcv_transaction.specs.Open.{Open, oldest_in, set_in, txn_at}
use Rattle.bcv_transaction.specs.OpenCalls.{CallsIn}
use Rattle.bcv_transaction.specs.StepCalls.{PageCalls}
use Rattle.bcv_client.specs.ClientParts.{sets_in}
use Rattle.bcv_client.specs.TaskStarts.{StartsLast}
use Rattle.bcv_client.specs.declared.client.Client.{Client}
use Rattle.bcv_client.specs.declared.job.Job.{Job}
use Rattle.bcv_client.specs.declared.job.Job.TheVariants as job

-- ---- what stays

-- but for the transactions with their cache, and the tasks, nothing has changed
pub record OnlyReading {D : Type 0} {g : _} (old new : Client D g) : Type 0 where
  pub id : new.id ≡ old.id
  pub ledger : new.ledger ≡ old.ledger
  pub seen : new.seen ≡ old.seen
  pub latest : new.latest ≡ old.latest
  pub taken : new.taken ≡ old.taken

-- nor have the tasks
pub record OnlyTxns {D : Type 0} {g : _} (old new : Client D g) : Type 0 where
  pub reading : OnlyReading old new
  pub tasks : new.tasks ≡ old.tasks

-- but for transactions, tasks and what the page sets hold beside the views that are open, nothing has changed
pub record KeepsLedger {D : Type 0} {g : _} (old new : Client D g) : Type 0 where
  pub id : new.id ≡ old.id
  pub log : new.ledger.log ≡ old.ledger.log
  pub kept : new.ledger.databases.kept ≡ old.ledger.databases.kept
  pub known : new.ledger.databases.known ≡ old.ledger.databases.known
  pub views : AllByRecursion (KeepsTxnView (sets_in old.ledger.databases) (sets_in new.ledger.databases)) new.txns.txns
  pub seen : new.seen ≡ old.seen
  pub latest : new.latest ≡ old.latest
  pub taken : new.taken ≡ old.taken

-- ---- free

abbrev pub freed_reply : Freed → Reply
freed_reply freed.Fine = reply.Fine
freed_reply freed.NoTxn = reply.NoTxn
freed_reply freed.BadPage = reply.BadPage
freed_reply freed.NotHeld = reply.NotHeld

-- the block of a page is let go
pub record FreesPage (o n : Open) (k p : ℕ) (r : Reply) : Type 0 where
  pub how : Freed
  pub answers : r ≡ freed_reply how
  pub frees : CallsIn o n (how ≡ freed.NoTxn) (λ c d. FreesIn c o.txns k p how n.txns d)

-- ---- read and hold

-- the set of pages that a transaction reads
abbrev pub pages_for : Catalog → ℕ → Open → Held
pages_for c n o = sets_in c (unwrap_or (set_in n o.txns) 0)

-- what is answered without a request; none where a block has to be fetched
abbrev pub came_reply : Came → Option Reply
came_reply (came.Page bytes) = Some (reply.Page bytes.items)
came_reply came.Held = Some reply.Held
came_reply (came.Absent id) = None
came_reply came.CacheFull = Some reply.CacheFull
came_reply came.BadPage = Some reply.BadPage
came_reply came.NoTxn = Some reply.NoTxn
came_reply came.NoMemory = Some reply.NoMemory

-- what came is answered, or the task is started
abbrev pub AnswersPage : Option Reply → List (Slot Job) → List (Slot Job) → Job → Reply → Type 0
AnswersPage (Some x) old new j r = (r ≡ x) × (new ≡ old)
AnswersPage None old new j r = StartsLast old new j 1 r

-- a page is read or held where its block is at hand, else a task is started that fetches it
pub record AsksPage {D : Type 0} {g : _} (access : m.Access) (old new : Client D g) (n p : ℕ) (j : Job) (r : Reply) : Type 0 where
  pub how : Came
  pub calls : PageCalls access (pages_for old.ledger.databases n old.txns) old.txns n p how new.txns
  pub answers : AnswersPage (came_reply how) old.tasks.items new.tasks.items j r

-- ---- end

-- the task fetches a page for the transaction of a number
abbrev pub is_fetch_for : ℕ → Job → Bool
is_fetch_for n (job.Fetch access txn page) = txn == n
is_fetch_for n job.Poll = false
is_fetch_for n (job.Publish set taken t) = false
is_fetch_for n job.Resolve = false

-- the tasks but those
abbrev pub without_fetches : ℕ → List (Slot Job) → List (Slot Job)
without_fetches n tasks = filter (λ (s : Slot Job). not (is_fetch_for n s.item)) tasks

abbrev pub is_upload : PublishTask → Bool
is_upload (task.Create c) = false
is_upload (task.Copy id s) = false
is_upload (task.Upload id s) = true
is_upload (task.Cleanup id s) = false

-- the task uploads commits of the set of a place
abbrev pub is_upload_of : ℕ → Job → Bool
is_upload_of set (job.Fetch access txn page) = false
is_upload_of set job.Poll = false
is_upload_of set (job.Publish at taken t) = if at == set then is_upload t else false
is_upload_of set job.Resolve = false

abbrev pub uploads_of : ℕ → List (Slot Job) → Bool
uploads_of set tasks = list_any (λ (s : Slot Job). is_upload_of set s.item) tasks

-- the number after which commits of a set are needed by a transaction or an upload: all, while an upload runs over the set
abbrev pub needed_in : ℕ → Open → List (Slot Job) → Option ℕ
needed_in set o tasks = if uploads_of set tasks then Some 0 else oldest_in set o.txns

-- a transaction over a set ends with its tasks, and what nobody needs of the set is forgotten
pub record EndsOver {D : Type 0} {g : _} (old new : Client D g) (n set : ℕ) (r : Reply) : Type 0 where
  pub answers : r ≡ reply.Fine
  pub ends : CallsIn old.txns new.txns ⊥ (λ c d. EndsIn c old.txns.txns n true new.txns.txns d)
  pub tasks : new.tasks.items ≡ without_fetches n old.tasks.items
  pub trims : Trims old.ledger.databases new.ledger.databases set (needed_in set new.txns new.tasks.items)

-- no such transaction is open, and nothing has changed
pub record EndsNone {D : Type 0} {g : _} (old new : Client D g) (r : Reply) : Type 0 where
  pub answers : r ≡ reply.NoTxn
  pub only : OnlyTxns old new
  pub same : new.txns ≡ old.txns

abbrev pub EndsTxn : {D : Type 0} {g : _} → Client D g → Client D g → ℕ → Option ℕ → Reply → Type 0
EndsTxn old new n None r = EndsNone old new r
EndsTxn old new n (Some set) r = EndsOver old new n set r

-- ---- what is open

-- the number of the version that a transaction reads, the size of its pages and how many it has
abbrev pub opened_by : OpenTxn → ℕ × ℕ × ℕ
opened_by t = (t.txn.base.number, t.txn.base.entry.page_size, t.txn.size)

abbrev pub opened_as : ℕ → Open → Option (ℕ × ℕ × ℕ)
opened_as n o = option_map opened_by (txn_at n o.txns)
