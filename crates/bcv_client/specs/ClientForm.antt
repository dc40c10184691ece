-- What always holds of a client, whatever its store and its disk tell.
use Rattle.std.specs.Prelude.{◌≡◌, ◌≤◌, ◌⊎◌, ◌-◌, ℕ, true, List, [], ◌∷◌, length, map, Option, Some, None, IfSome, MatchOption, is_some}
use Rattle.std.specs.List.{AllByRecursion}
use Rattle.bcv_base.specs.declared.seen.Seen.{Seen}
use Rattle.bcv_base.specs.ManifestRules.{is_block_size}
use Rattle.bcv_base.specs.Views.{view_size}
use Rattle.bcv_cache.specs.Entry.{Blocks}
use Rattle.bcv_clientlaws.specs.Different.{AtMostOne}
use Rattle.bcv_clientlaws.specs.Forms.{AreInForm}
use Rattle.bcv_databases.specs.Catalog.{Catalog, set_at}
use Rattle.bcv_databases.specs.Sound.{CanUpload}
use Rattle.bcv_model.specs.declared.kept.PendingPub.{PendingPub}
use Rattle.bcv_pages.specs.Held.{Held}
use Rattle.bcv_slots.specs.declared.Slot.{Slot}
use Rattle.bcv_slots.specs.Numbered.{AreDifferent, numbers_of}
use Rattle.bcv_tasks.specs.declared.publish_task.PublishTask.{PublishTask}
use Rattle.bcv_tasks.specs.declared.publish_task.PublishTask.TheVariants as task
use Rattle.bcv_tasks.specs.State.{IsRunning, is_ready, latest_of, left_of, pending_of, refused_of, upload_of}
use Rattle.bcv_transaction.specs.declared.open_txn.OpenTxn.{OpenTxn}
use Rattle.bcv_transaction.specs.Open.{CanRead, Open, txn_at, view_in}
use Rattle.bcv_upload.specs.State.{HoldsView}
use Rattle.bcv_upload.specs.State as upload
use Rattle.bcv_client.specs.TaskParts.{task_part}
use Rattle.bcv_client.specs.declared.job.Job.{Job}
use Rattle.bcv_client.specs.declared.job.Job.TheVariants as job

-- ---- the block size

-- all databases and the cache have the block size that was seen; before one was seen there are none
abbrev pub HasSize : Option ℕ → Catalog → Option Blocks → Type 0
HasSize None c blocks = (c.kept.locals ≡ []) × (c.known ≡ []) × (blocks ≡ None)
HasSize (Some b) c blocks =
    (is_block_size b ≡ true) × AreInForm b c.kept c.known × IfSome blocks (λ (x : Blocks). x.block ≡ b)

-- ---- transactions

-- a transaction's set is there, and has the commits of its view, which make its size
pub record ReadsSet (sets : List (Option Held)) (t : OpenTxn) : Type 0 where
  pub held : Held
  pub is_held : set_at sets t.set ≡ Some held
  pub can : CanRead held t
  pub size : t.txn.size ≡ view_size t.txn.base.entry.pages (view_in held t)

-- ---- tasks

-- the page is one of a transaction's
pub record IsPageOf (page : ℕ) (t : OpenTxn) : Type 0 where
  pub from : 1 ≤ page
  pub to : page ≤ t.txn.size

-- a page is fetched of an open transaction
abbrev pub FetchInForm : Open → ℕ → ℕ → Type 0
FetchInForm o txn page = MatchOption (txn_at txn o.txns) ⊥ (IsPageOf page)

-- a publication is pending exactly where a put of it was refused
abbrev pub PendingFor : Option PendingPub → PendingPub → List ℕ → Type 0
PendingFor None x [] = Unit {0}
PendingFor (Some p) x (n ∷ ns) = p ≡ x
PendingFor _ x _ = ⊥

-- an upload of so many commits has its view in the set of a place, over a base of the block size that was seen
pub record UploadInForm (seen : Seen) (c : Catalog) (set taken : ℕ) (s : upload.State) : Type 0 where
  pub held : Held
  pub is_held : set_at c.sets set ≡ Some held
  pub view : HoldsView held s
  pub size : seen.block ≡ Some s.base.block
  pub count : taken ≡ s.base.to - s.base.from

abbrev pub ViewInForm : Seen → Catalog → ℕ → ℕ → PublishTask → Type 0
ViewInForm seen c set taken (task.Upload id s) = UploadInForm seen c set taken s
ViewInForm seen c set taken _ = Unit {0}

-- a publication of which a put was refused has its manifest to read and to put again, and nothing else
abbrev pub TriesAgain : List ℕ → PublishTask → Type 0
TriesAgain [] t = Unit {0}
TriesAgain (n ∷ ns) t = (is_ready t ≡ true) ⊎ ((latest_of t ≡ None) × (left_of t ≡ 2))

pub record PublishInForm (seen : Seen) (c : Catalog) (set taken : ℕ) (t : PublishTask) : Type 0 where
  pub running : IsRunning t
  pub waits : PendingFor c.kept.pending (pending_of taken t) (refused_of t)
  pub again : TriesAgain (refused_of t) t
  pub upload : IfSome (upload_of taken t) (CanUpload c.kept.locals)
  pub view : ViewInForm seen c set taken t

abbrev pub JobInForm : Seen → Catalog → Open → Job → Type 0
JobInForm seen c o (job.Fetch access txn page) = FetchInForm o txn page
JobInForm seen c o job.Poll = Unit {0}
JobInForm seen c o (job.Publish set taken t) = PublishInForm seen c set taken t
JobInForm seen c o job.Resolve = is_some c.kept.pending ≡ true

-- the tasks are at most 16 under different numbers, at most one of them publishes or resolves, and each is in form
pub record TasksInForm (seen : Seen) (c : Catalog) (o : Open) (tasks : List (Slot Job)) : Type 0 where
  pub few : length tasks ≤ 16
  pub differ : AreDifferent (numbers_of tasks)
  pub single : AtMostOne (map (task_part c) tasks)
  pub each : AllByRecursion (λ (s : Slot Job). JobInForm seen c o s.item) tasks

-- ---- the whole

pub record IsInForm (seen : Seen) (c : Catalog) (o : Open) (tasks : List (Slot Job)) : Type 0 where
  pub size : HasSize seen.block c o.cache
  pub txns : AllByRecursion (ReadsSet c.sets) o.txns
  pub tasks_are : TasksInForm seen c o tasks
