-- The request of a publishing task over the cache that the open transactions share, and the step of the client that it is.
use Rattle.std.specs.Prelude.{◌≡◌, ◌⊎◌, ℕ, Some, None}
use Rattle.bcv_base.specs.Drawn.{NamesShown}
use Rattle.bcv_base.specs.Moments.{ClockShown}
use Rattle.bcv_base.specs.declared.seen.Seen.{Seen}
use Rattle.bcv_cache.specs.Entry.{Blocks}
use Rattle.bcv_cleanup.specs.Released.{RuleAnswers}
use Rattle.bcv_databases.specs.Catalog.{Catalog}
use Rattle.bcv_disk.specs.DiskShown.{DiskShown, DiskTold}
use Rattle.bcv_model.specs.declared.reply.Reply.{Reply}
use Rattle.bcv_model.specs.declared.reply.Reply.TheVariants as reply
use Rattle.bcv_publish.specs.declared.work.Work.{Work}
use Rattle.bcv_publish.specs.declared.work.Work.TheVariants as work
use Rattle.bcv_publisher.specs.WorkStep.{TaskRequest, WorkStep}
use Rattle.bcv_store.specs.StoreShown.{StoreShown, StoreTold}
use Rattle.bcv_tasks.specs.declared.publish_task.PublishTask.{PublishTask}
use Rattle.bcv_tasks.specs.declared.publish_task.PublishTask.TheVariants as task
use Rattle.bcv_transaction.specs.Open.{Open}
use Rattle.bcv_transaction.specs.OpenCalls.{cache_made}
use Rattle.bcv_client.specs.PublicationOver.{view_at}
use Rattle.bcv_client.specs.declared.client.Client.{Client}

-- ---- the cache

-- the size of the blocks that a task looks for in the cache; only an upload looks for some
abbrev pub block_for : PublishTask → ℕ
block_for (task.Upload id s) = s.base.block
block_for t = 1

-- the cache over which a task makes its request: an empty one where none is made yet
abbrev pub cache_for : Open → PublishTask → Blocks
cache_for o t = cache_made o.slots (block_for t) o.cache

-- the transactions after the request, by what the cache is then: an upload's cache is made, and no other task looks at it
abbrev pub KeepsCache : PublishTask → Open → Blocks → Open → Type 0
KeepsCache (task.Upload id s) o later n = n ≡ record o { cache = Some later }
KeepsCache t o later n = n ≡ o

-- ---- the request

-- it is made over the cache
pub record AsksOnce (answers : RuleAnswers) (store : StoreTold) (before after : StoreShown) (names later_names : NamesShown)
    (clock later_clock : ClockShown) (seen : Seen) (c : Catalog) (set : ℕ) (o n : Open) (t : PublishTask) (made : Work)
    (u : PublishTask) : Type 0 where
  pub later : Blocks
  pub request :
      TaskRequest answers store before after names later_names clock later_clock seen (view_at c set t) (cache_for o t) later t
      made u
  pub keeps : KeepsCache t o later n

-- there is no memory for the cache of an upload, and nothing has changed
pub record AsksNothing (before after : StoreShown) (names later_names : NamesShown) (clock later_clock : ClockShown)
    (o n : Open) (t : PublishTask) (made : Work) (u : PublishTask) : Type 0 where
  pub none : o.cache ≡ None
  pub memory : made ≡ work.NoMemory
  pub same : n ≡ o
  pub task_is : u ≡ t
  pub store_is : after ≡ before
  pub names_are : later_names ≡ names
  pub clock_is : later_clock ≡ clock

abbrev pub AsksTask : RuleAnswers → StoreTold → StoreShown → StoreShown → NamesShown → NamesShown → ClockShown → ClockShown
    → Seen → Catalog → ℕ → Open → Open → PublishTask → Work → PublishTask → Type 0
AsksTask answers store before after names later_names clock later_clock seen c set o n t made u =
    AsksOnce answers store before after names later_names clock later_clock seen c set o n t made u
    ⊎ AsksNothing before after names later_names clock later_clock o n t made u

-- ---- the client's step

-- it is the step of a publication over the ledger and the cache
pub record WorksOver {D : Type 0} {g : _} (told : DiskTold) (shown : D → DiskShown) (answers : RuleAnswers)
    (store : StoreTold) (before after : StoreShown) (names later_names : NamesShown) (clock later_clock : ClockShown)
    (old new : Client D g) (set : ℕ) (t : PublishTask) (r : Reply) (u : PublishTask) : Type 0 where
  pub later : Blocks
  pub step :
      WorkStep told shown store before after names later_names clock later_clock answers old.seen
      (view_at old.ledger.databases set t) (cache_for old.txns t) later old.ledger new.ledger t r u
  pub keeps : KeepsCache t old.txns later new.txns

-- there is no memory for the cache of an upload, and nothing has changed
pub record WorksNot {D : Type 0} {g : _} (before after : StoreShown) (names later_names : NamesShown)
    (clock later_clock : ClockShown) (old new : Client D g) (t : PublishTask) (r : Reply) (u : PublishTask) : Type 0 where
  pub none : old.txns.cache ≡ None
  pub memory : r ≡ reply.NoMemory
  pub txns : new.txns ≡ old.txns
  pub ledger : new.ledger ≡ old.ledger
  pub task_is : u ≡ t
  pub store_is : after ≡ before
  pub names_are : later_names ≡ names
  pub clock_is : later_clock ≡ clock

abbrev pub ClientWorks : {D : Type 0} {g : _} → DiskTold → (D → DiskShown) → RuleAnswers → StoreTold → StoreShown → StoreShown
    → NamesShown → NamesShown → ClockShown → ClockShown → Client D g → Client D g → ℕ → PublishTask → Reply → PublishTask
    → Type 0
ClientWorks told shown answers store before after names later_names clock later_clock old new set t r u =
    WorksOver told shown answers store before after names later_names clock later_clock old new set t r u
    ⊎ WorksNot before after names later_names clock later_clock old new t r u
