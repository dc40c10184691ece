-- A step of a publishing task before the manifest's put: the manifest's get, or a request for a block.
use Rattle.std.specs.Prelude.{◌≡◌, ◌≢◌, ◌≤◌, ◌⊎◌, ℕ, List, ◌++◌, length}
use Rattle.bcv_base.specs.declared.id.Id16.{Id16}
use Rattle.bcv_base.specs.declared.log.Entry.{Entry}
use Rattle.bcv_base.specs.declared.outcome.Outcome.{Outcome}
use Rattle.bcv_base.specs.declared.outcome.Outcome.TheVariants as outcome
use Rattle.bcv_base.specs.declared.seen.Seen.{Seen}
use Rattle.bcv_base.specs.Drawn.{NamesShown, AddsNames}
use Rattle.bcv_base.specs.Faults.{Rose}
use Rattle.bcv_base.specs.History.{history_of}
use Rattle.bcv_base.specs.Image.{Writes}
use Rattle.bcv_base.specs.Moments.{ClockShown}
use Rattle.bcv_cache.specs.Entry.{Blocks}
use Rattle.bcv_cleanup.specs.CleanupWork as cleaning
use Rattle.bcv_cleanup.specs.Released.{RuleAnswers}
use Rattle.bcv_dbcopy.specs.TaskWork as copying
use Rattle.bcv_dbmap.specs.RequestGrowth.{RequestGrowth}
use Rattle.bcv_publish.specs.declared.work.Work.{Work}
use Rattle.bcv_publish.specs.declared.work.Work.TheVariants as work
use Rattle.bcv_publish.specs.BlockPut.{AreFresh}
use Rattle.bcv_publish.specs.Request.{OverSoundLog, TakesOutcome, MayTakeOutcome}
use Rattle.bcv_store.specs.Plans.{next_of}
use Rattle.bcv_store.specs.StoreShown.{StoreTold, StoreShown}
use Rattle.bcv_tasks.specs.declared.publish_task.PublishTask.{PublishTask}
use Rattle.bcv_tasks.specs.declared.publish_task.PublishTask.TheVariants as task
use Rattle.bcv_tasks.specs.State.{Owns, id_of, names_of, refused_of, writer_of}
use Rattle.bcv_upload.specs.UploadWork.{AreFirstPuts, is_fetch}
use Rattle.bcv_upload.specs.UploadWork as uploading

-- ---- whatever the store

-- what a step leaves of each kind of task
abbrev pub LeavesKind : RuleAnswers → Seen → List Writes → Blocks → PublishTask → Work → PublishTask → Type 0
LeavesKind answers seen view c (task.Copy id s) result (task.Copy i t) = copying.WorkLeaves s.publish.latest seen s result t
LeavesKind answers seen view c (task.Upload id s) result (task.Upload i t) =
    uploading.WorkLeaves s.publish.latest (is_fetch view c s) seen s result t
LeavesKind answers seen view c (task.Cleanup id s) result (task.Cleanup i t) =
    cleaning.WorkLeaves answers s.publish.latest seen s result t
LeavesKind answers seen view c _ result _ = ⊥

-- the task with the names that were drawn, where they went into it
abbrev pub HasNames : PublishTask → PublishTask → List Id16 → Type 0
HasNames old new ids = (names_of new ≡ names_of old) ⊎ (names_of new ≡ names_of old ++ ids)

-- a step leaves the task its publication's id and writer, and the count of its refused puts
pub record WorkLeaves (answers : RuleAnswers) (seen : Seen) (view : List Writes) (c : Blocks) (old : PublishTask) (result : Work)
    (new : PublishTask) : Type 0 where
  pub same_id : id_of new ≡ id_of old
  pub same_writer : writer_of new ≡ writer_of old
  pub same_refused : refused_of new ≡ refused_of old
  pub kind : LeavesKind answers seen view c old result new

-- the cache after a step: an upload finds blocks there
abbrev pub cache_after : List Writes → PublishTask → Blocks → Blocks
cache_after view (task.Upload id s) c = uploading.cache_after s.publish.latest view s c
cache_after view _ c = c

-- ---- each kind of task

-- what its own crate says of a step: new databases and uploads draw names, and cleanups ask the clock
abbrev pub WorksAs : StoreTold → StoreShown → StoreShown → NamesShown → NamesShown → ClockShown → ClockShown → Seen
    → List Writes → Blocks → PublishTask → Work → PublishTask → Type 0
WorksAs store old new names later clock after seen view c (task.Copy id s) result (task.Copy i t) =
    copying.TaskWorks store old new names later seen s result t × (after ≡ clock)
WorksAs store old new names later clock after seen view c (task.Upload id s) result (task.Upload i t) =
    uploading.TaskWorks store old new names later seen view c s result t × (after ≡ clock)
WorksAs store old new names later clock after seen view c (task.Cleanup id s) result (task.Cleanup i t) =
    cleaning.TaskWorks store old new clock after seen s result t × (later ≡ names)
WorksAs store old new names later clock after seen view c _ result _ = ⊥

-- ---- over a sound log

-- the store failed exactly where its fault is answered; where no name, no moment or no memory was had, any outcome may be due
abbrev pub AnswersWork : Work → Outcome → Type 0
AnswersWork work.StoreFault o = o ≢ outcome.Ok
AnswersWork work.NamesFault o = Unit {0}
AnswersWork work.ClockFault o = Unit {0}
AnswersWork work.NoMemory o = Unit {0}
AnswersWork _ o = o ≡ outcome.Ok

-- a step after a sound log that others grow by lawful entries: what was put stays, or is there now
pub record WorkSound (store : StoreTold) (mine : List Id16) (old new : StoreShown) (view : List Writes) (result : Work)
    (u : PublishTask) : Type 0 where
  pub growth : RequestGrowth store.alone mine old.log new.log
  pub outcome : Outcome
  pub next : store.plans → outcome ≡ next_of old.plan
  pub answers : AnswersWork result outcome
  pub owns : Owns mine new.log view u

-- the cache is true to a log
abbrev pub IsTrueTo : List Entry → Blocks → Type 0
IsTrueTo log c = AreFirstPuts (history_of log) c.entries

-- ---- the whole

-- a step takes a planned outcome; where no name or no moment was had there is no request, and where memory ran out there
-- may be none
abbrev pub WorkTakes : StoreTold → StoreShown → StoreShown → Work → Type 0
WorkTakes store old new work.NamesFault = new ≡ old
WorkTakes store old new work.ClockFault = new ≡ old
WorkTakes store old new work.NoMemory = MayTakeOutcome store old new
WorkTakes store old new _ = TakesOutcome store old new

-- the names fail exactly where their count of faults rose
abbrev pub NamesCause : ℕ → ℕ → Work → Type 0
NamesCause before now work.NamesFault = (before ≤ now) × Rose before now
NamesCause before now _ = now ≡ before

-- so does the clock
abbrev pub ClockCause : ℕ → ℕ → Work → Type 0
ClockCause before now work.ClockFault = (before ≤ now) × Rose before now
ClockCause before now _ = now ≡ before

-- what a step over a view and a cache does over every store, and over a sound log, with its causes
pub record TaskWorks (store : StoreTold) (old new : StoreShown) (names later_names : NamesShown) (clock later_clock : ClockShown)
    (view : List Writes) (c : Blocks) (t : PublishTask) (result : Work) (u : PublishTask) : Type 0 where
  pub ids : List Id16
  pub drawn : AddsNames names.drawn later_names.drawn ids
  pub few : length ids ≤ 1
  pub has : HasNames t u ids
  pub sound :
      OverSoundLog store old new (λ mine. Owns mine old.log view t → IsTrueTo old.log c → AreFresh mine old.log ids
      → WorkSound store mine old new view result u)
  pub taken : WorkTakes store old new result
  pub later : old.faults ≤ new.faults
  pub failed : result ≡ work.StoreFault → Rose old.faults new.faults
  pub names_failed : NamesCause names.faults later_names.faults result
  pub clock_failed : ClockCause clock.faults later_clock.faults result
