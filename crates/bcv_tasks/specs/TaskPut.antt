-- The manifest's put of a publishing task.
use Rattle.std.specs.Prelude.{◌≡◌, ◌<◌, ◌≤◌, ◌+◌, ℕ, true, false, List, [], ◌∷◌, ◌++◌, length, Option, Some, None, IfSome, MatchOption}
use Rattle.std.specs.Option.{option_map}
use Rattle.bcv_base.specs.declared.id.Id16.{Id16}
use Rattle.bcv_base.specs.declared.log.Entry.{Entry}
use Rattle.bcv_base.specs.declared.manifest.Manifest.{Manifest}
use Rattle.bcv_base.specs.declared.outcome.Outcome.{Outcome}
use Rattle.bcv_base.specs.declared.outcome.Outcome.TheVariants as outcome
use Rattle.bcv_base.specs.declared.seen.Latest.{Latest}
use Rattle.bcv_base.specs.Faults.{Rose}
use Rattle.bcv_base.specs.History.{history_of, last_of}
use Rattle.bcv_base.specs.Ids.{has_id}
use Rattle.bcv_base.specs.Image.{Writes}
use Rattle.bcv_base.specs.ManifestRules.{Ascends, db_name}
use Rattle.bcv_cleanup.specs.CleanupPut.{CleansAll}
use Rattle.bcv_dbmap.specs.Applied.{first_manifest}
use Rattle.bcv_dbmap.specs.Growth.{AreLawful}
use Rattle.bcv_dbmap.specs.Kept.{IsKept}
use Rattle.bcv_dbmap.specs.Past.{has_version}
use Rattle.bcv_dbmap.specs.RequestGrowth.{RequestGrowth}
use Rattle.bcv_dbmap.specs.Sound.{Sound}
use Rattle.bcv_publish.specs.declared.created.Created.{Created}
use Rattle.bcv_publish.specs.declared.created.Created.TheVariants as created
use Rattle.bcv_publish.specs.declared.work.PutEnd.{PutEnd}
use Rattle.bcv_publish.specs.declared.work.PutEnd.TheVariants as put
use Rattle.bcv_publish.specs.ManifestAppend.{IsAppended}
use Rattle.bcv_publish.specs.ManifestCreate.{CreateLeaves, ManifestCreates}
use Rattle.bcv_publish.specs.ManifestPut.{refused_once}
use Rattle.bcv_publish.specs.Request.{OverSoundLog, TakesOutcome, MayTakeOutcome}
use Rattle.bcv_publish.specs.State.{Rise, with_latest}
use Rattle.bcv_store.specs.Plans.{next_of}
use Rattle.bcv_store.specs.StoreShown.{StoreTold, StoreShown}
use Rattle.bcv_tasks.specs.declared.create_task.CreateTask.{CreateTask}
use Rattle.bcv_tasks.specs.declared.publish_task.PublishTask.{PublishTask}
use Rattle.bcv_tasks.specs.declared.publish_task.PublishTask.TheVariants as task
use Rattle.bcv_tasks.specs.declared.put_answer.PutAnswer.{PutAnswer}
use Rattle.bcv_tasks.specs.declared.put_answer.PutAnswer.TheVariants as answer
use Rattle.bcv_tasks.specs.State.{Owns, brought, id_of, latest_of, names_of, publish_of, refused_of, with_publish, writer_of}

-- what the end of a publication's put answers
abbrev pub answer_of : PutEnd → PutAnswer
answer_of (put.Published n) = answer.Published n
answer_of put.Refused = answer.Refused
answer_of (put.Contended numbers) = answer.Contended numbers
answer_of put.Unknown = answer.Unknown
answer_of put.NoMemory = answer.NoMemory

-- ---- whatever the store

-- the task once this manifest was published
abbrev pub with_published : PublishTask → Latest → PublishTask
with_published t l = with_publish t (with_latest (publish_of t) l) true

-- the task after a refused put over this manifest, which is kept no longer
abbrev pub with_refused : PublishTask → Latest → PublishTask
with_refused t read = with_publish t (refused_once (publish_of t) read) false

-- the number of the version after the one that was read, or of the first one
abbrev pub number_after : Option Latest → ℕ
number_after None = 1
number_after (Some read) = read.manifest.number + 1

abbrev pub IsCreating : PublishTask → Type 0
IsCreating (task.Create c) = Unit {0}
IsCreating _ = ⊥

-- what the put publishes: the manifest that it brings, whose databases ascend by name
pub record Publishes (moment : ℕ) (old : PublishTask) (n : ℕ) (new : PublishTask) : Type 0 where
  pub manifest : Manifest
  pub etag : ℕ
  pub brings : brought old moment ≡ Some manifest
  pub number : n ≡ manifest.number
  pub next : n ≡ number_after (latest_of old)
  pub order : Ascends db_name manifest.dbs
  pub becomes : new ≡ with_published old (record { manifest = manifest; etag = etag })

-- what a refused put leaves: the numbers that were read, with this one
pub record IsTurnedDown (old : PublishTask) (new : PublishTask) (numbers : List ℕ) : Type 0 where
  pub read : Latest
  pub kept : latest_of old ≡ Some read
  pub all : numbers ≡ refused_of old ++ read.manifest.number ∷ []
  pub becomes : new ≡ with_refused old read

-- what a task is after its put: the manifest is published, or dropped where it was refused, the eighth time for good; where
-- a create finds a manifest, it is not known what became of the put, or memory ran out, the task is as it was
abbrev pub PutLeaves : ℕ → PublishTask → PutAnswer → PublishTask → Type 0
PutLeaves moment old (answer.Published n) new = Publishes moment old n new
PutLeaves moment old answer.Refused new = (length (refused_of old) < 7) × ((numbers : List ℕ) × IsTurnedDown old new numbers)
PutLeaves moment old (answer.Contended numbers) new = (length numbers ≡ 8) × Rise numbers × IsTurnedDown old new numbers
PutLeaves moment old answer.Exists new = IsCreating old × (new ≡ old)
PutLeaves moment old answer.Unknown new = new ≡ old
PutLeaves moment old answer.NoMemory new = new ≡ old

-- ---- over a sound log

-- the publication may come after a log: what was read is there, its id is a fresh one of mine, and so is what it has put
pub record MayPut (mine : List Id16) (log : List Entry) (view : List Writes) (t : PublishTask) : Type 0 where
  pub kept : IfSome (latest_of t) (IsKept log)
  pub writer : has_id (writer_of t) mine ≡ true
  pub id : has_id (id_of t) mine ≡ true
  pub fresh : has_version (history_of log) (id_of t) ≡ false
  pub owns : Owns mine log view t

-- the last manifest is still the one that was read, or there is none where none was
abbrev pub IsStillLast : Option Manifest → Option Latest → Type 0
IsStillLast last read = last ≡ option_map (λ (l : Latest). l.manifest) read

-- another publication came in between
abbrev pub IsPassed : Option Manifest → Option Latest → Type 0
IsPassed None read = ⊥
IsPassed (Some last) None = Unit {0}
IsPassed (Some last) (Some read) = read.manifest.number < last.number

-- the own entry of a put that published the version of a number, or none
abbrev pub Appends : List Entry → Manifest → Option ℕ → Type 0
Appends own m None = own ≡ []
Appends own m (Some n) = (n ≡ m.number) × ((etag : ℕ) × IsAppended own m etag)

-- which answer comes of which outcome, what was published, and what came in between: a version is published exactly where
-- the request had its effect and the last manifest is still the one that was read
abbrev pub AnswersPut : PutAnswer → Outcome → Option ℕ → Option Manifest → Option Latest → Type 0
AnswersPut (answer.Published n) outcome.Ok (Some k) last read = (n ≡ k) × IsStillLast last read
AnswersPut answer.Refused outcome.Ok None last read = IsPassed last read
AnswersPut (answer.Contended numbers) outcome.Ok None last read = IsPassed last read
AnswersPut answer.Exists outcome.Ok None last read = IsPassed last read
AnswersPut answer.Unknown outcome.Fail None last read = Unit {0}
AnswersPut answer.Unknown outcome.Lost (Some k) last read = IsStillLast last read
AnswersPut answer.Unknown outcome.Lost None last read = IsPassed last read
AnswersPut answer.NoMemory o None last read = Unit {0}
AnswersPut _ _ _ _ _ = ⊥

-- what is known after the put of the log then: what was published is there, and what a refused task has put still is
abbrev pub FitsAfterPut : PutAnswer → List Id16 → List Entry → List Writes → PublishTask → Type 0
FitsAfterPut (answer.Published n) mine log view t = MatchOption (latest_of t) ⊥ (IsKept log)
FitsAfterPut answer.Refused mine log view t = Owns mine log view t
FitsAfterPut _ mine log view t = Unit {0}

-- a put after a sound log that others grow by lawful entries: one manifest is appended, or none
pub record TaskPuts (store : StoreTold) (mine : List Id16) (old new : StoreShown) (view : List Writes) (t : PublishTask)
    (moment : ℕ) (result : PutAnswer) (u : PublishTask) : Type 0 where
  pub growth : RequestGrowth store.alone mine old.log new.log
  pub outcome : Outcome
  pub next : store.plans → outcome ≡ next_of old.plan
  pub manifest : Manifest
  pub brings : brought t moment ≡ Some manifest
  pub published : Option ℕ
  pub appends : Appends growth.own manifest published
  pub answers : AnswersPut result outcome published (last_of (history_of (old.log ++ growth.others))) (latest_of t)
  pub fits : FitsAfterPut result mine new.log view u

-- ---- the whole

-- a put takes a planned outcome; where memory ran out there may have been none
abbrev pub PutTakes : StoreTold → StoreShown → StoreShown → PutAnswer → Type 0
PutTakes store old new answer.NoMemory = MayTakeOutcome store old new
PutTakes store old new _ = TakesOutcome store old new

-- what a put does over every store, and over a sound log, with its cause: it is open what became of it only where the count
-- of faults rose
pub record PutsTask (store : StoreTold) (old new : StoreShown) (t : PublishTask) (moment : ℕ) (result : PutAnswer)
    (u : PublishTask) : Type 0 where
  pub leaves : PutLeaves moment t result u
  pub sound :
      OverSoundLog store old new (λ mine. (view : List Writes) → MayPut mine old.log view t
      → TaskPuts store mine old new view t moment result u)
  pub taken : PutTakes store old new result
  pub later : old.faults ≤ new.faults
  pub failed : result ≡ answer.Unknown → Rose old.faults new.faults

-- a cleanup that took all of the first manifest, and says what the last one has besides, is complete at its publication
abbrev pub CompletesCleanup : PublishTask → PutAnswer → PublishTask → Type 0
CompletesCleanup (task.Cleanup id s) (answer.Published n) (task.Cleanup other t) =
    MatchOption s.publish.latest ⊥ (λ read. CleansAll s read (put.Published n) t)
CompletesCleanup _ _ _ = Unit {0}

-- ---- laws

-- what a task has put stays its own while others append lawful entries
abbrev pub OwnedStays : Type 0
OwnedStays =
    (mine : List Id16) (log others : List Entry) (view : List Writes) (t : PublishTask) → Sound (history_of log)
    → AreLawful mine (history_of log) others → Owns mine log view t → Owns mine (log ++ others) view t

-- a put leaves a task its names
abbrev pub PutsKeepNames : Type 0
PutsKeepNames =
    (moment : ℕ) (old new : PublishTask) (result : PutAnswer) → PutLeaves moment old result new
    → names_of new ≡ names_of old

-- ---- the parts of a create

-- what is kept and answered where the put of a first manifest ended so
abbrev pub Settles : Created → CreateTask → PutAnswer → CreateTask → Type 0
Settles (created.Done l) old result new = (result ≡ answer.Published l.manifest.number) × (new ≡ record old { latest = Some l })
Settles created.Exists old result new = (result ≡ answer.Exists) × (new ≡ old)
Settles created.Unknown old result new = (result ≡ answer.Unknown) × (new ≡ old)
Settles created.NoMemory old result new = (result ≡ answer.NoMemory) × (new ≡ old)

-- the put of a task's first manifest
pub record Creates (store : StoreTold) (old new : StoreShown) (c : CreateTask) (moment : ℕ) (result : PutAnswer)
    (d : CreateTask) : Type 0 where
  pub end : Created
  pub leaves : CreateLeaves (first_manifest c.block c.retention c.id c.writer moment) end
  pub puts : ManifestCreates store old new c.writer c.id (first_manifest c.block c.retention c.id c.writer moment) end
  pub settles : Settles end c result d
