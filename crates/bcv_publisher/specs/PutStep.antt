-- The step of a publication at its put, with the notes around it.
use Rattle.std.specs.Prelude.{◌≡◌, ◌≢◌, ◌≤◌, ◌⊎◌, ◌==◌, ℕ, Bool, true, false, List, ◌++◌, length, Option, Some, None, if◌then◌else◌}
use Rattle.bcv_base.specs.declared.id.Id16.{Id16}
use Rattle.bcv_base.specs.declared.log.Entry.{Entry}
use Rattle.bcv_base.specs.declared.outcome.Outcome.{Outcome}
use Rattle.bcv_base.specs.declared.outcome.Outcome.TheVariants as outcome
use Rattle.bcv_base.specs.declared.seen.Latest.{Latest}
use Rattle.bcv_base.specs.declared.seen.Seen.{Seen}
use Rattle.bcv_base.specs.Faults.{Rose}
use Rattle.bcv_base.specs.History.{Item, history_of}
use Rattle.bcv_base.specs.Image.{Writes}
use Rattle.bcv_cache.specs.Entry as cache
use Rattle.bcv_clientlaws.specs.OtherParts.{Includes}
use Rattle.bcv_clientlog.specs.LogParts.{is_shut, log_disk}
use Rattle.bcv_dbmap.specs.Honest.{GrewHonestly}
use Rattle.bcv_dbmap.specs.RequestGrowth.{RequestGrowth}
use Rattle.bcv_disk.specs.DiskCalls.{DiskFails}
use Rattle.bcv_disk.specs.DiskShown.{DiskShown, DiskTold}
use Rattle.bcv_machine.specs.State as m
use Rattle.bcv_machine.specs.Step.{StepsPublication}
use Rattle.bcv_model.specs.declared.kept.Kept.{Kept}
use Rattle.bcv_model.specs.declared.kept.PendingPub.{PendingPub}
use Rattle.bcv_model.specs.declared.note.Note.TheVariants as note
use Rattle.bcv_model.specs.declared.reply.Reply.{Reply}
use Rattle.bcv_model.specs.declared.reply.Reply.TheVariants as reply
use Rattle.bcv_model.specs.Notes.{after_note}
use Rattle.bcv_store.specs.Plans.{next_of}
use Rattle.bcv_store.specs.StoreShown.{StoreShown, StoreTold}
use Rattle.bcv_tasks.specs.declared.publish_task.PublishTask.{PublishTask}
use Rattle.bcv_tasks.specs.declared.put_answer.PutAnswer.{PutAnswer}
use Rattle.bcv_tasks.specs.declared.put_answer.PutAnswer.TheVariants as answer
use Rattle.bcv_tasks.specs.State.{IsRunning, latest_of, left_of, pending_of}
use Rattle.bcv_tasks.specs.TaskPut.{PutLeaves}
use Rattle.bcv_clientstate.specs.Fits.{FitsSeen}
use Rattle.bcv_clientstate.specs.Journaled.{Journaled}
use Rattle.bcv_clientstate.specs.Parts.{Parts, mine_of, with_ledger}
use Rattle.bcv_clientstate.specs.SeenClient.{Free, seen_up, side_of}
use Rattle.bcv_clientstate.specs.SeenContainer.{container_of}
use Rattle.bcv_databases.specs.Sound.{KeepsViews}
use Rattle.bcv_databases.specs.declared.known.Known.{Known}
use Rattle.bcv_ledger.specs.declared.ledger.Ledger.{Ledger}
use Rattle.bcv_ledger.specs.LedgerNotes.{parts_in}
use Rattle.bcv_ledger.specs.NoteEnds.{ShutAfter}
use Rattle.bcv_publication.specs.TaskSides.{MayStep, done_answer, job_of, seen_task, with_job}
use Rattle.bcv_publish.specs.ManifestRead.{is_other}
use Rattle.bcv_publisher.specs.Settles.{known_made}

-- ---- what goes on

-- the machine's publication that goes on, where the answer says so
abbrev pub rest_of : Option PendingPub → List Writes → Reply → PublishTask → Option m.Publication
rest_of waiting view (reply.Working left) t = Some (seen_task waiting view t)
rest_of waiting view _ t = None

-- ---- what a step leaves, over every store and disk

-- what a ledger keeps and knows
abbrev pub Keeps : {D : Type 0} {g : _} → Ledger D g → Kept → List Known → Type 0
Keeps l kept known = (l.databases.kept ≡ kept) × (l.databases.known ≡ known)

-- what is kept once the intent of a publication stands
abbrev pub kept_waiting : Kept → PendingPub → Kept
kept_waiting k x = record k { pending = Some x }

-- nothing has changed but that the intent may stand
abbrev pub MayWait : {D : Type 0} {g : _} → Ledger D g → Ledger D g → PendingPub → Type 0
MayWait old new x = Keeps new old.databases.kept old.databases.known ⊎ Keeps new (kept_waiting old.databases.kept x) old.databases.known

-- the version was published, done is noted, and the databases of its manifest are known, unless that has another block size
-- than was seen
pub record Makes {D : Type 0} {g : _} (old new : Ledger D g) (seen : Seen) (x : PendingPub) (t : PublishTask) (moment : ℕ)
    (r : Reply) (u : PublishTask) : Type 0 where
  pub number : ℕ
  pub leaves : PutLeaves moment t (answer.Published number) u
  pub latest : Latest
  pub is_latest : latest_of u ≡ Some latest
  pub answers : r ≡ done_answer t number
  pub keeps :
      Keeps new (after_note (kept_waiting old.databases.kept x) (note.Done x.id number))
      (known_made (is_other seen.block latest.manifest.block) (kept_waiting old.databases.kept x) x.id number latest.manifest
      old.databases.known)

-- the put was refused for good, and void is noted
pub record Drops {D : Type 0} {g : _} (old new : Ledger D g) (x : PendingPub) (t : PublishTask) (moment : ℕ) (said : PutAnswer) (u : PublishTask) : Type 0 where
  pub leaves : PutLeaves moment t said u
  pub keeps : Keeps new (after_note (kept_waiting old.databases.kept x) (note.Void x.id)) old.databases.known

-- a task that goes on was refused; its intent stands
pub record GoesOn {D : Type 0} {g : _} (old new : Ledger D g) (x : PendingPub) (t : PublishTask) (moment : ℕ) (left : ℕ) (u : PublishTask) : Type 0 where
  pub leaves : PutLeaves moment t answer.Refused u
  pub running : IsRunning u
  pub two : left ≡ 2
  pub counted : left_of u ≡ 2
  pub keeps : Keeps new (kept_waiting old.databases.kept x) old.databases.known

-- what a step leaves, by what it answers
abbrev pub PutStepLeaves : {D : Type 0} {g : _} → Ledger D g → Ledger D g → Seen → PendingPub → PublishTask → ℕ → Reply
    → PublishTask → Type 0
PutStepLeaves old new seen x t moment (reply.Working left) u = GoesOn old new x t moment left u
PutStepLeaves old new seen x t moment (reply.Done n) u = Makes old new seen x t moment (reply.Done n) u
PutStepLeaves old new seen x t moment (reply.Cleaned deleted more) u = Makes old new seen x t moment (reply.Cleaned deleted more) u
PutStepLeaves old new seen x t moment (reply.Contended numbers) u = Drops old new x t moment (answer.Contended numbers) u
PutStepLeaves old new seen x t moment reply.Exists u = Drops old new x t moment answer.Exists u
PutStepLeaves old new seen x t moment (reply.Unknown id) u = (id ≡ x.id) × (u ≡ t) × Keeps new (kept_waiting old.databases.kept x) old.databases.known
PutStepLeaves old new seen x t moment reply.JournalFull u = (u ≡ t) × Keeps new old.databases.kept old.databases.known
PutStepLeaves old new seen x t moment reply.DiskFault u = MayWait old new x
PutStepLeaves old new seen x t moment reply.NoMemory u = MayWait old new x
PutStepLeaves old new seen x t moment _ u = ⊥

-- ---- over a store and a disk that tell

-- what a version more is seen by: its number, or none
abbrev pub version_added : List Item → List Item → Option ℕ
version_added past later =
    if m.version_count (container_of 0 past) == m.version_count (container_of 0 later) then None
    else Some (m.version_count (container_of 0 later))

-- a fault of the disk is answered where a failure is armed
abbrev pub Armed : Reply → Free → Type 0
Armed reply.DiskFault f = f.failing ≡ true
Armed _ f = Unit {0}

-- the machine takes the step of a publication, from the client's side over what others appended to its side over all
pub record StepGoes (moment : ℕ) (past later : List Item) (p next : Parts) (f free : Free) (q : m.Publication) (o : Outcome) (r : Reply)
    (rest : Option m.Publication) : Type 0 where
  pub second : Bool
  pub steps :
      StepsPublication q.read q.left (side_of moment past p f) (seen_up past p) q o
      (record { published = version_added past later; reply = r }) second (side_of moment later next free) rest

-- a step over a sound log: how the log grew, which outcome its request had, where one was made, and what the machine says
pub record StepSays {D : Type 0} {g : _} (shown : D → DiskShown) (store : StoreTold) (mine : List Id16) (before after : StoreShown)
    (old new : Ledger D g) (p next : Parts) (moment : ℕ) (q : m.Publication) (r : Reply) (rest : Option m.Publication) : Type 0 where
  pub growth : RequestGrowth store.alone mine before.log after.log
  pub made : Bool
  pub request : Outcome
  pub planned : store.plans → made ≡ true → request ≡ next_of before.plan
  pub unmade : made ≡ false → after ≡ before
  pub cause : made ≡ true → request ≢ outcome.Ok → Rose before.faults after.faults
  pub steps : (f : Free) → Journaled shown old.log old.databases.kept f → Armed r f
      → (free : Free) × Journaled shown new.log new.databases.kept free
      × ((o : Outcome) → (made ≡ true → o ≡ request)
      → StepGoes moment (history_of (before.log ++ growth.others)) (history_of after.log) p next f free q o r rest)

-- a step at a put over a sound log: how the log grew, which outcome its request had, where one was made, what the journal holds
-- then, and, where memory was there, what the machine says
pub record PutSays {D : Type 0} {g : _} (shown : D → DiskShown) (store : StoreTold) (mine : List Id16) (before after : StoreShown)
    (old new : Ledger D g) (p next : Parts) (moment : ℕ) (q : m.Publication) (r : Reply) (rest : Option m.Publication) : Type 0 where
  pub growth : RequestGrowth store.alone mine before.log after.log
  pub made : Bool
  pub request : Outcome
  pub planned : store.plans → made ≡ true → request ≡ next_of before.plan
  pub unmade : made ≡ false → after ≡ before
  pub cause : r ≢ reply.NoMemory → made ≡ true → request ≢ outcome.Ok → Rose before.faults after.faults
  pub steps : (f : Free) → Journaled shown old.log old.databases.kept f → Armed r f
      → (free : Free) × (free.slots ≡ f.slots) × Journaled shown new.log new.databases.kept free
      × (r ≢ reply.NoMemory → (o : Outcome) → (made ≡ true → o ≡ request)
      → StepGoes moment (history_of (before.log ++ growth.others)) (history_of after.log) p next f free q o r rest)

-- a client may put the manifest of its task: it stands over the log with the task, and only what is in the log was seen; the
-- names that are mine are the client's, and maybe more
pub record MayPutManifest (mine : List Id16) (log : List Entry) (p : Parts) (entries : List cache.Entry) (n : ℕ)
    (view : List Writes) (seen : Seen) (t : PublishTask) : Type 0 where
  pub step : MayStep log p entries n view t
  pub seen_is : FitsSeen (history_of log) seen
  pub own : Includes mine (mine_of (with_job n (job_of view t) p))

-- the step of a task's put, for each client that may make it over a log which others grow honestly
abbrev pub PutSteps : {D : Type 0} {g : _} → (D → DiskShown) → StoreTold → StoreShown → StoreShown → Ledger D g → Ledger D g → Seen
    → ℕ → PublishTask → ℕ → Reply → PublishTask → Type 0
PutSteps shown store before after old new seen taken t moment r u =
    (p : Parts) (entries : List cache.Entry) (n : ℕ) (view : List Writes) (mine : List Id16)
    → pending_of (length view) t ≡ pending_of taken t
    → MayPutManifest mine before.log (with_ledger (parts_in old) p) entries n view seen t
    → GrewHonestly store.alone mine before.log after.log
    → PutSays shown store mine before after old new (with_ledger (parts_in old) p) (with_ledger (parts_in new) p) moment
    (seen_task old.databases.kept.pending view t) r (rest_of new.databases.kept.pending view r u)

-- ---- the whole

-- it is open what became of a put only where the store's count of faults rose
abbrev pub UnknownCause : ℕ → ℕ → Reply → Type 0
UnknownCause before now (reply.Unknown id) = Rose before now
UnknownCause before now _ = Unit {0}

-- what a step at a task's put does
pub record PutStep {D : Type 0} {g : _} (told : DiskTold) (shown : D → DiskShown) (store : StoreTold) (before after : StoreShown)
    (old new : Ledger D g) (seen : Seen) (taken : ℕ) (t : PublishTask) (moment : ℕ) (r : Reply) (u : PublishTask) : Type 0 where
  pub leaves : PutStepLeaves old new seen (pending_of taken t) t moment r u
  pub views : KeepsViews old.databases.sets new.databases.sets
  -- the journal is closed exactly after a fault of the disk
  pub shut : ShutAfter (Some r) (is_shut new.log)
  pub disk : DiskFails told (shown (log_disk old.log)) (shown (log_disk new.log)) (r ≡ reply.DiskFault)
  pub later : before.faults ≤ after.faults
  pub unknown : UnknownCause before.faults after.faults r
  pub machine : store.tells → told.tells → PutSteps shown store before after old new seen taken t moment r u
