-- The put of a publishing task in the machine's words, whatever it publishes.
use Rattle.std.specs.Prelude.{◌≡◌, ◌<◌, ◌^◌, ℕ, true, false, List, [], ◌∷◌, ◌++◌, length, Option, Some, None}
use Rattle.std.specs.List.{AllByRecursion}
use Rattle.bcv_base.specs.declared.log.Entry.{Entry}
use Rattle.bcv_base.specs.declared.manifest.Manifest.{Manifest}
use Rattle.bcv_base.specs.declared.seen.Latest.{Latest}
use Rattle.bcv_base.specs.History.{history_of, last_of}
use Rattle.bcv_base.specs.Image.{Writes}
use Rattle.bcv_base.specs.Versions.{version_of}
use Rattle.bcv_cache.specs.Entry as cache
use Rattle.bcv_cleanup.specs.State as cleanup
use Rattle.bcv_dbmap.specs.Sound.{Sound}
use Rattle.bcv_machine.specs.ManifestPut.{IsNext, IsRefused, is_last_try, last_refusal, tried_again}
use Rattle.bcv_machine.specs.State as m
use Rattle.bcv_model.specs.declared.kept.PendingPub.{PendingPub}
use Rattle.bcv_model.specs.declared.note.Note.TheVariants as note
use Rattle.bcv_model.specs.declared.reply.Reply.{Reply}
use Rattle.bcv_model.specs.declared.reply.Reply.TheVariants as reply
use Rattle.bcv_model.specs.Notes.{after_note}
use Rattle.bcv_tasks.specs.declared.publish_task.PublishTask.{PublishTask}
use Rattle.bcv_tasks.specs.declared.publish_task.PublishTask.TheVariants as task
use Rattle.bcv_tasks.specs.declared.put_answer.PutAnswer.{PutAnswer}
use Rattle.bcv_tasks.specs.declared.put_answer.PutAnswer.TheVariants as answer
use Rattle.bcv_tasks.specs.State.{IsRunning, brought, is_ready, latest_of, left_of, pending_of, writer_of}
use Rattle.bcv_tasks.specs.TaskPut.{Appends, IsPassed, IsStillLast, PutLeaves}
use Rattle.bcv_clientstate.specs.Fits.{Fits}
use Rattle.bcv_clientstate.specs.KnownLaws.{known_of}
use Rattle.bcv_clientstate.specs.Parts.{Job, Creating, Copying, Uploading as Uploads, Cleaning, Task, Parts}
use Rattle.bcv_clientstate.specs.SeenClient.{seen_cleaning, seen_copying, seen_create, seen_uploading}
use Rattle.bcv_clientstate.specs.SeenContainer.{container_of}
use Rattle.bcv_publication.specs.PutSides.{AnswersDone, Appended, AreKnownAt, IsQuiet, Tried, waiting}
use Rattle.bcv_ledger.specs.Begins.{WaitsFor}

-- ---- what a task is seen as

-- the machine's publication that a task is, which uploads the commits of a view, where it uploads some
abbrev pub seen_task : Option PendingPub → List Writes → PublishTask → m.Publication
seen_task before view (task.Create c) = seen_create before c.block c.retention c.id
seen_task before view (task.Copy id s) = seen_copying before s
seen_task before view (task.Upload id s) = seen_uploading before s view
seen_task before view (task.Cleanup id s) = seen_cleaning before s

-- the client's job that it is
abbrev pub job_of : List Writes → PublishTask → Job
job_of view (task.Create c) = Creating c.block c.retention c.id
job_of view (task.Copy id s) = Copying s
job_of view (task.Upload id s) = Uploads s view
job_of view (task.Cleanup id s) = Cleaning s

-- the number of the manifest that its put is made over; a create is as though it had read number 0
abbrev pub number_read : Option Latest → ℕ
number_read None = 0
number_read (Some l) = l.manifest.number

-- ---- a client with the task

-- the client with a task more
abbrev pub with_job : ℕ → Job → Parts → Parts
with_job n job p = record p { tasks = record { number = n; job = job } ∷ p.tasks }

-- with the task, of which it is the writer and which is the one that may be pending, the client stands over a log, and its other tasks publish nothing; an
-- upload takes no more commits than a note can count
pub record MayStep (log : List Entry) (p : Parts) (entries : List cache.Entry) (n : ℕ) (view : List Writes) (t : PublishTask) : Type 0 where
  pub sound : Sound (history_of log)
  pub fits : Fits (with_job n (job_of view t) p) entries log
  pub quiet : AllByRecursion (λ (x : Task). IsQuiet x.job) p.tasks
  pub running : IsRunning t
  pub writer : writer_of t ≡ p.id
  pub waits : WaitsFor p.kept.pending (pending_of (length view) t)
  pub count : length view < 2 ^ 64

-- the task's put may be tried, and its intent may stand
abbrev pub TaskIsTried : Type 0
TaskIsTried =
    (log : List Entry) (p : Parts) (entries : List cache.Entry) (n : ℕ) (view : List Writes) (t : PublishTask) → MayStep log p entries n view t → is_ready t ≡ true
    → Tried (history_of log) p (seen_task p.kept.pending view t) (pending_of (length view) t)

-- ---- its put

-- what is appended is the version that the machine makes of the publication
abbrev pub TaskIsAppended : Type 0
TaskIsAppended =
    (moment : ℕ) (log own after : List Entry) (p : Parts) (entries : List cache.Entry) (n : ℕ) (view : List Writes) (t : PublishTask) (brings : Manifest) (number : ℕ)
    → MayStep log p entries n view t → is_ready t ≡ true → IsStillLast (last_of (history_of log)) (latest_of t) → brought t moment ≡ Some brings → after ≡ log ++ own
    → Appends own brings (Some number) → Sound (history_of after)
    → Appended moment (history_of log) (history_of after) p (seen_task p.kept.pending view t) (version_of (history_of log) brings)

-- where the last manifest is still the one that was read, its number is the container's, and the next one is published
abbrev pub StillIsNext : Type 0
StillIsNext =
    (moment : ℕ) (log : List Entry) (t : PublishTask) (brings : Manifest) → Sound (history_of log) → IsRunning t → IsStillLast (last_of (history_of log)) (latest_of t)
    → brought t moment ≡ Some brings → IsNext (container_of moment (history_of log)) (number_read (latest_of t)) brings.number

-- where another publication came in between, the machine refuses the put
abbrev pub PassedIsRefused : Type 0
PassedIsRefused =
    (moment : ℕ) (log : List Entry) (read : Option Latest) → Sound (history_of log) → IsPassed (last_of (history_of log)) read
    → IsRefused (container_of moment (history_of log)) (number_read read)

-- the databases of the manifest are known then as the machine knows them
abbrev pub DoneIsKnown : Type 0
DoneIsKnown =
    (log : List Entry) (p : Parts) (x : PendingPub) (brings : Manifest)
    → AreKnownAt x brings.number (known_of (after_note (waiting x p).kept (note.Done x.id brings.number)) brings) p (version_of (history_of log) brings)

-- ---- what it answers

-- what a put that published answers a task's caller
abbrev pub done_answer : PublishTask → ℕ → Reply
done_answer (task.Cleanup id s) n = reply.Cleaned (length (cleanup.taken_ids s)) s.more
done_answer _ n = reply.Done n

-- the machine answers so
abbrev pub DoneIsAnswered : Type 0
DoneIsAnswered =
    (before : Option PendingPub) (view : List Writes) (t : PublishTask) (n : ℕ) → IsRunning t → is_ready t ≡ true → AnswersDone (seen_task before view t) n (done_answer t n)

-- a refused put is the last one where the answer says that it is
abbrev pub IsLastAnswer : PutAnswer → m.Publication → ℕ → Type 0
IsLastAnswer answer.Refused q read = is_last_try q.kind q.refused ≡ false
IsLastAnswer (answer.Contended numbers) q read = (is_last_try q.kind q.refused ≡ true) × (last_refusal q.kind (q.refused ++ read ∷ []) ≡ reply.Contended numbers)
IsLastAnswer answer.Exists q read = (is_last_try q.kind q.refused ≡ true) × (last_refusal q.kind (q.refused ++ read ∷ []) ≡ reply.Exists)
IsLastAnswer _ q read = Unit {0}

abbrev pub RefusalIsAnswered : Type 0
RefusalIsAnswered =
    (moment : ℕ) (before : Option PendingPub) (view : List Writes) (t u : PublishTask) (result : PutAnswer) → IsRunning t → is_ready t ≡ true → PutLeaves moment t result u
    → IsLastAnswer result (seen_task before view t) (number_read (latest_of t))

-- a task that goes on is the machine's publication that is tried again
abbrev pub RefusedIsTriedAgain : Type 0
RefusedIsTriedAgain =
    (moment : ℕ) (before : Option PendingPub) (view : List Writes) (t u : PublishTask) → IsRunning t → is_ready t ≡ true → PutLeaves moment t answer.Refused u → left_of u ≡ 2
    → seen_task (Some (pending_of (length view) t)) view u ≡ tried_again (seen_task before view t) (number_read (latest_of t))
