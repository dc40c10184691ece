-- What the step of a publishing task says, whose task was taken out: it is the machine's, for every log over which the client
-- stands with the task.
use Rattle.std.specs.Prelude.{◌≡◌, ◌≤◌, ℕ, Bool, List, length, Option, Some, None, IfSome}
use Rattle.bcv_base.specs.declared.clock.Now.TheVariants as now
use Rattle.bcv_base.specs.declared.id.Id16.{Id16}
use Rattle.bcv_base.specs.declared.log.Entry.{Entry}
use Rattle.bcv_base.specs.declared.outcome.Outcome.{Outcome}
use Rattle.bcv_base.specs.Drawn.{AddsNames, NamesShown}
use Rattle.bcv_base.specs.History.{history_of}
use Rattle.bcv_base.specs.Image.{Writes}
use Rattle.bcv_base.specs.Moments.{ClockShown, Tells}
use Rattle.bcv_clientlaws.specs.OtherParts.{Includes}
use Rattle.bcv_clientlaws.specs.TaskLists.{with_task}
use Rattle.bcv_clientstate.specs.Fits.{FitsTask}
use Rattle.bcv_clientstate.specs.Parts as parts
use Rattle.bcv_clientstate.specs.Parts.{mine_of}
use Rattle.bcv_clientstate.specs.SeenClient.{Free}
use Rattle.bcv_clientstate.specs.Stages.{IsStagedTask}
use Rattle.bcv_databases.specs.Catalog.{Catalog}
use Rattle.bcv_dbmap.specs.Honest.{GrewHonestly}
use Rattle.bcv_disk.specs.DiskShown.{DiskShown, DiskTold}
use Rattle.bcv_machine.specs.State as m
use Rattle.bcv_machine.specs.Step.{StepsPublication}
use Rattle.bcv_model.specs.declared.reply.Reply.{Reply}
use Rattle.bcv_model.specs.declared.reply.Reply.TheVariants as reply
use Rattle.bcv_model.specs.declared.reply.Said.{Said}
use Rattle.bcv_publication.specs.TaskSides.{seen_task}
use Rattle.bcv_publisher.specs.PutStep.{rest_of}
use Rattle.bcv_publisher.specs.WorkStep.{AreUnused, IsEvent}
use Rattle.bcv_store.specs.StoreShown.{StoreShown, StoreTold}
use Rattle.bcv_tasks.specs.declared.publish_task.PublishTask.{PublishTask}
use Rattle.bcv_client.specs.ClientForm.{JobInForm}
use Rattle.bcv_client.specs.ClientParts.{parts_of}
use Rattle.bcv_client.specs.Events.{IsArmed, SawItsReads, StandsOver}
use Rattle.bcv_client.specs.Steps.{RequestOver}
use Rattle.bcv_client.specs.TaskParts.{done_by, sets_in, task_view}
use Rattle.bcv_client.specs.declared.client.Client.{Client}
use Rattle.bcv_client.specs.declared.job.Job.TheVariants as job

-- ---- the client with the task

-- the commits that a task uploads, of the set of a place
abbrev pub view_at : Catalog → ℕ → PublishTask → List Writes
view_at c set t = task_view (sets_in c set) t

-- the task of a number as plain data
abbrev pub publishing_part : Catalog → ℕ → ℕ → ℕ → PublishTask → parts.Task
publishing_part c n set taken t = record { number = n; job = done_by c (job.Publish set taken t) }

-- the names that are the client's while it has the task
abbrev pub mine_with : {D : Type 0} {g : _} → Client D g → ℕ → ℕ → ℕ → PublishTask → List Id16
mine_with c n set taken t = mine_of (with_task (publishing_part c.ledger.databases n set taken t) (parts_of c))

-- a publishing task fits a log, is at a stage, and what it read before refused puts lies in the log
pub record TaskFitsLog (mine : List Id16) (writer : Id16) (c : Catalog) (log : List Entry) (n set taken : ℕ)
    (t : PublishTask) : Type 0 where
  pub fits : FitsTask mine writer c.kept log (publishing_part c n set taken t)
  pub staged : IsStagedTask (publishing_part c n set taken t)
  pub saw : SawItsReads (history_of log) (job.Publish set taken t)

-- a client of which a publishing task was taken out stands over a log with the task
pub record StandsWith {D : Type 0} {g : _} (shown : D → DiskShown) (c : Client D g) (n set taken : ℕ) (t : PublishTask)
    (log : List Entry) (f : Free) : Type 0 where
  pub stands : StandsOver shown c log f
  pub task : TaskFitsLog (mine_with c n set taken t) c.id c.ledger.databases log n set taken t

-- ---- the step over a log

-- the machine's publication that a task of the client is
abbrev pub publication_of : Catalog → ℕ → PublishTask → m.Publication
publication_of c set t = seen_task c.kept.pending (view_at c set t) t

-- what goes on of it, where the reply says so
abbrev pub publication_left : Catalog → ℕ → Reply → PublishTask → Option m.Publication
publication_left c set r u = rest_of c.kept.pending (view_at c set u) r u

-- the machine makes the step of a publication, of which this is left
abbrev pub StepsOnce : m.Publication → Option m.Publication → m.Side → m.Up → Outcome → Said → Bool → m.Side → Type 0
StepsOnce q rest s u o said second t = StepsPublication q.read q.left s u q o said second t rest

-- a task that goes on fits the log
abbrev pub GoesOnOver : List Id16 → Id16 → Catalog → List Entry → ℕ → ℕ → ℕ → Reply → PublishTask → Type 0
GoesOnOver mine writer c log n set taken (reply.Working left) u = TaskFitsLog mine writer c log n set taken u
GoesOnOver mine writer c log n set taken _ u = Unit {0}

-- a step over a log: the client stands afterwards without the task, a task that goes on fits, and an event is the machine's step
pub record PublicationOver {D : Type 0} {g : _} (IsOne : Type 0) (shown : D → DiskShown) (store : StoreTold) (mine : List Id16)
    (before after : StoreShown) (old new : Client D g) (moment : ℕ) (f : Free) (n set taken : ℕ) (t : PublishTask) (r : Reply)
    (u : PublishTask) : Type 0 where
  pub over :
      RequestOver (StepsOnce (publication_of old.ledger.databases set t) (publication_left new.ledger.databases set r u))
      IsOne shown store mine before after old new moment f r
  pub on : GoesOnOver mine new.id new.ledger.databases after.log n set taken r u

-- ---- names and moments

-- the clock gave this moment, or was not asked, or failed
abbrev pub ReadsMoment : ClockShown → ClockShown → Option ℕ → Type 0
ReadsMoment old new (Some moment) = Tells old new (now.At moment)
ReadsMoment old new None = Unit {0}

-- ---- the whole

-- the step of a publishing task that was taken out: at most one name was drawn, and for each client that stands with the task
-- over a log which others grow honestly, where the drawn name is the client's and unused and the moment is the clock's, it is
-- one request
pub record StepsTask {D : Type 0} {g : _} (told : DiskTold) (shown : D → DiskShown) (store : StoreTold)
    (before after : StoreShown) (names later_names : NamesShown) (clock later_clock : ClockShown) (old new : Client D g)
    (set taken : ℕ) (t : PublishTask) (r : Reply) (u : PublishTask) : Type 0 where
  pub ids : List Id16
  pub drawn : AddsNames names.drawn later_names.drawn ids
  pub few : length ids ≤ 1
  pub at : Option ℕ
  pub reads : ReadsMoment clock later_clock at
  pub over : store.tells → told.tells → (n moment : ℕ) (mine : List Id16) (f : Free)
      → StandsWith shown old n set taken t before.log f
      → Includes mine (mine_with old n set taken t) → Includes mine ids → AreUnused (history_of before.log) ids
      → IfSome at (λ x. x ≡ moment) → GrewHonestly store.alone mine before.log after.log → IsArmed r f
      → PublicationOver (IsEvent names later_names clock later_clock r) shown store mine before after old new moment f n set taken
      t r u

-- ---- whatever the store and the disk tell

-- but for the ledger, the transactions' cache, and what was seen and read, nothing has changed
pub record OnlyPublishes {D : Type 0} {g : _} (old new : Client D g) : Type 0 where
  pub id : new.id ≡ old.id
  pub tasks : new.tasks ≡ old.tasks
  pub opened : new.txns.txns ≡ old.txns.txns
  pub slots : new.txns.slots ≡ old.txns.slots
  pub taken : new.taken ≡ old.taken

-- a task that goes on is in form
abbrev pub StaysInForm : {D : Type 0} {g : _} → Client D g → ℕ → ℕ → Reply → PublishTask → Type 0
StaysInForm c set taken (reply.Working left) u = JobInForm c.seen c.ledger.databases c.txns (job.Publish set taken u)
StaysInForm c set taken _ u = Unit {0}
