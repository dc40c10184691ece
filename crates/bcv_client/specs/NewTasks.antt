-- Asks that start a task: the first reason that holds is answered, and nothing has changed; else the task is the last one.
use Rattle.std.specs.Prelude.{◌≡◌, ◌⊎◌, ◌<◌, ℕ, Bool, true, false, List, length, Option, Some, None, Result, Ok, Err, is_some, not, nat_le, vec_capacity, vec_len, [], ◌∷◌, if◌then◌else◌}
use Rattle.bcv_base.specs.declared.id.Id16.{Id16}
use Rattle.bcv_base.specs.declared.log.Entry.{Entry}
use Rattle.bcv_base.specs.declared.names.Draw.TheVariants as draw
use Rattle.bcv_base.specs.Drawn.{Draws, NamesShown}
use Rattle.bcv_base.specs.History.{history_of}
use Rattle.bcv_base.specs.Ids.{IsId}
use Rattle.bcv_base.specs.Image.{or_else}
use Rattle.bcv_clientstate.specs.PartRefusals.{runs_publication}
use Rattle.bcv_clientstate.specs.SeenClient.{Free}
use Rattle.bcv_dbmap.specs.Past.{has_version}
use Rattle.bcv_databases.specs.Catalog.{View}
use Rattle.bcv_disk.specs.DiskShown.{DiskShown}
use Rattle.bcv_machine.specs.Refusals.{first_reason}
use Rattle.bcv_machine.specs.State as m
use Rattle.bcv_model.specs.declared.reply.Reply.{Reply}
use Rattle.bcv_model.specs.declared.reply.Reply.TheVariants as reply
use Rattle.bcv_tasks.specs.declared.publish_task.PublishTask.TheVariants as task
use Rattle.bcv_tasks.specs.State.{left_of}
use Rattle.bcv_client.specs.ClientParts.{parts_of}
use Rattle.bcv_client.specs.Events.{LocallyOver, StandsOver}
use Rattle.bcv_client.specs.TaskStarts.{OnlyTasks, StartsTask}
use Rattle.bcv_client.specs.declared.client.Client.{Client}
use Rattle.bcv_client.specs.declared.job.Job.{Job}
use Rattle.bcv_client.specs.declared.job.Job.TheVariants as job

-- nothing has changed
pub record IsUnmoved {D : Type 0} {g : _} (old new : Client D g) : Type 0 where
  pub only : OnlyTasks old new
  pub tasks : new.tasks.items ≡ old.tasks.items

abbrev pub IsTask : Reply → Type 0
IsTask (reply.Task n k) = Unit {0}
IsTask _ = ⊥

-- where there is a reason against it, it is answered, and else a task starts
abbrev pub StartsUnless : {D : Type 0} {g : _} → Client D g → Client D g → Option Reply → Job → ℕ → Reply → Type 0
StartsUnless old new (Some why) j left r = (r ≡ why) × IsUnmoved old new
StartsUnless old new None j left r = StartsTask old new j left r

-- ---- publications

-- the first reason against a publication, by what speaks against its kind alone
abbrev pub reason_with : Bool → Bool → Bool → Option Reply → Bool → Option Reply
reason_with closed pending busy own all =
    if closed then Some reply.Closed
    else (if pending then Some reply.Pending else (if busy then Some reply.Busy else or_else own (if all then Some reply.TooMany else None)))

abbrev pub resolve_reason_by : Bool → Bool → Bool → Bool → Option Reply
resolve_reason_by closed busy pending all =
    first_reason ((closed, reply.Closed) ∷ (busy, reply.Busy) ∷ (not pending, reply.Nothing) ∷ (all, reply.TooMany) ∷ [])

-- a database with commits is not removed
abbrev pub removal_reason_by : Option View → Option Reply
removal_reason_by None = None
removal_reason_by (Some v) = if is_some v.commits then Some reply.HasLocal else None

-- a job publishes or resolves
abbrev pub is_busy : Job → Bool
is_busy (job.Fetch access txn page) = false
is_busy job.Poll = false
is_busy (job.Publish set taken t) = true
is_busy job.Resolve = true

-- a publication may start, and there is room for its task
pub record CanPublish {D : Type 0} {g : _} (c : Client D g) : Type 0 where
  pub few : nat_le 16 (length c.tasks.items) ≡ false
  pub room : vec_len c.tasks < vec_capacity c.tasks
  pub quiet : runs_publication (parts_of c) ≡ false
  pub pending : c.ledger.databases.kept.pending ≡ None

-- a name is drawn, or the draw failed
abbrev pub DrawnAs : NamesShown → NamesShown → Result Id16 Reply → Type 0
DrawnAs before after (Ok id) = IsId id × Draws before after (draw.Drawn id)
DrawnAs before after (Err reply.NamesFault) = Draws before after draw.Failed
DrawnAs before after (Err _) = ⊥

-- where there is no reason against it and memory is there, a publication's name is drawn
abbrev pub DrawsUnless : {D : Type 0} {g : _} → Client D g → Client D g → NamesShown → NamesShown → Option Reply → Result Id16 Reply → Type 0
DrawsUnless old new before after None (Ok id) = IsUnmoved old new × CanPublish new × IsId id × Draws before after (draw.Drawn id)
DrawsUnless old new before after None (Err reply.NamesFault) = IsUnmoved old new × Draws before after draw.Failed
DrawsUnless old new before after None (Err reply.NoMemory) = IsUnmoved old new × (after ≡ before)
DrawsUnless old new before after (Some why) (Err r) = (r ≡ why) × IsUnmoved old new × (after ≡ before)
DrawsUnless old new before after _ _ = ⊥

-- how many requests a job has left as it starts
abbrev pub left_in : Job → ℕ
left_in (job.Publish set taken t) = left_of t
left_in _ = 1

-- where memory is missing no name was drawn, but for that of an upload, which asks for memory after the draw
abbrev pub DrewNone : Job → NamesShown → NamesShown → Id16 → Type 0
DrewNone (job.Publish set taken (task.Upload i s)) before after id = (after ≡ before) ⊎ Draws before after (draw.Drawn id)
DrewNone _ before after id = after ≡ before

-- one name is drawn exactly where a task starts; it is the publication's
abbrev pub StartsDrawn : {D : Type 0} {g : _} → Client D g → Client D g → NamesShown → NamesShown → Id16 → Job → Option Reply → Reply → Type 0
StartsDrawn old new before after id j (Some why) r = (r ≡ why) × IsUnmoved old new × (after ≡ before)
StartsDrawn old new before after id j None (reply.Task n k) = StartsTask old new j (left_in j) (reply.Task n k) × IsId id × Draws before after (draw.Drawn id)
StartsDrawn old new before after id j None reply.NamesFault = IsUnmoved old new × Draws before after draw.Failed
StartsDrawn old new before after id j None reply.NoMemory = IsUnmoved old new × DrewNone j before after id
StartsDrawn old new before after id j None _ = ⊥

-- no version has the name under which a task starts
abbrev pub IsFresh : Reply → List Entry → Id16 → Type 0
IsFresh (reply.Task n k) log id = has_version (history_of log) id ≡ false
IsFresh _ log id = Unit {0}

-- wherever the client stood it stands, and the machine starts the task under this name
abbrev pub StartsOver : {D : Type 0} {g : _} → (D → DiskShown) → (Id16 → m.Side → m.Up → m.Side → Type 0) → Client D g → Client D g → Id16 → Reply → Type 0
StartsOver shown Goes old new id r =
    (moment : ℕ) (log : List Entry) (f : Free) → StandsOver shown old log f → IsFresh r log id → LocallyOver shown (Goes id) old new moment log f r

-- a publication that does what the job of its name says is started, or not
pub record StartsPublication {D : Type 0} {g : _} (shown : D → DiskShown) (Goes : Id16 → m.Side → m.Up → m.Side → Type 0) (old new : Client D g) (before after : NamesShown)
    (why : Option Reply) (j : Id16 → Job) (r : Reply) : Type 0 where
  pub id : Id16
  pub starts : StartsDrawn old new before after id (j id) why r
  pub steps : StartsOver shown Goes old new id r
