-- The step of a publication before its put: one request, and void where it ends while pending.
use Rattle.std.specs.Prelude.{◌≡◌, ◌≢◌, ◌+◌, ◌≤◌, ◌⊎◌, ℕ, true, false, List, [], ◌∷◌, ◌++◌, length, Option, Some, None, IfSome, IsSome, if◌then◌else◌, is_none}
use Rattle.bcv_base.specs.declared.clock.Now.TheVariants as now
use Rattle.bcv_base.specs.declared.id.Id16.{Id16}
use Rattle.bcv_base.specs.declared.log.Entry.{Entry}
use Rattle.bcv_base.specs.declared.outcome.Outcome.{Outcome}
use Rattle.bcv_base.specs.declared.outcome.Outcome.TheVariants as outcome
use Rattle.bcv_base.specs.declared.seen.Seen.{Seen}
use Rattle.bcv_base.specs.Drawn.{AddsNames, NamesShown}
use Rattle.bcv_base.specs.Faults.{Rose}
use Rattle.bcv_base.specs.History.{Item, first_put, history_of}
use Rattle.bcv_base.specs.Ids.{IsId, has_id}
use Rattle.bcv_base.specs.Image.{Writes}
use Rattle.bcv_base.specs.Moments.{ClockShown, Tells}
use Rattle.bcv_cache.specs.Entry.{Blocks}
use Rattle.bcv_cache.specs.Entry as cache
use Rattle.bcv_cleanup.specs.Released.{RuleAnswers}
use Rattle.bcv_clientlaws.specs.OtherParts.{Includes}
use Rattle.bcv_clientlog.specs.LogParts.{Holds, LoadsUpTo, is_shut, log_area, log_disk, log_tail}
use Rattle.bcv_clientstate.specs.Fits.{Fits, FitsJob, FitsSeen}
use Rattle.bcv_clientstate.specs.Journaled.{Journaled}
use Rattle.bcv_clientstate.specs.PartRefusals.{runs_publication}
use Rattle.bcv_clientstate.specs.Parts.{Parts, mine_of, with_ledger}
use Rattle.bcv_clientstate.specs.SeenClient.{Free}
use Rattle.bcv_clientstate.specs.Stages.{IsStagedJob}
use Rattle.bcv_databases.specs.Sound.{KeepsViews}
use Rattle.bcv_dbmap.specs.Honest.{GrewHonestly}
use Rattle.bcv_dbmap.specs.Past.{was_listed}
use Rattle.bcv_dbmap.specs.RequestGrowth.{RequestGrowth}
use Rattle.bcv_dbmap.specs.declared.fault.EditFault.TheVariants as fault
use Rattle.bcv_disk.specs.Crash.{LeavesOnly}
use Rattle.bcv_disk.specs.DiskCalls.{DiskFails}
use Rattle.bcv_disk.specs.DiskShown.{DiskShown, DiskTold}
use Rattle.bcv_ledger.specs.declared.ledger.Ledger.{Ledger}
use Rattle.bcv_ledger.specs.LedgerNotes.{parts_in}
use Rattle.bcv_ledger.specs.NoteEnds.{ShutAfter}
use Rattle.bcv_model.specs.declared.note.Note.TheVariants as note
use Rattle.bcv_model.specs.declared.reply.Reply.{Reply}
use Rattle.bcv_model.specs.declared.reply.Reply.TheVariants as reply
use Rattle.bcv_model.specs.Notes.{after_note}
use Rattle.bcv_publication.specs.TaskSides.{MayStep, job_of, seen_task, with_job}
use Rattle.bcv_publish.specs.declared.work.Work.{Work}
use Rattle.bcv_publish.specs.declared.work.Work.TheVariants as work
use Rattle.bcv_publish.specs.State as publish
use Rattle.bcv_store.specs.Plans.{next_of}
use Rattle.bcv_store.specs.StoreShown.{StoreShown, StoreTold}
use Rattle.bcv_tasks.specs.declared.publish_task.PublishTask.{PublishTask}
use Rattle.bcv_tasks.specs.declared.publish_task.PublishTask.TheVariants as task
use Rattle.bcv_tasks.specs.KindsWork.{KindWorks}
use Rattle.bcv_tasks.specs.State.{IsRunning, id_of, is_ready, latest_of, left_of, pending_of, publish_of}
use Rattle.bcv_tasks.specs.TaskWork.{TaskWorks, WorkLeaves, WorksAs, cache_after}
use Rattle.bcv_publisher.specs.PutStep.{Armed, Keeps, StepGoes, rest_of}
use Rattle.bcv_publisher.specs.WorkEnds.{EndsWork}

-- ---- over every store and disk

-- the reply says what the request came to, but for a fault of the void's note and want of memory
abbrev pub IsReplyTo : Reply → Work → Type 0
IsReplyTo (reply.Working left) w = w ≡ work.More
IsReplyTo (reply.Cleaned deleted more) w = (w ≡ work.Nothing) × (deleted ≡ 0) × (more ≡ false)
IsReplyTo reply.VersionsFull w = w ≡ work.Fault fault.VersionsFull
IsReplyTo reply.Exists w = w ≡ work.Fault fault.Exists
IsReplyTo reply.PageTooLarge w = w ≡ work.Fault fault.PageTooLarge
IsReplyTo reply.TooLarge w = w ≡ work.Fault fault.TooLarge
IsReplyTo reply.TooManyDatabases w = w ≡ work.Fault fault.TooManyDatabases
IsReplyTo reply.NoDatabase w = w ≡ work.Fault fault.NoDatabase
IsReplyTo (reply.Conflict mine theirs) w = w ≡ work.Fault (fault.Conflict mine theirs)
IsReplyTo reply.WritersFull w = w ≡ work.Fault fault.WritersFull
IsReplyTo reply.DeleteListFull w = w ≡ work.Fault fault.DeleteListFull
IsReplyTo reply.ManifestTooLong w = w ≡ work.Fault fault.ManifestTooLong
IsReplyTo reply.NoContainer w = w ≡ work.NoContainer
IsReplyTo (reply.BadManifest at) w = w ≡ work.BadManifest at
IsReplyTo reply.Gone w = w ≡ work.Gone
IsReplyTo (reply.BadBlock len) w = w ≡ work.BadBlock len
IsReplyTo reply.NameTaken w = w ≡ work.NameTaken
IsReplyTo reply.StoreFault w = w ≡ work.StoreFault
IsReplyTo reply.NamesFault w = w ≡ work.NamesFault
IsReplyTo reply.ClockFault w = w ≡ work.ClockFault
IsReplyTo reply.DiskFault w = (w ≢ work.More) × (w ≢ work.NoMemory)
IsReplyTo reply.NoMemory w = w ≢ work.More
IsReplyTo _ w = ⊥

-- what the ledger keeps: after a fault nothing is pending, but where void could not be noted
abbrev pub LeavesLedger : {D : Type 0} {g : _} → Ledger D g → Ledger D g → PublishTask → Reply
    → Type 0
LeavesLedger old new t (reply.Working left) = new ≡ old
LeavesLedger old new t reply.DiskFault =
    IsSome old.databases.kept.pending × Keeps new old.databases.kept old.databases.known
LeavesLedger old new t reply.NoMemory = Keeps new old.databases.kept old.databases.known
LeavesLedger old new t _ =
    Keeps new (after_note old.databases.kept (note.Void (id_of t))) old.databases.known

-- a get of the manifest leaves the intent as it was
abbrev pub KeepsIntent : PublishTask → PublishTask → Type 0
KeepsIntent t u = latest_of t ≡ None → (taken : ℕ) → pending_of taken u ≡ pending_of taken t

-- a task that goes on
abbrev pub LeavesTask : PublishTask → Reply → PublishTask → Type 0
LeavesTask t (reply.Working left) u = IsRunning u × (left ≡ left_of u) × KeepsIntent t u
LeavesTask t _ u = Unit {0}

-- a fault is answered only where its object's count of faults rose
abbrev pub WorkCauses : StoreShown → StoreShown → NamesShown → NamesShown → ClockShown → ClockShown
    → Reply → Type 0
WorkCauses before after names later_names clock later_clock reply.StoreFault =
    Rose before.faults after.faults
WorkCauses before after names later_names clock later_clock reply.NamesFault =
    Rose names.faults later_names.faults
WorkCauses before after names later_names clock later_clock reply.ClockFault =
    Rose clock.faults later_clock.faults
WorkCauses before after names later_names clock later_clock _ = Unit {0}

-- ---- over a store and a disk that tell

-- no manifest has listed one of these names, and nothing was put under one
abbrev pub AreUnused : List Item → List Id16 → Type 0
AreUnused past ids =
    (i : Id16) → has_id i ids ≡ true → (was_listed past i ≡ false) × (first_put past i ≡ None)

-- what a publication read before refused puts, as what was seen: the next manifest has a number
-- above
abbrev pub number_above : Option ℕ → ℕ
number_above None = 0
number_above (Some n) = n + 1

abbrev pub seen_before : publish.State → Seen
seen_before p = record { block = p.block; number = number_above (publish.last_number p.refused) }

-- the names that were drawn for blocks
abbrev pub drawn_ids : (store : StoreTold) (a b : StoreShown) (c d : NamesShown) (e f : ClockShown)
    (seen : Seen) (view : List Writes) (blocks : Blocks) (t : PublishTask) (made : Work)
    (u : PublishTask) → WorksAs store a b c d e f seen view blocks t made u → List Id16
drawn_ids store a b c d e f seen view blocks (task.Copy id s) made (task.Copy i v) kind = kind.0.ids
drawn_ids store a b c d e f seen view blocks (task.Upload id s) made (task.Upload i v) kind =
    kind.0.ids
drawn_ids store a b c d e f seen view blocks t made u kind = []

-- a client may make the step: it stands over the log with the task, no other task publishes or
-- resolves, and only what is in the log was seen; the names that are mine are the client's and the
-- drawn ones, which are unused
pub record MayWork (mine : List Id16) (log : List Entry) (p : Parts) (entries : List cache.Entry)
    (n : ℕ) (view : List Writes) (seen : Seen) (t : PublishTask) (ids : List Id16) : Type 0 where
  pub step : MayStep log p entries n view t
  pub alone : runs_publication p ≡ false
  pub seen_is : FitsSeen (history_of log) seen
  pub read_is : FitsSeen (history_of log) (seen_before (publish_of t))
  pub own : Includes mine (mine_of (with_job n (job_of view t) p))
  pub drawn : Includes mine ids
  pub unused : AreUnused (history_of log) ids

-- a task that goes on fits
abbrev pub TaskFits : List Id16 → Parts → List Entry → List Writes → Reply → PublishTask → Type 0
TaskFits mine p log view (reply.Working left) u =
    FitsJob mine p.id p.kept log (job_of view u) × IsStagedJob (job_of view u)
    × FitsSeen (history_of log) (seen_before (publish_of u))
TaskFits mine p log view _ u = Unit {0}

-- the moment that a cleanup read of the clock in a step, where it read one
abbrev pub moment_read : PublishTask → PublishTask → Option ℕ
moment_read (task.Cleanup id s) (task.Cleanup i t) = if is_none s.moment then t.moment else None
moment_read _ _ = None

-- memory, a name and a moment were found, so the step is an event of the machine
pub record IsEvent (names later_names : NamesShown) (clock later_clock : ClockShown)
    (r : Reply) : Type 0 where
  pub memory : r ≢ reply.NoMemory
  pub name : Rose names.faults later_names.faults → ⊥
  pub moment : Rose clock.faults later_clock.faults → ⊥

-- what is free after a step, of the same slots, and that the journal holds what is kept; an event is
-- the machine's step, at the moment that a cleanup read
pub record WorkJournals {D : Type 0} {g : _} (shown : D → DiskShown) (before after : List Entry)
    (names later_names : NamesShown) (clock later_clock : ClockShown) (old new : Ledger D g) (p : Parts)
    (view : List Writes) (t : PublishTask) (request : Outcome) (r : Reply) (u : PublishTask) (f : Free) :
    Type 0 where
  pub free : Free
  pub slots : free.slots ≡ f.slots
  pub journaled : Journaled shown new.log new.databases.kept free
  pub goes : IsEvent names later_names clock later_clock r → (moment : ℕ)
      → IfSome (moment_read t u) (λ at. at ≡ moment)
      → StepGoes moment (history_of before) (history_of after) (with_ledger (parts_in old) p)
      (with_ledger (parts_in new) p) f free (seen_task old.databases.kept.pending view t) request r
      (rest_of new.databases.kept.pending view r u)

-- whatever is answered the log has grown by lawful entries, the client fits it, without the task and
-- with it where it goes on, and its journal holds what it keeps; an event is the machine's step, from
-- what others appended to all, under the outcome that the request had
pub record WorkSays {D : Type 0} {g : _} (shown : D → DiskShown) (store : StoreTold)
    (mine : List Id16) (before after : StoreShown) (names later_names : NamesShown)
    (clock later_clock : ClockShown) (later_c : Blocks) (old new : Ledger D g) (p : Parts)
    (view : List Writes) (t : PublishTask) (r : Reply) (u : PublishTask) : Type 0 where
  pub growth : RequestGrowth store.alone mine before.log after.log
  pub client : Fits (with_ledger (parts_in new) p) later_c.entries after.log
  pub job : TaskFits mine (with_ledger (parts_in new) p) after.log view r u
  pub request : Outcome
  pub planned : store.plans → request ≡ next_of before.plan
  pub cause : IsEvent names later_names clock later_clock r → request ≢ outcome.Ok
      → Rose before.faults after.faults
  pub journals : (f : Free) → Journaled shown old.log old.databases.kept f → Armed r f
      → WorkJournals shown (before.log ++ growth.others) after.log names later_names clock later_clock
      old new p view t request r u f

-- the step, for each client that may make it over a log which others grow honestly
abbrev pub WorkSteps : {D : Type 0} {g : _} → (D → DiskShown) → StoreTold → StoreShown → StoreShown
    → NamesShown → NamesShown → ClockShown → ClockShown → List Id16 → Seen → List Writes → Blocks
    → Blocks → Ledger D g → Ledger D g → PublishTask → Reply → PublishTask → Type 0
WorkSteps shown store before after names later_n clock later_k ids seen view c d old new t r u =
    (p : Parts) (n : ℕ) (mine : List Id16)
    → MayWork mine before.log (with_ledger (parts_in old) p) c.entries n view seen t ids
    → GrewHonestly store.alone mine before.log after.log
    → WorkSays shown store mine before after names later_n clock later_k d old new p view t r u

-- ---- the whole

-- what a step before a put does: what its request came to, of each kind and of all; what it leaves
-- of task, cache and ledger; and when each fault is answered
pub record WorkStep {D : Type 0} {g : _} (told : DiskTold) (shown : D → DiskShown)
    (store : StoreTold) (before after : StoreShown) (names later_names : NamesShown)
    (clock later_clock : ClockShown) (answers : RuleAnswers) (seen : Seen) (view : List Writes)
    (c later_c : Blocks) (old new : Ledger D g) (t : PublishTask) (r : Reply)
    (u : PublishTask) : Type 0 where
  pub made : Work
  pub leaves : WorkLeaves answers seen view c t made u
  pub kind : WorksAs store before after names later_names clock later_clock seen view c t made u
  pub works : TaskWorks store before after names later_names clock later_clock view c t made u
  -- at most one name was drawn, and the moment that a cleanup read is the clock's
  pub drawn : AddsNames names.drawn later_names.drawn
      (drawn_ids store before after names later_names clock later_clock seen view c t made u kind)
  pub few : length (drawn_ids store before after names later_names clock later_clock seen view c t made
      u kind) ≤ 1
  pub reads : IfSome (moment_read t u) (λ at. Tells clock later_clock (now.At at))
  pub ends : EndsWork told shown old new u made r
  pub is_reply : IsReplyTo r made
  pub task : LeavesTask t r u
  pub ledger : LeavesLedger old new t r
  pub views : KeepsViews old.databases.sets new.databases.sets
  pub cache : later_c ≡ cache_after view t c
  pub causes : WorkCauses before after names later_names clock later_clock r
  -- the journal is closed exactly after a fault of the disk
  pub shut : ShutAfter (Some r) (is_shut new.log)
  pub disk :
      DiskFails told (shown (log_disk old.log)) (shown (log_disk new.log)) (r ≡ reply.DiskFault)
  pub later : before.faults ≤ after.faults
  -- nothing was noted, or a crash at any moment of it leaves what was kept, or that with the void
  pub any_moment : told.tells → Holds shown old.log old.databases.kept
      → IsSome old.databases.kept.me → IsId (id_of t)
      → (new ≡ old)
      ⊎ LeavesOnly (shown (log_disk old.log)) (shown (log_disk new.log))
      (LoadsUpTo old.databases.kept (log_tail old.log + log_area old.log)
      (note.Void (id_of t) ∷ []))
  pub machine : store.tells → told.tells
      → WorkSteps shown store before after names later_names clock later_clock
      (drawn_ids store before after names later_names clock later_clock seen view c t made u kind)
      seen view c later_c old new t r u

-- ---- from its request

-- a request of a task that is not ready, over a cache: what it came to, and what it left
pub record TaskRequest (answers : RuleAnswers) (store : StoreTold) (before after : StoreShown)
    (names later_names : NamesShown) (clock later_clock : ClockShown) (seen : Seen) (view : List Writes)
    (c later_c : Blocks) (t : PublishTask) (made : Work) (u : PublishTask) : Type 0 where
  pub not_ready : is_ready t ≡ false
  pub step : KindWorks answers store before after names later_names clock later_clock seen view c t made u
  pub cache : later_c ≡ cache_after view t c
  pub running : made ≡ work.More → IsRunning u

-- it is the step of its publication, once what it came to is noted
abbrev pub RequestIsStep : {D : Type 0} {g : _} → DiskTold → (D → DiskShown) → RuleAnswers → StoreTold
    → Ledger D g → Ledger D g → Type 0
RequestIsStep told shown answers store old new =
    (before after : StoreShown) (names later_names : NamesShown) (clock later_clock : ClockShown)
    (seen : Seen) (view : List Writes) (c later_c : Blocks) (t : PublishTask) (made : Work) (r : Reply)
    (u : PublishTask) → is_shut old.log ≡ false
    → IfSome old.databases.kept.pending (λ x. x.id ≡ id_of t)
    → TaskRequest answers store before after names later_names clock later_clock seen view c later_c t
    made u → EndsWork told shown old new u made r
    → WorkStep told shown store before after names later_names clock later_clock answers seen view c
    later_c old new t r u
