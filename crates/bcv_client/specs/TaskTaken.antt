-- The task of a number is taken out of the list for its step, or has ended; or there is none.
use Rattle.std.specs.Prelude.{◌≡◌, ◌<◌, ℕ, Bool, true, false, List, [], ◌∷◌, ◌++◌, length, nat_le, Some, None, Result, Ok, Err, vec_capacity, vec_len}
use Rattle.bcv_base.specs.declared.log.Entry.{Entry}
use Rattle.bcv_base.specs.declared.outcome.Outcome.{Outcome}
use Rattle.bcv_clientlog.specs.LogParts.{is_shut}
use Rattle.bcv_clientstate.specs.PartRefusals.{runs_publication}
use Rattle.bcv_clientstate.specs.SeenClient.{Free}
use Rattle.bcv_disk.specs.DiskShown.{DiskShown}
use Rattle.bcv_machine.specs.State as m
use Rattle.bcv_machine.specs.Step.{Steps}
use Rattle.bcv_model.specs.declared.reply.Reply.{Reply}
use Rattle.bcv_model.specs.declared.reply.Reply.TheVariants as reply
use Rattle.bcv_slots.specs.declared.Slot.{Slot}
use Rattle.bcv_slots.specs.Numbered.{has_number, item_at, numbers_of, other_slots}
use Rattle.bcv_client.specs.ClientForm.{JobInForm}
use Rattle.bcv_client.specs.ClientParts.{parts_of}
use Rattle.bcv_client.specs.Events.{StandsOver, client_side, client_up}
use Rattle.bcv_client.specs.NewTasks.{IsUnmoved, is_busy}
use Rattle.bcv_client.specs.TaskStarts.{OnlyTasks}
use Rattle.bcv_client.specs.declared.client.Client.{Client}
use Rattle.bcv_client.specs.declared.job.Job.{Job}
use Rattle.bcv_client.specs.declared.job.Job.TheVariants as job

-- the task of a number does this, and it is taken out
pub record TaskOut {D : Type 0} {g : _} (old new : Client D g) (n : ℕ) (j : Job) : Type 0 where
  pub only : OnlyTasks old new
  pub found : item_at n old.tasks.items ≡ Some j
  pub left : new.tasks.items ≡ other_slots n old.tasks.items

-- it may make its step: one that publishes or resolves is the only one, and the journal is not closed; there is room to put it back
pub record CanStep {D : Type 0} {g : _} (c : Client D g) (j : Job) : Type 0 where
  pub form : JobInForm c.seen c.ledger.databases c.txns j
  pub alone : is_busy j ≡ true → runs_publication (parts_of c) ≡ false
  pub is_open : is_busy j ≡ true → is_shut c.ledger.log ≡ false
  pub room : vec_len c.tasks < vec_capacity c.tasks

-- a task that publishes or resolves has ended where the journal is closed
pub record TaskShut {D : Type 0} {g : _} (old new : Client D g) (n : ℕ) : Type 0 where
  pub job : Job
  pub out : TaskOut old new n job
  pub busy : is_busy job ≡ true
  pub shut : is_shut old.ledger.log ≡ true

abbrev pub TakesTask : {D : Type 0} {g : _} → Client D g → Client D g → ℕ → Result Job Reply → Type 0
TakesTask old new n (Ok j) = TaskOut old new n j × CanStep new j
TakesTask old new n (Err reply.NoTask) = IsUnmoved old new × (item_at n old.tasks.items ≡ None)
TakesTask old new n (Err reply.Closed) = TaskShut old new n
TakesTask old new n (Err _) = ⊥

-- wherever the client stood it stands, and the machine's step says so under every outcome
abbrev pub StepsQuietly : {D : Type 0} {g : _} → (D → DiskShown) → Client D g → Client D g → ℕ → Reply → Type 0
StepsQuietly shown old new n r =
    (moment : ℕ) (log : List Entry) (f : Free) → StandsOver shown old log f
    → StandsOver shown new log f
    × ((o : Outcome) (second : Bool) → Steps (m.task_at (client_up log old) n) (client_side moment log old f) (client_up log old)
    o (record { published = None; reply = r }) second (client_side moment log new f))

-- a task that there is not, or that has ended, is the machine's
abbrev pub EndsAtOnce : {D : Type 0} {g : _} → (D → DiskShown) → Client D g → Client D g → ℕ → Result Job Reply → Type 0
EndsAtOnce shown old new n (Ok j) = Unit {0}
EndsAtOnce shown old new n (Err r) = StepsQuietly shown old new n r

-- ---- a task of one step

-- the task ends with its step, whatever is answered
abbrev pub is_single : Job → Bool
is_single (job.Fetch access txn page) = true
is_single job.Poll = true
is_single (job.Publish set taken t) = false
is_single job.Resolve = true

-- the client is the same one with as many slots, has the same tasks, and was given as many commits
pub record KeepsTasks {D : Type 0} {g : _} (old new : Client D g) : Type 0 where
  pub id : new.id ≡ old.id
  pub tasks : new.tasks ≡ old.tasks
  pub taken : new.taken ≡ old.taken
  pub slots : new.txns.slots ≡ old.txns.slots

-- ---- a task that goes on

-- no task has the number, and fewer than 16 run
pub record CanGiveBack (n : ℕ) (tasks : List (Slot Job)) : Type 0 where
  pub free : has_number n (numbers_of tasks) ≡ false
  pub few : nat_le 16 (length tasks) ≡ false

-- the task is the last one, under its number
pub record GivesBack {D : Type 0} {g : _} (old new : Client D g) (n : ℕ) (j : Job) : Type 0 where
  pub only : OnlyTasks old new
  pub tasks : new.tasks.items ≡ old.tasks.items ++ record { number = n; item = j } ∷ []
