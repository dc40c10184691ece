-- What the step of a task says: how the log grew, and that it is the machine's, for every log over which the client stands.
use Rattle.std.specs.Prelude.{◌≡◌, ◌≢◌, ℕ, Bool, true, false, List, ◌++◌}
use Rattle.bcv_base.specs.declared.id.Id16.{Id16}
use Rattle.bcv_base.specs.declared.log.Entry.{Entry}
use Rattle.bcv_base.specs.declared.outcome.Outcome.{Outcome}
use Rattle.bcv_base.specs.declared.outcome.Outcome.TheVariants as outcome
use Rattle.bcv_base.specs.Faults.{Rose}
use Rattle.bcv_base.specs.History.{history_of}
use Rattle.bcv_clientlaws.specs.OtherParts.{Includes}
use Rattle.bcv_clientstate.specs.Parts.{mine_of}
use Rattle.bcv_clientstate.specs.SeenClient.{Free, seen_job}
use Rattle.bcv_dbmap.specs.Honest.{GrewHonestly}
use Rattle.bcv_dbmap.specs.RequestGrowth.{RequestGrowth}
use Rattle.bcv_disk.specs.DiskShown.{DiskShown, DiskTold}
use Rattle.bcv_machine.specs.State as m
use Rattle.bcv_machine.specs.Step.{Steps, StepsJob}
use Rattle.bcv_model.specs.declared.reply.Reply.{Reply}
use Rattle.bcv_model.specs.declared.reply.Reply.TheVariants as reply
use Rattle.bcv_model.specs.declared.reply.Said.{Said}
use Rattle.bcv_publisher.specs.PutStep.{version_added}
use Rattle.bcv_store.specs.Plans.{next_of}
use Rattle.bcv_store.specs.StoreShown.{StoreShown, StoreTold}
use Rattle.bcv_client.specs.CallNames.{flight_names}
use Rattle.bcv_client.specs.ClientParts.{parts_of}
use Rattle.bcv_client.specs.Events.{IsArmed, StandsOver, client_side, client_up}
use Rattle.bcv_client.specs.TaskParts.{done_by}
use Rattle.bcv_client.specs.declared.client.Client.{Client}
use Rattle.bcv_client.specs.declared.job.Job.{Job}

-- ---- one request

-- what is said of a step: its reply, and the version that it published
abbrev pub said_over : List Entry → List Entry → Reply → Said
said_over log after r = record { published = version_added (history_of log) (history_of after); reply = r }

-- a step that is an event: which outcome its request had, where one was made, and what the machine says, from the side over what
-- others appended to the side over all
pub record EventOver {D : Type 0} {g : _} (Goes : m.Side → m.Up → Outcome → Said → Bool → m.Side → Type 0)
    (store : StoreTold) (before after : StoreShown) (others : List Entry) (old new : Client D g) (moment : ℕ)
    (f free : Free) (r : Reply) : Type 0 where
  pub made : Bool
  pub request : Outcome
  pub planned : store.plans → made ≡ true → request ≡ next_of before.plan
  pub unmade : made ≡ false → after ≡ before
  pub cause : made ≡ true → request ≢ outcome.Ok → Rose before.faults after.faults
  pub goes : (o : Outcome) → (made ≡ true → o ≡ request) → (second : Bool)
      × Goes (client_side moment (before.log ++ others) old f) (client_up (before.log ++ others) old) o
      (said_over (before.log ++ others) after.log r) second (client_side moment after.log new free)

-- a step over a log: how it grew, that the client stands over it, that its names and that of an intent in flight are among these, where
-- that of an intent in flight was, and what the machine says where it is an event
pub record RequestOver {D : Type 0} {g : _} (Goes : m.Side → m.Up → Outcome → Said → Bool → m.Side → Type 0)
    (IsEvent : Type 0) (shown : D → DiskShown) (store : StoreTold) (mine : List Id16) (before after : StoreShown)
    (old new : Client D g) (moment : ℕ) (f : Free) (r : Reply) : Type 0 where
  pub growth : RequestGrowth store.alone mine before.log after.log
  pub free : Free
  pub stands : StandsOver shown new after.log free
  pub names : Includes mine (mine_of (parts_of new))
  pub flight : Includes mine (flight_names f.flight) → Includes mine (flight_names free.flight)
  pub event : IsEvent → EventOver Goes store before after growth.others old new moment f free r

-- so it is for each client that stands over a log which others grow honestly
abbrev pub RequestsOver : {D : Type 0} {g : _} → (m.Side → m.Up → Outcome → Said → Bool → m.Side → Type 0) → Type 0
    → (D → DiskShown) → StoreTold → StoreShown → StoreShown → Client D g → Client D g → Reply → Type 0
RequestsOver Goes IsEvent shown store before after old new r =
    (moment : ℕ) (mine : List Id16) (f : Free) → StandsOver shown old before.log f
    → Includes mine (mine_of (parts_of old)) → GrewHonestly store.alone mine before.log after.log → IsArmed r f
    → RequestOver Goes IsEvent shown store mine before after old new moment f r

-- ---- a job that ends with its step

-- the step of a job whose task was taken out, which ends whatever is answered; it is an event where memory was there
abbrev pub EndsJob : {D : Type 0} {g : _} → DiskTold → (D → DiskShown) → StoreTold → StoreShown → StoreShown → Client D g
    → Client D g → Job → Reply → Type 0
EndsJob told shown store before after old new j r =
    store.tells → told.tells → (number : ℕ)
    → RequestsOver (StepsJob (seen_job old.ledger.databases.kept.pending (done_by old.ledger.databases j)) number)
    (r ≢ reply.NoMemory) shown store before after old new r

-- ---- the task of a number

-- the machine's step of the task of a number
abbrev pub StepsOf : ℕ → m.Side → m.Up → Outcome → Said → Bool → m.Side → Type 0
StepsOf n s u o said second t = Steps (m.task_at u n) s u o said second t
