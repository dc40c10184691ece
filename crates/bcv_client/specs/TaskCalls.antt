-- What the step of a task says, whichever task it is: names are drawn and the moment is read by it, and it is the machine's.
use Rattle.std.specs.Prelude.{◌≡◌, ◌≤◌, ℕ, Bool, true, false, List, length, Option, IfSome}
use Rattle.bcv_base.specs.declared.id.Id16.{Id16}
use Rattle.bcv_base.specs.declared.log.Entry.{Entry}
use Rattle.bcv_base.specs.declared.outcome.Outcome.{Outcome}
use Rattle.bcv_base.specs.Drawn.{AddsNames, NamesShown}
use Rattle.bcv_base.specs.History.{Item, history_of}
use Rattle.bcv_base.specs.Ids.{has_id}
use Rattle.bcv_base.specs.Moments.{ClockShown}
use Rattle.bcv_clientlaws.specs.OtherParts.{Includes}
use Rattle.bcv_clientstate.specs.Parts.{mine_of}
use Rattle.bcv_clientstate.specs.SeenClient.{Free, seen_job}
use Rattle.bcv_dbmap.specs.Honest.{GrewHonestly}
use Rattle.bcv_dbmap.specs.Past.{has_version}
use Rattle.bcv_disk.specs.DiskShown.{DiskShown, DiskTold}
use Rattle.bcv_machine.specs.State as m
use Rattle.bcv_machine.specs.Step.{StepsJob}
use Rattle.bcv_model.specs.declared.reply.Reply.{Reply}
use Rattle.bcv_model.specs.declared.reply.Reply.TheVariants as reply
use Rattle.bcv_model.specs.declared.reply.Said.{Said}
use Rattle.bcv_publisher.specs.WorkStep.{AreUnused, IsEvent}
use Rattle.bcv_store.specs.StoreShown.{StoreShown, StoreTold}
use Rattle.bcv_tasks.specs.declared.publish_task.PublishTask.{PublishTask}
use Rattle.bcv_client.specs.ClientParts.{parts_of}
use Rattle.bcv_client.specs.Events.{IsArmed, StandsOver}
use Rattle.bcv_client.specs.PublicationOver.{ReadsMoment, StandsWith, mine_with}
use Rattle.bcv_client.specs.Steps.{RequestOver, StepsOf}
use Rattle.bcv_client.specs.TaskParts.{done_by}
use Rattle.bcv_client.specs.declared.client.Client.{Client}
use Rattle.bcv_client.specs.declared.job.Job.TheVariants as job

-- the client is the same one with as many slots, and was given as many commits
pub record SameClient {D : Type 0} {g : _} (old new : Client D g) : Type 0 where
  pub id : new.id ≡ old.id
  pub taken : new.taken ≡ old.taken
  pub slots : new.txns.slots ≡ old.txns.slots

-- the reply of a publication's step says that its task goes on
abbrev pub is_working : Reply → Bool
is_working (reply.Working left) = true
is_working _ = false

-- nothing was put under one of these names, no manifest has listed one, and no version has one
abbrev pub AreNew : List Item → List Id16 → Type 0
AreNew past ids = AreUnused past ids × ((i : Id16) → has_id i ids ≡ true → has_version past i ≡ false)

-- a call in which at most one name is drawn: wherever the client stood over a log that others grow honestly, where the drawn name is
-- the client's and new and the moment is the clock's, it is at most one request, which the machine takes
pub record CallsOver {D : Type 0} {g : _} (Stood : List Entry → Free → Type 0) (own : List Id16)
    (Goes : m.Side → m.Up → Outcome → Said → Bool → m.Side → Type 0) (told : DiskTold) (shown : D → DiskShown)
    (store : StoreTold) (before after : StoreShown) (names later_names : NamesShown) (clock later_clock : ClockShown)
    (old new : Client D g) (r : Reply) : Type 0 where
  pub ids : List Id16
  pub drawn : AddsNames names.drawn later_names.drawn ids
  pub few : length ids ≤ 1
  pub at : Option ℕ
  pub reads : ReadsMoment clock later_clock at
  pub over : store.tells → told.tells → (moment : ℕ) (mine : List Id16) (f : Free) → Stood before.log f
      → Includes mine own → Includes mine ids → AreNew (history_of before.log) ids
      → IfSome at (λ x. x ≡ moment) → GrewHonestly store.alone mine before.log after.log → IsArmed r f
      → RequestOver Goes (IsEvent names later_names clock later_clock r) shown store mine before after old new moment f r

-- the step of a publishing task that was taken out, and put back under its number where it goes on
abbrev pub PublishesOver : {D : Type 0} {g : _} → DiskTold → (D → DiskShown) → StoreTold → StoreShown → StoreShown
    → NamesShown → NamesShown → ClockShown → ClockShown → Client D g → Client D g → ℕ → ℕ → ℕ → PublishTask → Reply → Type 0
PublishesOver told shown store before after names later_names clock later_clock old new n set taken t r =
    CallsOver (StandsWith shown old n set taken t) (mine_with old n set taken t)
    (StepsJob (seen_job old.ledger.databases.kept.pending (done_by old.ledger.databases (job.Publish set taken t))) n)
    told shown store before after names later_names clock later_clock old new r

-- the step of the task of a number
abbrev pub StepsNumber : {D : Type 0} {g : _} → DiskTold → (D → DiskShown) → StoreTold → StoreShown → StoreShown
    → NamesShown → NamesShown → ClockShown → ClockShown → Client D g → Client D g → ℕ → Reply → Type 0
StepsNumber told shown store before after names later_names clock later_clock old new n r =
    CallsOver (StandsOver shown old) (mine_of (parts_of old)) (StepsOf n)
    told shown store before after names later_names clock later_clock old new r
