-- After each call what a crash may leave of the client's disk fits the log, where it did so before.
use Rattle.std.specs.Prelude.{◌≤◌, ℕ, List, [], length}
use Rattle.bcv_base.specs.declared.id.Id16.{Id16}
use Rattle.bcv_base.specs.declared.log.Entry.{Entry}
use Rattle.bcv_base.specs.Drawn.{AddsNames, NamesShown}
use Rattle.bcv_base.specs.History.{history_of}
use Rattle.bcv_clientlaws.specs.OtherParts.{Includes}
use Rattle.bcv_clientstate.specs.Parts.{mine_of}
use Rattle.bcv_clientstate.specs.SeenClient.{Free}
use Rattle.bcv_dbmap.specs.Honest.{GrewHonestly}
use Rattle.bcv_disk.specs.DiskShown.{DiskShown, DiskTold}
use Rattle.bcv_store.specs.StoreShown.{StoreShown, StoreTold}
use Rattle.bcv_tasks.specs.declared.publish_task.PublishTask.{PublishTask}
use Rattle.bcv_client.specs.CallNames.{LeavesFit, flight_names}
use Rattle.bcv_client.specs.ClientParts.{parts_of}
use Rattle.bcv_client.specs.Events.{StandsOver}
use Rattle.bcv_client.specs.PublicationOver.{StandsWith, mine_with}
use Rattle.bcv_client.specs.TaskCalls.{AreNew}
use Rattle.bcv_client.specs.declared.client.Client.{Client}

-- a call in which these names were drawn: wherever the client stood over a log that others grow honestly, where its names, that
-- of an intent in flight and the drawn ones are mine, and the drawn ones are new, what may be left fits the log as it did before
abbrev pub FallsFor : {D : Type 0} {g : _} → (List Entry → Free → Type 0) → List Id16 → DiskTold → (D → DiskShown) → StoreTold
    → StoreShown → StoreShown → List Id16 → Client D g → Client D g → Type 0
FallsFor Stood own told shown store before after ids old new =
    store.tells → told.tells → (mine : List Id16) (f : Free) → Stood before.log f
    → Includes mine own → Includes mine (flight_names f.flight) → Includes mine ids → AreNew (history_of before.log) ids
    → GrewHonestly store.alone mine before.log after.log → LeavesFit shown old before.log → LeavesFit shown new after.log

-- a call in which at most one name is drawn
pub record FallsOver {D : Type 0} {g : _} (Stood : List Entry → Free → Type 0) (own : List Id16) (told : DiskTold)
    (shown : D → DiskShown) (store : StoreTold) (before after : StoreShown) (names later_names : NamesShown)
    (old new : Client D g) : Type 0 where
  pub ids : List Id16
  pub drawn : AddsNames names.drawn later_names.drawn ids
  pub few : length ids ≤ 1
  pub over : FallsFor Stood own told shown store before after ids old new

-- a call of a client
abbrev pub Falls : {D : Type 0} {g : _} → DiskTold → (D → DiskShown) → StoreTold → StoreShown → StoreShown → NamesShown
    → NamesShown → Client D g → Client D g → Type 0
Falls told shown store before after names later_names old new =
    FallsOver (StandsOver shown old) (mine_of (parts_of old)) told shown store before after names later_names old new

-- a call without a request
abbrev pub FallsHere : {D : Type 0} {g : _} → DiskTold → (D → DiskShown) → Client D g → Client D g → Type 0
FallsHere told shown old new =
    told.tells → (log : List Entry) (f : Free) → StandsOver shown old log f → LeavesFit shown old log → LeavesFit shown new log

-- the step of a job that ends with it, in which no name is drawn
abbrev pub FallsJob : {D : Type 0} {g : _} → DiskTold → (D → DiskShown) → StoreTold → StoreShown → StoreShown → Client D g
    → Client D g → Type 0
FallsJob told shown store before after old new =
    FallsFor (StandsOver shown old) (mine_of (parts_of old)) told shown store before after [] old new

-- the step of a publishing task that was taken out
abbrev pub FallsTask : {D : Type 0} {g : _} → DiskTold → (D → DiskShown) → StoreTold → StoreShown → StoreShown → NamesShown
    → NamesShown → Client D g → Client D g → ℕ → ℕ → PublishTask → Type 0
FallsTask told shown store before after names later_names old new set taken t =
    (n : ℕ) → FallsOver (StandsWith shown old n set taken t) (mine_with old n set taken t) told shown store before after names
    later_names old new

-- and one at its put, in which no name is drawn
abbrev pub FallsPut : {D : Type 0} {g : _} → DiskTold → (D → DiskShown) → StoreTold → StoreShown → StoreShown → Client D g
    → Client D g → ℕ → ℕ → PublishTask → Type 0
FallsPut told shown store before after old new set taken t =
    (n : ℕ) → FallsFor (StandsWith shown old n set taken t) (mine_with old n set taken t) told shown store before after [] old new
