-- Runs of the machine with one client over a log that others write, too: each request stands
-- after what they appended before it.
use Rattle.std.specs.Prelude.{◌≡◌, ◌≢◌, ◌⊎◌, ◌≤◌, ◌||◌, ◌&&◌, ℕ, Bool, true, false, List, [], ◌∷◌, ◌++◌, length, Option, Some, unwrap_or}
use Rattle.bcv_base.specs.declared.id.Id16.{Id16}
use Rattle.bcv_base.specs.declared.log.Entry.{Entry}
use Rattle.bcv_base.specs.declared.outcome.Outcome.{Outcome}
use Rattle.bcv_base.specs.declared.outcome.Outcome.TheVariants as outcome
use Rattle.bcv_base.specs.Drawn.{AddsNames, NamesShown}
use Rattle.bcv_base.specs.Faults.{Rose}
use Rattle.bcv_base.specs.History.{history_of}
use Rattle.bcv_base.specs.Moments.{ClockShown}
use Rattle.bcv_clientlaws.specs.OtherParts.{Includes}
use Rattle.bcv_clientstate.specs.SeenContainer.{container_of}
use Rattle.bcv_client.specs.CallFaults.{CallCauses}
use Rattle.bcv_client.specs.PublicationOver.{ReadsMoment}
use Rattle.bcv_client.specs.Steps.{said_over}
use Rattle.bcv_client.specs.Talk.{Exchange}
use Rattle.bcv_client.specs.TaskCalls.{AreNew}
use Rattle.bcv_dbmap.specs.Honest.{AreApart}
use Rattle.bcv_dbmap.specs.RequestGrowth.{RequestGrowth}
use Rattle.bcv_machine.specs.State as m
use Rattle.bcv_machine.specs.Step.{Asks, Choice, is_task, publishes}
use Rattle.bcv_model.specs.declared.reply.Reply.{Reply}
use Rattle.bcv_model.specs.declared.reply.Reply.TheVariants as reply
use Rattle.bcv_publisher.specs.WorkStep.{IsEvent}
use Rattle.bcv_store.specs.Plans.{next_of}
use Rattle.bcv_store.specs.StoreShown.{StoreShown, StoreTold}

-- ---- between two calls

-- what the store, the names and the clock show, how often the disk has failed, and the moment
-- and the client of the machine
pub record RunState : Type 0 where
  pub store : StoreShown
  pub names : NamesShown
  pub clock : ClockShown
  pub failed : ℕ
  pub moment : ℕ
  pub client : m.Client

-- the machine's side at a moment over a log
abbrev pub side_over : ℕ → List Entry → m.Client → m.Side
side_over moment log c = record { container = container_of moment (history_of log); client = c }

abbrev pub side_at : RunState → m.Side
side_at a = side_over a.moment a.store.log a.client

-- ---- one call

-- the reply is a fault of the disk
abbrev pub is_disk_fault : Reply → Bool
is_disk_fault reply.DiskFault = true
is_disk_fault _ = false

-- a disk that failed in a call was set to fail before it
abbrev pub set_for : Reply → m.Client → m.Client
set_for r c = record c { failing = is_disk_fault r || c.failing }

-- the names that a call drew are mine, none of those used before, and new in the log
pub record DrawsNew (mine used : List Id16) (log : List Entry) (ids : List Id16) : Type 0 where
  pub own : Includes mine ids
  pub apart : AreApart used ids
  pub unused : AreNew (history_of log) ids

-- the machine takes an ask from the side over what others appended to the side after the call;
-- the outcome of the request is other than Ok only where the store's count of faults rose, and
-- is the next one that the store plans, where it tells that
pub record AskTaken (store : StoreTold) (a : RunState) (others : List Entry) (ids : List Id16)
    (e : Exchange) (b : RunState) : Type 0 where
  pub up : m.Up
  pub is_up : a.client.up ≡ Some up
  pub request : Outcome
  pub cause : request ≢ outcome.Ok → Rose a.store.faults b.store.faults
  pub planned : store.plans → (request ≡ next_of a.store.plan) ⊎ (b.store ≡ a.store)
  pub choice : Choice
  pub named : (publishes e.ask && is_task e.reply) ≡ true → ids ≡ choice.name ∷ []
  pub taken :
      Asks (side_over b.moment (a.store.log ++ others) (set_for e.reply a.client)) up e.ask request
      (said_over (a.store.log ++ others) b.store.log e.reply) choice (side_at b)

-- one call: the log grows by lawful entries of others and at most one own entry after them; at
-- most one name is drawn, which is new; the moment is the one that the clock gave, else that of
-- before; a fault has risen the count of what failed; and where memory, names and the clock were
-- there the machine takes the ask
pub record RunStep (store : StoreTold) (mine used : List Id16) (a : RunState) (e : Exchange)
    (b : RunState) : Type 0 where
  pub growth : RequestGrowth store.alone mine a.store.log b.store.log
  pub ids : List Id16
  pub drawn : AddsNames a.names.drawn b.names.drawn ids
  pub few : length ids ≤ 1
  pub fresh : DrawsNew mine used a.store.log ids
  pub at : Option ℕ
  pub reads : ReadsMoment a.clock b.clock at
  pub moment : b.moment ≡ unwrap_or at a.moment
  pub fails : e.reply ≡ reply.DiskFault → Rose a.failed b.failed
  pub causes : CallCauses a.store b.store a.names b.names a.clock b.clock e.reply
  pub event : IsEvent a.names b.names a.clock b.clock e.reply
      → AskTaken store a growth.others ids e b

-- ---- many calls

-- calls in order, each from where the one before it ended; no name is drawn twice, or was used
-- before them
abbrev pub RunsOver : StoreTold → List Id16 → List Id16 → RunState → List Exchange → RunState
    → Type 0
RunsOver store mine used a [] b = b ≡ a
RunsOver store mine used a (e ∷ es) b =
    (mid : RunState) × (step : RunStep store mine used a e mid)
    × RunsOver store mine (used ++ step.ids) mid es b
