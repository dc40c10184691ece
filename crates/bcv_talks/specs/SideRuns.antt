-- Runs of the machine with one client over a store that nobody else writes.
use Rattle.std.specs.Prelude.{◌≡◌, ℕ, List, [], ◌∷◌, ◌++◌, Option, Some}
use Rattle.bcv_base.specs.declared.id.Id16.{Id16}
use Rattle.bcv_base.specs.declared.outcome.Outcome.{Outcome}
use Rattle.bcv_client.specs.Talk.{Exchange}
use Rattle.bcv_machine.specs.State as m
use Rattle.bcv_machine.specs.Step.{Asks, Choice}
use Rattle.bcv_model.specs.declared.reply.Reply.{Reply}
use Rattle.bcv_publisher.specs.WorkStep.{IsEvent}
use Rattle.bcv_store.specs.StoreShown.{StoreTold}
use Rattle.bcv_talks.specs.Runs.{RunState, RunsOver, set_for, side_at}

-- the clock is at this moment, and a disk that fails in the call is set to fail
abbrev pub ready_for : ℕ → Reply → m.Side → m.Side
ready_for moment r s =
    record { container = record s.container { moment = moment }; client = set_for r s.client }

-- the machine takes an ask from the one side to the other
pub record SideStep (s : m.Side) (e : Exchange) (t : m.Side) : Type 0 where
  pub up : m.Up
  pub is_up : s.client.up ≡ Some up
  pub moment : ℕ
  pub request : Outcome
  pub published : Option ℕ
  pub choice : Choice
  pub taken :
      Asks (ready_for moment e.reply s) up e.ask request
      (record { published = published; reply = e.reply }) choice t

-- asks in order, each from the side where the one before it ended
abbrev pub SideRuns : m.Side → List Exchange → m.Side → Type 0
SideRuns s [] t = t ≡ s
SideRuns s (e ∷ es) t = (mid : m.Side) × SideStep s e mid × SideRuns mid es t

-- in each call memory, names and the clock were there
abbrev pub AreEvents : (store : StoreTold) (mine used : List Id16) (a : RunState)
    (es : List Exchange) (b : RunState) → RunsOver store mine used a es b → Type 0
AreEvents store mine used a [] b run = Unit {0}
AreEvents store mine used a (e ∷ es) b run =
    IsEvent a.names run.0.names a.clock run.0.clock e.reply
    × AreEvents store mine (used ++ run.1.ids) run.0 es b run.2

-- over a store that is alone a run of such calls goes from side to side
abbrev pub AloneRunsBySides : StoreTold → Type 0
AloneRunsBySides store =
    (mine used : List Id16) (a b : RunState) (es : List Exchange)
    (run : RunsOver store mine used a es b) → store.alone → AreEvents store mine used a es b run
    → SideRuns (side_at a) es (side_at b)
