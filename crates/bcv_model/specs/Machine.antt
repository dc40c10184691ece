-- One step of the machine, and its runs.
use Rattle.std.specs.Prelude.{◌≡◌, ℕ, zero, suc, Bool, true, false, ◌&&◌, List, [], ◌∷◌, ◌++◌, Option, Some, None, if◌then◌else◌}
use Rattle.bcv_base.specs.declared.id.Id16.{Id16}
use Rattle.bcv_base.specs.Ids.{has_id}
use Rattle.bcv_base.specs.declared.outcome.Outcome.{Outcome}
use Rattle.bcv_model.specs.declared.ask.Ask.{Ask}
use Rattle.bcv_model.specs.declared.ask.Ask.TheVariants as ask
use Rattle.bcv_model.specs.declared.event.Act.{Act}
use Rattle.bcv_model.specs.declared.event.Act.TheVariants as act
use Rattle.bcv_model.specs.declared.event.Event.{Event}
use Rattle.bcv_model.specs.declared.event.Event.TheVariants as event
use Rattle.bcv_model.specs.declared.reply.Reply.{Reply}
use Rattle.bcv_model.specs.declared.reply.Reply.TheVariants as reply
use Rattle.bcv_model.specs.declared.reply.Said.{Said}
use Rattle.bcv_model.specs.declared.spec.WorldSpec.{WorldSpec}
use Rattle.bcv_model.specs.MachineState.{State, first_state, Here, IsHere, Task, Kind, Reading, Creating, Making, Copying, Removing, task_at, without}
use Rattle.bcv_model.specs.MachineReading.{Begins, Reads, ReadSteps}
use Rattle.bcv_model.specs.MachineStart.{Starts, publishes}
use Rattle.bcv_model.specs.MachineGet.{Gets}
use Rattle.bcv_model.specs.MachineMiddle.{GoesOn}
use Rattle.bcv_model.specs.MachinePut.{Puts}

-- what the script leaves open: the id that the event draws, and which of two notes failed
pub record Choice : Type 0 where
  pub name : Id16
  pub second : Bool

-- ---- the step of a task

-- a publishing task: first it gets the manifest, last it puts it
abbrev pub PublishSteps : Here → Task → Id16 → Option ℕ → ℕ → Outcome → Said → State → Type 0
PublishSteps h task id None left outcome said b = (said.published ≡ None) × Gets h task outcome said.reply b
PublishSteps h task id (Some n) zero outcome said b = ⊥
PublishSteps h task id (Some n) (suc zero) outcome said b = Puts h task id n outcome said.published said.reply b
PublishSteps h task id (Some n) (suc (suc k)) outcome said b = (said.published ≡ None) × GoesOn h task task.kind outcome said.reply b

-- by the kind of the task; a create reads no manifest, and its one step is the put
abbrev pub KindSteps : Here → Task → Kind → Option Id16 → Outcome → Said → State → Type 0
KindSteps h task (Reading number p) id outcome said b = (said.published ≡ None) × ReadSteps h task number p outcome said.reply b
KindSteps h task (Creating block retention) (Some id) outcome said b = Puts h task id 0 outcome said.published said.reply b
KindSteps h task (Making d page_size pages) (Some id) outcome said b = PublishSteps h task id task.read task.left outcome said b
KindSteps h task (Copying from to) (Some id) outcome said b = PublishSteps h task id task.read task.left outcome said b
KindSteps h task (Removing name) (Some id) outcome said b = PublishSteps h task id task.read task.left outcome said b
KindSteps h task _ _ outcome said b = ⊥

-- a task that publishes ends where the journal is closed
abbrev pub OpenSteps : Bool → Here → Task → Outcome → Said → State → Type 0
OpenSteps true h task outcome said b =
    (said.published ≡ None) × (said.reply ≡ reply.Closed) × (b ≡ without h task.number)
OpenSteps false h task outcome said b = KindSteps h task task.kind task.id outcome said b

-- a step of the task of a number, where there is one
abbrev pub Steps : Here → Option Task → Outcome → Said → State → Type 0
Steps h None outcome said b = (said.published ≡ None) × (said.reply ≡ reply.NoTask) × (b ≡ h.state)
Steps h (Some task) outcome said b = OpenSteps (h.up.closed && publishes task.kind) h task outcome said b

-- ---- what a client that is up is asked

abbrev pub Asks : Here → Ask → Outcome → Said → Choice → State → Type 0
Asks h (ask.Begin db) outcome said choice b = (said.published ≡ None) × Begins h db said.reply b
Asks h (ask.Read t p) outcome said choice b = (said.published ≡ None) × Reads h t p said.reply b
Asks h (ask.Create block retention) outcome said choice b = (said.published ≡ None) × Starts h (Creating block retention) choice.name said.reply b
Asks h (ask.NewDb db page_size pages) outcome said choice b = (said.published ≡ None) × Starts h (Making db page_size pages) choice.name said.reply b
Asks h (ask.Copy from to) outcome said choice b = (said.published ≡ None) × Starts h (Copying from to) choice.name said.reply b
Asks h (ask.Remove name) outcome said choice b = (said.published ≡ None) × Starts h (Removing name) choice.name said.reply b
Asks h (ask.Step t) outcome said choice b = Steps h (task_at t h.up.tasks) outcome said b
Asks h _ outcome said choice b = ⊥

-- ---- one event

abbrev pub Acts : State → ℕ → Act → Said → Choice → State → Type 0
Acts a n (act.Ask q outcome) said choice b = (h : Here) × IsHere a n h × Asks h q outcome said choice b
Acts a n _ said choice b = ⊥

-- from state a the machine accepts what is said of the event, and goes on to state b
abbrev pub Next : State → Event → Said → Choice → State → Type 0
Next a (event.Of client what) said choice b = Acts a client what said choice b
Next a (event.Tick n) said choice b = ⊥

-- the machine accepts what is said of these events, in order
abbrev pub Run : State → List Event → List Said → List Choice → State → Type 0
Run a [] [] [] b = b ≡ a
Run a (e ∷ es) (s ∷ ss) (c ∷ cs) b = (mid : State) × Next a e s c mid × Run mid es ss cs b
Run a _ _ _ b = ⊥

-- ---- whole runs

-- the event starts a publication, which takes the drawn id
abbrev pub starts_publication : Ask → Reply → Bool
starts_publication (ask.Create block retention) (reply.Task n left) = true
starts_publication (ask.NewDb db page_size pages) (reply.Task n left) = true
starts_publication (ask.Copy from to) (reply.Task n left) = true
starts_publication (ask.Remove name) (reply.Task n left) = true
starts_publication _ _ = false

abbrev pub drawn_by : Event → Said → Choice → List Id16
drawn_by (event.Of client (act.Ask q outcome)) said choice = if starts_publication q said.reply then choice.name ∷ [] else []
drawn_by _ said choice = []

-- what happened so far, what was said of it, and what was left open
pub record History : Type 0 where
  pub events : List Event
  pub saids : List Said
  pub choices : List Choice

-- the ids that were drawn for publications
abbrev pub drawn : List Event → List Said → List Choice → List Id16
drawn (e ∷ es) (s ∷ ss) (c ∷ cs) = drawn_by e s c ++ drawn es ss cs
drawn _ _ _ = []

-- no id comes twice
abbrev pub AllDiffer : List Id16 → Type 0
AllDiffer [] = Unit {0}
AllDiffer (i ∷ is) = (has_id i is ≡ false) × AllDiffer is

abbrev pub no_history : History
no_history = record { events = []; saids = []; choices = [] }

-- the history with one more event
abbrev pub then_said : History → Event → Said → Choice → History
then_said h e s c = record { events = h.events ++ e ∷ []; saids = h.saids ++ s ∷ []; choices = h.choices ++ c ∷ [] }

-- from the first state of a world the machine accepts the history, whose drawn ids differ, and reaches this state
pub record Accepts (spec : WorldSpec) (h : History) (a : State) : Type 0 where
  pub run : Run (first_state spec.clients spec.slots) h.events h.saids h.choices a
  pub differ : AllDiffer (drawn h.events h.saids h.choices)
