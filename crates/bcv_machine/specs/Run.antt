-- Runs of the machine.
use Rattle.std.specs.Prelude.{◌≡◌, false, List, [], ◌∷◌, ◌++◌}
use Rattle.bcv_base.specs.declared.id.Id16.{Id16}
use Rattle.bcv_base.specs.Ids.{has_id}
use Rattle.bcv_model.specs.declared.event.Event.{Event}
use Rattle.bcv_model.specs.declared.reply.Said.{Said}
use Rattle.bcv_model.specs.declared.spec.WorldSpec.{WorldSpec}
use Rattle.bcv_machine.specs.State.{State, first_state}
use Rattle.bcv_machine.specs.Step.{Choice, Next, drawn_by}

-- the machine accepts what is said of these events, in order
abbrev pub Run : State → List Event → List Said → List Choice → State → Type 0
Run a [] [] [] b = b ≡ a
Run a (e ∷ es) (s ∷ ss) (c ∷ cs) b = (mid : State) × Next a e s c mid × Run mid es ss cs b
Run a _ _ _ b = ⊥

-- the events of a script, what was said of each, and what was left open
pub record Transcript : Type 0 where
  pub events : List Event
  pub saids : List Said
  pub choices : List Choice

-- the ids that were drawn for publications
abbrev pub drawn : List Event → List Said → List Choice → List Id16
drawn (e ∷ es) (s ∷ ss) (c ∷ cs) = drawn_by e s c ++ drawn es ss cs
drawn _ _ _ = []

-- no id comes twice
abbrev pub AllDiffer : List Id16 → Type 0
AllDiffer [] = Unit {0}
AllDiffer (i ∷ is) = (has_id i is ≡ false) × AllDiffer is

abbrev pub empty_transcript : Transcript
empty_transcript = record { events = []; saids = []; choices = [] }

-- the transcript with one more event
abbrev pub then_said : Transcript → Event → Said → Choice → Transcript
then_said h e s c = record { events = h.events ++ e ∷ []; saids = h.saids ++ s ∷ []; choices = h.choices ++ c ∷ [] }

-- from the first state of a world the machine accepts the transcript, whose drawn ids differ, and reaches this state
pub record Accepts (spec : WorldSpec) (h : Transcript) (a : State) : Type 0 where
  pub run : Run (first_state spec.clients spec.slots) h.events h.saids h.choices a
  pub differ : AllDiffer (drawn h.events h.saids h.choices)
