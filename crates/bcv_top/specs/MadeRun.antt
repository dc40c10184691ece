-- What `generate` promises: its world ran all events of the script of a number, and the tally of its replies was written.
use Rattle.std.specs.Prelude.{◌≡◌, ◌≢◌, ℕ, ◌+◌, ◌^◌, ◌<◌, ◌⊎◌, Bool, true, false, List, [], ◌∷◌, ◌++◌, length, take, Option, Some, None, codes}
use Rattle.std.specs.Fmt.{decimal}
use Rattle.bcv_world.specs.declared.tally.Tally.{Tally}
use Rattle.bcv_world.specs.declared.world.World.{World}
use Rattle.bcv_world.specs.WorldForm.{IsWorld}
use Rattle.bcv_machine.specs.Run.{Transcript, then_said}
use Rattle.bcv_machine.specs.State.{State}
use Rattle.bcv_machine.specs.Step.{Choice}
use Rattle.bcv_model.specs.declared.event.Event.{Event}
use Rattle.bcv_model.specs.declared.reply.Said.{Said}
use Rattle.bcv_top.specs.declared.output.Wrote.{Wrote}
use Rattle.bcv_top.specs.declared.output.Wrote.TheVariants as wrote
use Rattle.bcv_commands.specs.declared.status.Status.{Status}
use Rattle.bcv_commands.specs.declared.status.Status.TheVariants as status
use Rattle.bcv_top.specs.Generated.{events_from, generated, generated_spec}
use Rattle.bcv_top.specs.Led.{PlaysOn}
use Rattle.bcv_top.specs.Replay.{Plays}

-- ---- the summary

-- a line of a word and a number
abbrev pub count_line : List ℕ → ℕ → List ℕ
count_line word n = word ++ (32 ∷ (decimal n ++ 10 ∷ []))

-- the five lines of a tally
abbrev pub summary_text : Tally → List ℕ
summary_text t =
    count_line (codes "events") t.events
    ++ (count_line (codes "versions") t.versions
    ++ (count_line (codes "pages") t.pages
    ++ (count_line (codes "working") t.working ++ count_line (codes "other") t.other)))

-- ---- the run

-- the world is that of the script of a number: the machine accepts what was said of all its events, and the world stands for the
-- state that it reaches
abbrev pub RanAll : ℕ → World → Type 0
RanAll n w =
    IsWorld w
    × ((h : Transcript) × (a : State) × (h.events ≡ generated n) × (w.spec ≡ generated_spec) × Plays w h a)

-- the summary of the world that is handed back was written, or some front of it; where memory ran out there is no world
abbrev pub Generates : ℕ → Status → Option World → List ℕ → Type 0
Generates n status.Done (Some w) written = RanAll n w × (written ≡ summary_text w.tally)
Generates n status.WriteFault (Some w) written =
    RanAll n w × ((k : ℕ) × (written ≡ take k (summary_text w.tally)))
Generates n status.NoMemory None written =
    (written ≡ []) ⊎ ((w : World) × RanAll n w × ((k : ℕ) × (written ≡ take k (summary_text w.tally))))
Generates n _ _ written = ⊥

-- how the writing of all output ends a command
abbrev pub status_by : Wrote → Status
status_by wrote.All = status.Done
status_by wrote.Failed = status.WriteFault
status_by wrote.NoMemory = status.NoMemory

-- ---- on the way

-- one more event was played in a world
pub record PlaysMore (old new : World) (h : Transcript) (e : Event) (events : ℕ) : Type 0 where
  pub said : Said
  pub choice : Choice
  pub state : State
  pub spec : new.spec ≡ old.spec
  pub on : PlaysOn new (then_said h e said choice) state (events + 1)

-- an event was played where memory was there
abbrev pub PlaysEvent : Bool → World → World → Event → Type 0
PlaysEvent true old new e =
    (h : Transcript) (a : State) (events : ℕ) → PlaysOn old h a events → PlaysMore old new h e events
PlaysEvent false old new e = Unit {0}

-- the world has played the script of a number but for so many lines, which the number after the last draw gives
pub record Playing (n : ℕ) (w : World) (x left : ℕ) : Type 0 where
  pub h : Transcript
  pub a : State
  pub on : PlaysOn w h a (length h.events)
  pub spec : w.spec ≡ generated_spec
  pub script : h.events ++ events_from left x ≡ generated n
  pub count : length h.events + left ≡ 2000
