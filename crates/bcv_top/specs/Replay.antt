-- What a replay makes of the lines of a script.
use Rattle.std.specs.Prelude.{◌≡◌, ℕ, List, [], ◌∷◌, map, Option, Some, None, Ok, Err}
use Rattle.std.specs.List.{flat_map, fold}
use Rattle.bcv_base.specs.History.{history_of}
use Rattle.bcv_base.specs.Versions.{HasVersions}
use Rattle.bcv_dbmap.specs.Deletions.{SafeDeletions}
use Rattle.bcv_dbmap.specs.Sound.{IsSoundLog}
use Rattle.bcv_world.specs.declared.tally.Tally.{Tally}
use Rattle.bcv_world.specs.declared.world.World.{World}
use Rattle.bcv_world.specs.Standing.{IsFirst, Stands, state_at}
use Rattle.bcv_world.specs.Tallies.{tallied}
use Rattle.bcv_world.specs.WorldForm.{IsWorld}
use Rattle.bcv_machine.specs.Run.{Accepts, Transcript}
use Rattle.bcv_machine.specs.State.{State}
use Rattle.bcv_memstore.specs.Told.{log_of}
use Rattle.bcv_model.specs.declared.reply.Said.{Said}
use Rattle.bcv_model.specs.ReplyText.{said_text}
use Rattle.bcv_model.specs.Script.{event_of, world_of}
use Rattle.bcv_worldlaws.specs.Places.{ClientPlace}
use Rattle.bcv_top.specs.Course.{Course}

-- the lines of text that replies are written as
abbrev pub replies_text : List Said → List ℕ
replies_text replies = flat_map said_text replies

-- the tally of these replies
abbrev pub tally_of : List Said → Tally
tally_of replies =
    fold tallied (record { events = 0; versions = 0; pages = 0; working = 0; other = 0 }) replies

-- the world stands for the machine's state, with some places of its clients
abbrev pub StandsFor : World → State → Type 0
StandsFor w a = (places : List ClientPlace) × Stands w places × (state_at w places ≡ a)

-- the machine accepts what was said of the events, from the first state of the world's line on; the world stands for the
-- state that it reaches, whose versions are exactly those of the store's log; the log is sound, each deletion in it was
-- safe, and the world's tally counts the replies; a first world went to this one, event by event
pub record Plays (w : World) (h : Transcript) (a : State) : Type 0 where
  pub accepts : Accepts w.spec h a
  pub stands : StandsFor w a
  pub versions : HasVersions (log_of w.around.store) a.container.versions
  pub sound : IsSoundLog (log_of w.around.store)
  pub deletions : SafeDeletions (history_of (log_of w.around.store))
  pub tally : w.tally ≡ tally_of h.saids
  pub first : World
  pub is_first : IsFirst first
  pub course : Course first h.events h.saids w

-- these lines are the events that were played in the world, and these are the replies to them
pub record Runs (w : World) (h : Transcript) (a : State) (lines : List (List ℕ))
    (replies : List Said) : Type 0 where
  pub events : map (event_of w.spec) lines ≡ map Ok h.events
  pub saids : h.saids ≡ replies
  pub plays : Plays w h a

-- a script's lines lead to a world, which further events may be applied to, with these replies; no line leads to no world, with
-- none
abbrev pub Leads : List (List ℕ) → Option World → List Said → Type 0
Leads [] None replies = replies ≡ []
Leads (first ∷ lines) (Some w) replies =
    IsWorld w
    × ((h : Transcript) × (a : State) × (world_of first ≡ Ok w.spec) × Runs w h a lines replies)
Leads _ _ replies = ⊥

-- the line is bad at a place: it is the first and no world line, or no event's line of the world
abbrev pub IsBad : ℕ → Option World → List ℕ → Type 0
IsBad at None line = world_of line ≡ Err at
IsBad at (Some w) line = event_of w.spec line ≡ Err at

-- a script's lines lead to a world, with these replies, and the line after them is bad at a place
abbrev pub StopsAt : ℕ → List (List ℕ) → Option World → List Said → List ℕ → Type 0
StopsAt at lines world replies line = Leads lines world replies × IsBad at world line
