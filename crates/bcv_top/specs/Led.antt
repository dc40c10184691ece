-- The world that a script's lines lead to, and what one more line does to it.
use Rattle.std.specs.Prelude.{◌≡◌, ℕ, ◌^◌, ◌<◌, ◌⊎◌, Bool, true, false, List, [], ◌∷◌, ◌++◌, length, take, Option, Some, None, Result, Ok, Err}
use Rattle.bcv_clientlaws.specs.OtherParts.{Includes}
use Rattle.bcv_world.specs.declared.world.World.{World}
use Rattle.bcv_world.specs.Standing.{names_of}
use Rattle.bcv_world.specs.WorldForm.{IsWorld}
use Rattle.bcv_machine.specs.Run.{Transcript, drawn}
use Rattle.bcv_machine.specs.State.{State}
use Rattle.bcv_model.specs.declared.reply.Reply.{Reply}
use Rattle.bcv_model.specs.declared.reply.Reply.TheVariants as reply
use Rattle.bcv_model.specs.declared.reply.Said.{Said}
use Rattle.bcv_model.specs.ReplyText.{said_text}
use Rattle.bcv_model.specs.Script.{event_of, world_of}
use Rattle.bcv_script.specs.declared.fault.LineFault.{LineFault}
use Rattle.bcv_script.specs.declared.fault.LineFault.TheVariants as fault
use Rattle.bcv_top.specs.declared.output.Wrote.{Wrote}
use Rattle.bcv_top.specs.declared.output.Wrote.TheVariants as wrote
use Rattle.bcv_commands.specs.declared.status.Status.{Status}
use Rattle.bcv_commands.specs.declared.status.Status.TheVariants as status
use Rattle.bcv_top.specs.Replay.{IsBad, Plays, Runs, replies_text}

-- ---- a world and what was played in it

-- the world may go on, its tally has so many events, and the ids that publications drew are names that it gave
pub record PlaysOn (w : World) (h : Transcript) (a : State) (events : ℕ) : Type 0 where
  pub world : IsWorld w
  pub plays : Plays w h a
  pub events_are : w.tally.events ≡ events
  pub named : Includes (names_of w) (drawn h.events h.saids h.choices)

-- ---- lines

-- the first line fixed this world, and the lines after it, as events, led it to these replies
pub record LedBy (first : List ℕ) (w : World) (lines : List (List ℕ)) (replies : List Said)
    : Type 0 where
  pub h : Transcript
  pub a : State
  pub fixes : world_of first ≡ Ok w.spec
  pub on : PlaysOn w h a (length lines)
  pub runs : Runs w h a lines replies

-- no line leads to no world
abbrev pub Led : Option World → List (List ℕ) → List Said → Type 0
Led None lines replies = (lines ≡ []) × (replies ≡ [])
Led (Some w) lines replies =
    (first : List ℕ) × (more : List (List ℕ)) × (lines ≡ first ∷ more) × LedBy first w more replies

-- a world, where there is one, takes a further line
abbrev pub IsReady : Option World → Type 0
IsReady None = Unit {0}
IsReady (Some w) = IsWorld w × (w.tally.events < 2 ^ 62)

-- the replies to a line: none to the first one, one to each other one
abbrev pub listed : Option Said → List Said
listed None = []
listed (Some said) = said ∷ []

-- one more line leads from one world to another one, with this reply
abbrev pub LeadsOn : Option World → Option World → List ℕ → Option Said → Type 0
LeadsOn old new line said =
    (lines : List (List ℕ)) (replies : List Said) → Led old lines replies
    → Led new (lines ++ line ∷ []) (replies ++ listed said)

-- one more line leads on, and this is the text of its reply
abbrev pub Tells : Option World → Option World → List ℕ → List ℕ → Type 0
Tells old new line text =
    (said : Option Said) × (text ≡ replies_text (listed said)) × LeadsOn old new line said

-- what a line comes to: text, a bad line exactly where it is one, or want of memory
abbrev pub Steps
    : Option World → Option World → List ℕ → List ℕ → Result (Unit {0}) LineFault → Type 0
Steps old new line text (Ok _) = Tells old new line text
Steps old new line text (Err (fault.BadLine at)) = (new ≡ old) × IsBad at old line
Steps old new line text (Err fault.NoMemory) = Unit {0}

-- some front of the text of a line's reply was written, or nothing at all
abbrev pub IsCut : Option World → Option World → List ℕ → List ℕ → Type 0
IsCut old new line written =
    (written ≡ [])
    ⊎ ((text : List ℕ) × (k : ℕ) × (written ≡ take k text) × Tells old new line text)

-- how the line of a number ends the replay, where it does: it is bad, or its reply was written in part
abbrev pub Ends : Status → ℕ → Option World → Option World → List ℕ → List ℕ → Type 0
Ends (status.BadScript at place) number old new line written =
    (at ≡ number) × (written ≡ []) × (new ≡ old) × IsBad place old line
Ends status.WriteFault number old new line written =
    (said : Said) × (k : ℕ) × (written ≡ take k (said_text said)) × LeadsOn old new line (Some said)
Ends status.NoMemory number old new line written = IsCut old new line written
Ends _ number old new line written = ⊥

-- a line is applied and its reply written, or ends the replay
abbrev pub Says
    : Result (Unit {0}) Status → ℕ → Option World → Option World → List ℕ → List ℕ → Type 0
Says (Ok _) number old new line written = Tells old new line written
Says (Err s) number old new line written = Ends s number old new line written

-- the world that a first line fixes, in its first state, or a bad line where it fixes none
abbrev pub First : Result World LineFault → List ℕ → Type 0
First (Ok w) line = LedBy line w [] []
First (Err (fault.BadLine at)) line = world_of line ≡ Err at
First (Err fault.NoMemory) line = Unit {0}

-- what a further line comes to in a world
abbrev pub Answers : Result (Unit {0}) LineFault → World → World → List ℕ → List ℕ → Type 0
Answers (Ok _) old new line text =
    (said : Said)
    × (text ≡ said_text said)
    × ((first : List ℕ) (lines : List (List ℕ)) (replies : List Said) → LedBy first old lines replies
    → LedBy first new (lines ++ line ∷ []) (replies ++ said ∷ []))
Answers (Err (fault.BadLine at)) old new line text = (new ≡ old) × (event_of old.spec line ≡ Err at)
Answers (Err fault.NoMemory) old new line text = Unit {0}

-- memory ran out in the event
abbrev pub is_no_memory : Reply → Bool
is_no_memory reply.NoMemory = true
is_no_memory _ = false

-- how an input that has ended after whole lines ends the replay
abbrev pub end_of : Option World → Status
end_of None = status.BadScript 1 0
end_of (Some w) = status.Done

-- the last line ends the replay
abbrev pub SaysLast : Status → ℕ → Option World → Option World → List ℕ → List ℕ → Type 0
SaysLast status.Done number old new line written = Tells old new line written
SaysLast s number old new line written = Ends s number old new line written

-- how a line of a number that gave nothing ends the replay
abbrev pub stopped_by : ℕ → LineFault → Status
stopped_by number (fault.BadLine at) = status.BadScript number at
stopped_by number fault.NoMemory = status.NoMemory

-- what the writing of a reply comes to
abbrev pub writing_end_of : Wrote → Result (Unit {0}) Status
writing_end_of wrote.All = Ok tt
writing_end_of wrote.Failed = Err status.WriteFault
writing_end_of wrote.NoMemory = Err status.NoMemory

-- the world that is handed back: none where memory ran out, since that one may be half changed
abbrev pub kept_at : Status → Option World → Option World
kept_at status.NoMemory world = None
kept_at _ world = world
