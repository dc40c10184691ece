-- The headline: what a replay writes is the text of replies that the machine accepts for the script's events, in order, and
-- the world that it hands back stands for the state that the machine reaches.
use Rattle.std.specs.Prelude.{◌≡◌, ℕ, ◌+◌, List, [], ◌∷◌, ◌++◌, length, take, Option, None}
use Rattle.bcv_base.specs.Faults.{Rose}
use Rattle.bcv_world.specs.declared.world.World.{World}
use Rattle.bcv_model.specs.declared.reply.Said.{Said}
use Rattle.bcv_model.specs.ReplyText.{said_text}
use Rattle.bcv_commands.specs.declared.status.Status.{Status}
use Rattle.bcv_commands.specs.declared.status.Status.TheVariants as status
use Rattle.bcv_lines.specs.Lines.{Splits, IsOpen, IsTooLong, IsNext, AreAll, BeginsWith}
use Rattle.bcv_top.specs.Replay.{Leads, StopsAt, replies_text}

-- some front of the text of replies to lines that were taken was written
abbrev pub WritesFront : List ℕ → Type 0 → List ℕ → Type 0
WritesFront taken ended written =
    (lines : List (List ℕ)) × (world : Option World) × (replies : List Said) × (k : ℕ)
    × BeginsWith ended taken lines × Leads lines world replies
    × (written ≡ take k (replies_text replies))

-- the world that is handed back, what was taken of the input, whether it has ended, and what was written, by the status
abbrev pub Replays : Status → Option World → List ℕ → Type 0 → List ℕ → Type 0
-- the input has ended, and all its lines, of which there are some, lead to the world and to what was written
Replays status.Done world taken ended written =
    ended
    × ((first : List ℕ) × (lines : List (List ℕ)) × (replies : List Said)
    × AreAll taken (first ∷ lines) × Leads (first ∷ lines) world replies
    × (written ≡ replies_text replies))
-- the lines in front lead to the world and to what was written, and the next one, which isn't too long, is bad at the place
Replays (status.BadScript number at) world taken ended written =
    (lines : List (List ℕ)) × (rest line : List ℕ) × (replies : List Said)
    × (number ≡ length lines + 1) × Splits taken lines rest × IsNext ended lines rest line
    × StopsAt at lines world replies line × (written ≡ replies_text replies)
-- all lines that were taken whole lead to the world and to what was written
Replays status.ReadFault world taken ended written =
    (lines : List (List ℕ)) × (rest : List ℕ) × (replies : List Said) × Splits taken lines rest
    × IsOpen lines rest × Leads lines world replies × (written ≡ replies_text replies)
-- the lines up to one of them lead to the world; all replies to them were written whole but the last one, and of that one some front
Replays status.WriteFault world taken ended written =
    (lines : List (List ℕ)) × (replies : List Said) × (last : Said) × (k : ℕ)
    × BeginsWith ended taken lines × Leads lines world (replies ++ last ∷ [])
    × (written ≡ replies_text replies ++ take k (said_text last))
-- some front of the text of replies was written, and no world is handed back
Replays status.NoMemory world taken ended written = (world ≡ None) × WritesFront taken ended written
-- the lines in front lead to the world and to what was written, and what comes next passes a limit
Replays status.TooLong world taken ended written =
    (lines : List (List ℕ)) × (rest : List ℕ) × (replies : List Said) × Splits taken lines rest
    × IsTooLong lines rest × Leads lines world replies × (written ≡ replies_text replies)
-- a replay asks no store, disk, clock or names of the outside
Replays _ world taken ended written = ⊥

-- a fault of the input or of the output is answered only where its count rose
pub record HasCauses (input_before input_now output_before output_now : ℕ) (result : Status)
    : Type 0 where
  pub read : result ≡ status.ReadFault → Rose input_before input_now
  pub write : result ≡ status.WriteFault → Rose output_before output_now
