-- What happens to a client without a request and without a note.
use Rattle.std.specs.Prelude.{◌≡◌, Option, None, Some, true, IfSome, ℕ, List}
use Rattle.bcv_base.specs.declared.id.Id16.{Id16}
use Rattle.bcv_base.specs.declared.log.Entry.{Entry}
use Rattle.bcv_base.specs.History.{Item}
use Rattle.bcv_machine.specs.Step.{Acts, Choice}
use Rattle.bcv_model.specs.declared.event.Act.{Act}
use Rattle.bcv_model.specs.declared.event.Act.TheVariants as act
use Rattle.bcv_model.specs.declared.reply.Reply.{Reply}
use Rattle.bcv_model.specs.declared.reply.Reply.TheVariants as reply
use Rattle.bcv_worldlaws.specs.Places.{ClientPlace, DownPlace, UpPlace, FitsPlace, WorldFits, place_at, place_side, seen_place, with_place}
use Rattle.bcv_worldlaws.specs.WorldLaws.{MovesPlace, WorldStep}

-- the reply to an act, and the place after it
pub record Quietly : Type 0 where
  pub reply : Reply
  pub place : ClientPlace

abbrev pub with_reply : Reply → ClientPlace → Option Quietly
with_reply r p = Some (record { reply = r; place = p })

-- an act that neither asks a client that is up, nor brings up one that is down
abbrev pub quiet_act : Act → ClientPlace → Option Quietly
quiet_act (act.Ask q o) (UpPlace p entries f) = None
quiet_act act.Up (UpPlace p entries f) = with_reply reply.IsUp (UpPlace p entries f)
quiet_act (act.Crash image)
    (UpPlace p entries f) = with_reply reply.Crashed (DownPlace p.id p.kept f)
quiet_act (act.Fuse calls image) (UpPlace p entries f) =
    with_reply reply.Fine (UpPlace p entries (record f { fused = true }))
quiet_act (act.FailAt calls) (UpPlace p entries f) =
    with_reply reply.Fine (UpPlace p entries (record f { failing = true }))
quiet_act (act.Ask q o) (DownPlace id k f) = with_reply reply.Down (DownPlace id k f)
quiet_act act.Up (DownPlace id k f) = None
quiet_act (act.Crash image) (DownPlace id k f) = with_reply reply.Down (DownPlace id k f)
quiet_act (act.Fuse calls image) (DownPlace id k f) = with_reply reply.Down (DownPlace id k f)
quiet_act (act.FailAt calls) (DownPlace id k f) = with_reply reply.Down (DownPlace id k f)

-- the machine takes it so
abbrev pub QuietActs : Type 0
QuietActs =
    (moment : ℕ) (past : List Item) (what : Act) (p : ClientPlace) (choice : Choice)
    → IfSome (quiet_act what p) (λ q. Acts (place_side moment past p) (seen_place past p).up what
    (record { published = None; reply = q.reply }) choice (place_side moment past q.place))

-- and the place still fits the log, with no new name
abbrev pub QuietActsFit : Type 0
QuietActsFit =
    (log : List Entry) (what : Act) (p : ClientPlace) → FitsPlace log p
    → IfSome (quiet_act what p) (λ q. MovesPlace log p q.place)

-- so it is an event of the machine, and the world fits after it
abbrev pub QuietActGoesOn : Type 0
QuietActGoesOn =
    (moment : ℕ) (names : List Id16) (log : List Entry) (places : List ClientPlace) (n : ℕ)
    (old : ClientPlace) (what : Act) (choice : Choice)
    → WorldFits names log places → place_at n places ≡ Some old
    → IfSome (quiet_act what old) (λ q. WorldStep moment log log places (with_place n q.place places)
    n what (record { published = None; reply = q.reply }) choice names)
