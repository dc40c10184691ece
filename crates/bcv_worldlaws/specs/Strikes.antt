-- What strikes a client's disk: a failure of a call, or a fuse that burns.
use Rattle.std.specs.Prelude.{◌≡◌, ℕ, Bool, true, false, List, None}
use Rattle.bcv_base.specs.declared.outcome.Outcome.{Outcome}
use Rattle.bcv_base.specs.History.{Item}
use Rattle.bcv_clientstate.specs.SeenClient.{Free}
use Rattle.bcv_machine.specs.CrashAndUp.{crashed}
use Rattle.bcv_machine.specs.State.{Side, Up, with_client}
use Rattle.bcv_machine.specs.Step.{Acts, Asks, Choice}
use Rattle.bcv_model.specs.declared.ask.Ask.{Ask}
use Rattle.bcv_model.specs.declared.event.Act.{Act}
use Rattle.bcv_model.specs.declared.reply.Reply.TheVariants as reply
use Rattle.bcv_model.specs.declared.reply.Said.{Said}
use Rattle.bcv_worldlaws.specs.Places.{ClientPlace, DownPlace, UpPlace, place_side, seen_place}

-- the side whose client's disk is set to fail
abbrev pub set_failing : Side → Side
set_failing s = with_client s (record s.client { failing = true })

-- the side after a call that failed, had a fuse burnt in place of the failure: the client is down,
-- and the failure that was set before, if one was, still is
abbrev pub struck : Bool → Side → Side
struck failing t = with_client t (record t.client { fused = false; failing = failing; up = None })

-- an ask that ends by the failure, on a disk set to fail, ends by the crash where the disk has a
-- fuse
abbrev pub CrashStrikes : Type 0
CrashStrikes =
    (s : Side) (u : Up) (q : Ask) (o : Outcome) (said : Said) (choice : Choice) (t : Side)
    → s.client.fused ≡ true → said.reply ≡ reply.DiskFault
    → Asks (set_failing s) u q o said choice t
    → Asks s u q o (record said { reply = reply.Crashed }) choice (struck s.client.failing t)

-- so it is for whatever happens to a client that is up or down
abbrev pub ActStrikes : Type 0
ActStrikes =
    (s : Side) (what : Act) (said : Said) (choice : Choice) (t : Side)
    → s.client.fused ≡ true → said.reply ≡ reply.DiskFault
    → Acts (set_failing s) s.client.up what said choice t
    → Acts s s.client.up what (record said { reply = reply.Crashed }) choice
    (struck s.client.failing t)

-- ---- places

-- what is free of a client whose disk is set to fail, and of one that was struck
abbrev pub free_failing : Free → Free
free_failing f = record f { failing = true }

abbrev pub free_struck : Bool → Free → Free
free_struck failing f = record f { fused = false; failing = failing }

-- the place of a client that goes down; one that is down stays so
abbrev pub fallen : (Free → Free) → ClientPlace → ClientPlace
fallen change (UpPlace p entries f) = DownPlace p.id p.kept (change f)
fallen change (DownPlace id k f) = DownPlace id k (change f)

abbrev pub failing_place : ClientPlace → ClientPlace
failing_place (UpPlace p entries f) = UpPlace p entries (free_failing f)
failing_place (DownPlace id k f) = DownPlace id k (free_failing f)

-- a place's side once its disk is set to fail, once it was struck, and once it crashed
pub record FallsAsSeen (moment : ℕ) (past : List Item) (failing : Bool)
    (p : ClientPlace) : Type 0 where
  pub set : set_failing (place_side moment past p) ≡ place_side moment past (failing_place p)
  pub strikes : struck failing (place_side moment past p)
      ≡ place_side moment past (fallen (free_struck failing) p)
  pub crash : crashed (place_side moment past p) ≡ place_side moment past (fallen (λ f. f) p)

abbrev pub PlacesFall : Type 0
PlacesFall =
    (moment : ℕ) (past : List Item) (failing : Bool) (p : ClientPlace)
    → FallsAsSeen moment past failing p

-- what a client did with its disk set to fail, and by that failure, is what it does where the fuse
-- burns: its place falls
abbrev pub StruckActs : Type 0
StruckActs =
    (moment : ℕ) (before after : List Item) (old new : ClientPlace) (what : Act) (said : Said)
    (choice : Choice)
    → (seen_place before old).fused ≡ true → said.reply ≡ reply.DiskFault
    → Acts (place_side moment before (failing_place old))
    (seen_place before (failing_place old)).up what said choice (place_side moment after new)
    → Acts (place_side moment before old) (seen_place before old).up what
    (record said { reply = reply.Crashed }) choice
    (place_side moment after (fallen (free_struck (seen_place before old).failing) new))
