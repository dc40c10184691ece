-- Acknowledged commits leave only at a Done, a Resolved or a Revert.
use Rattle.std.specs.Prelude.{◌≡◌, ◌⊎◌, ℕ, List, ◌++◌, Option, Some, None}
use Rattle.bcv_base.specs.Image.{Writes}
use Rattle.bcv_model.specs.declared.ask.Ask.{Ask}
use Rattle.bcv_model.specs.declared.ask.Ask.TheVariants as ask
use Rattle.bcv_model.specs.declared.event.Act.{Act}
use Rattle.bcv_model.specs.declared.event.Act.TheVariants as act
use Rattle.bcv_model.specs.declared.event.Event.{Event}
use Rattle.bcv_model.specs.declared.event.Event.TheVariants as event
use Rattle.bcv_model.specs.declared.reply.Reply.{Reply}
use Rattle.bcv_model.specs.declared.reply.Reply.TheVariants as reply
use Rattle.bcv_model.specs.declared.reply.Said.{Said}
use Rattle.bcv_machine.specs.Run.{Run}
use Rattle.bcv_machine.specs.SingleLaw.{IsSingle}
use Rattle.bcv_machine.specs.State.{State, first_state, Client, KeptState, Note, Committing, Reverting, Intending, Finishing, Voiding, client_at, commits_in}
use Rattle.bcv_machine.specs.Step.{Choice, Next}

-- each database has the commits that it had, and maybe further ones after them
abbrev pub CommitsStay : KeptState → KeptState → Type 0
CommitsStay before after = (db : List ℕ) → (more : List Writes) × (commits_in after.locals db ≡ commits_in before.locals db ++ more)

-- the note ends a publication that was made, or gives commits up
abbrev pub TakesCommits : Option Note → Type 0
TakesCommits None = ⊥
TakesCommits (Some (Committing db base w)) = ⊥
TakesCommits (Some (Reverting db)) = Unit {0}
TakesCommits (Some (Intending p)) = ⊥
TakesCommits (Some (Finishing n)) = Unit {0}
TakesCommits (Some Voiding) = ⊥

-- a client is told that a publication was made, by its own put or by a resolve
abbrev pub TellsOfPublication : Reply → Type 0
TellsOfPublication (reply.Done n) = Unit {0}
TellsOfPublication (reply.Resolved n) = Unit {0}
TellsOfPublication _ = ⊥

-- the ask gives commits up, and they are gone
abbrev pub GivesUp : Ask → Reply → Type 0
GivesUp (ask.Revert db) reply.Fine = Unit {0}
GivesUp _ _ = ⊥

-- the act of a client may take acknowledged commits: it tells of a publication, gives commits up, or brings the client up
-- where the crash left such a note in flight
abbrev pub MayTakeCommits : Act → Reply → Option Note → Type 0
MayTakeCommits (act.Ask q o) r flight = TellsOfPublication r ⊎ GivesUp q r
MayTakeCommits act.Up r flight = TakesCommits flight
MayTakeCommits (act.Crash image) r flight = ⊥
MayTakeCommits (act.Fuse calls image) r flight = ⊥
MayTakeCommits (act.FailAt calls) r flight = ⊥

-- the event is one of client n, which may take its commits
abbrev pub MayTakeOf : ℕ → Event → Reply → Option Note → Type 0
MayTakeOf n (event.Tick k) r flight = ⊥
MayTakeOf n (event.Of m what) r flight = (m ≡ n) × MayTakeCommits what r flight

-- at every other event the commits of a client stay, which has one publication at a time, as in each run
abbrev pub CommitsLeaveOnly : Type 0
CommitsLeaveOnly =
    (a b : State) (e : Event) (s : Said) (c : Choice) → Next a e s c b → (n : ℕ) (before after : Client) → client_at a n ≡ Some before → client_at b n ≡ Some after → IsSingle before
    → CommitsStay before.kept after.kept ⊎ MayTakeOf n e s.reply before.flight

-- so at no event after any run of a world
abbrev pub CommitsLeaveOnlyInRuns : Type 0
CommitsLeaveOnlyInRuns =
    (clients slots : ℕ) (a b : State) (es : List Event) (ss : List Said) (cs : List Choice) (e : Event) (s : Said) (c : Choice) → Run (first_state clients slots) es ss cs a → Next a e s c b
    → (n : ℕ) (before after : Client) → client_at a n ≡ Some before → client_at b n ≡ Some after → CommitsStay before.kept after.kept ⊎ MayTakeOf n e s.reply before.flight
