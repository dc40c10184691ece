-- No two publications of one client run or are pending at a time.
use Rattle.std.specs.Prelude.{◌≡◌, ℕ, List, [], ◌∷◌, Option, Some, None, IsSome, if◌then◌else◌}
use Rattle.bcv_model.specs.declared.event.Event.{Event}
use Rattle.bcv_model.specs.declared.reply.Said.{Said}
use Rattle.bcv_machine.specs.ManifestPut.{pending_of}
use Rattle.bcv_machine.specs.Refusals.{ends_pending}
use Rattle.bcv_machine.specs.Run.{Run}
use Rattle.bcv_machine.specs.State.{State, Client, Up, Task, Job, Fetching, Polling, Publishing, Resolving, Pending, client_at, first_state}
use Rattle.bcv_machine.specs.Step.{Choice, Next}

-- the jobs that publish or resolve
abbrev pub busy_jobs : List Task → List Job
busy_jobs [] = []
busy_jobs (t ∷ ts) = if ends_pending t.job then t.job ∷ busy_jobs ts else busy_jobs ts

-- the pending publication is the one that runs, once its intent is noted; a resolve runs for one that is pending
abbrev pub FitsJob : Job → Option Pending → Type 0
FitsJob (Fetching access t p) pending = ⊥
FitsJob Polling pending = ⊥
FitsJob (Publishing p) pending = pending ≡ (if p.intended then Some (pending_of p) else None)
FitsJob Resolving pending = IsSome pending

-- at most one of these runs, and it fits what is pending
abbrev pub FitsPending : List Job → Option Pending → Type 0
FitsPending [] pending = Unit {0}
FitsPending (j ∷ []) pending = FitsJob j pending
FitsPending (j ∷ k ∷ js) pending = ⊥

abbrev pub IsSingleUp : Option Up → Option Pending → Type 0
IsSingleUp None pending = Unit {0}
IsSingleUp (Some u) pending = FitsPending (busy_jobs u.tasks) pending

-- of the client's publications, running or pending, there is at most one
abbrev pub IsSingle : Client → Type 0
IsSingle c = IsSingleUp c.up c.kept.pending

-- every event keeps this of every client
abbrev pub StaysSingle : Type 0
StaysSingle =
    (a b : State) (e : Event) (s : Said) (c : Choice) → Next a e s c b → (n : ℕ) (before after : Client) → client_at a n ≡ Some before → client_at b n ≡ Some after
    → IsSingle before → IsSingle after

-- so in every run of a world each client has at most one
abbrev pub AlwaysSingle : Type 0
AlwaysSingle =
    (clients slots : ℕ) (b : State) (es : List Event) (ss : List Said) (cs : List Choice) → Run (first_state clients slots) es ss cs b
    → (n : ℕ) (x : Client) → client_at b n ≡ Some x → IsSingle x
