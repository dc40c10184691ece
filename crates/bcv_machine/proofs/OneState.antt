-- What is said of an event decides the state after it: each relation of the machine leaves one side.
use Rattle.std.proofs.Common.{◌≡◌, ◌∙◌, ℕ, zero, suc, Bool, true, false, ◌||◌, List, [], ◌∷◌, ◌++◌, Option, Some, None, sym, ap}
use Rattle.bcv_base.specs.declared.id.Id16.{Id16}
use Rattle.bcv_base.specs.declared.outcome.Outcome.{Outcome}
use Rattle.bcv_base.specs.declared.outcome.Outcome.TheVariants as outcome
use Rattle.bcv_base.specs.Version.{Version}
use Rattle.bcv_base.specs.Image.{Writes}
use Rattle.bcv_model.specs.Commits.{writes_of}
use Rattle.bcv_model.specs.declared.ask.Ask.{Ask}
use Rattle.bcv_model.specs.declared.ask.Ask.TheVariants as ask
use Rattle.bcv_model.specs.declared.event.Act.{Act}
use Rattle.bcv_model.specs.declared.event.Act.TheVariants as act
use Rattle.bcv_model.specs.declared.event.Event.{Event}
use Rattle.bcv_model.specs.declared.event.Event.TheVariants as event
use Rattle.bcv_model.specs.declared.reply.Reply.{Reply}
use Rattle.bcv_model.specs.declared.reply.Reply.TheVariants as reply
use Rattle.bcv_model.specs.declared.reply.Said.{Said}
use Rattle.bcv_machine.specs.CrashAndUp.{Crashes, SetsFuse, SetsFailure}
use Rattle.bcv_machine.specs.OneStateLaw.{IsNoUpAct, IsNoUp}
use Rattle.bcv_machine.specs.LocalWriting.{NotesLocally, CommitsOver, RevertsFrom, Lists, without_known, with_known}
use Rattle.bcv_machine.specs.ManifestGet.{GetsManifest}
use Rattle.bcv_machine.specs.ManifestPut.{Finishes, Stores, Appends, Refuses, IntentFails, NoteFailsAt, PutsNothing, PutFails, PutLosesNothing, PutLosesAnswer, PutsManifest, with_intent, with_version, version_made, intent_of, last_refusal}
use Rattle.bcv_machine.specs.MiddleStep.{GoesOn, requested}
use Rattle.bcv_machine.specs.Noting.{Notes, NoteFails, FaultEnds}
use Rattle.bcv_machine.specs.Poll.{PollsLast, Polls}
use Rattle.bcv_machine.specs.Reading.{Opens, OpensAs, ComesAtOnce, FetchesIn, FetchesOf, FetchSteps, FetchStepsOf, Shows, LetsGo, Closes, txn_over}
use Rattle.bcv_machine.specs.Refusals.{UnlessRefused}
use Rattle.bcv_machine.specs.Resolve.{ResolvesAs, ResolvesPending, Resolves}
use Rattle.bcv_machine.specs.Starting.{upload_of, StartsAs, Publishes, Starts}
use Rattle.bcv_machine.specs.State.{State, Container, Side, Client, Up, View, LocalDb, Note, Committing, Reverting, Finishing, Voiding, Pending, Txn, Task, Access, ToRead, ToHold, Kind, Creating, Making, Copying, Removing, Cleaning, Job, Fetching, Polling, Publishing, Resolving, Publication, put_back, client_at, txn_at, task_at}
use Rattle.bcv_machine.specs.Step.{Choice, Next, NextOf, Acts, AsksOrSteps, AsksQuietly, Steps, StepsOpen, StepsJob, StepsPublication, give_back, stepped_task}

both : {A : Type 0} (x y z : A) → x ≡ z → y ≡ z → x ≡ y
both x y z p q = p ∙ sym q

pub side_eq : (t o : Side) → t.container ≡ o.container → t.client ≡ o.client → t ≡ o
side_eq t o p q = ap (λ (c : Container). let x : Side = record { container = c; client = t.client } in x) p ∙ ap (λ (d : Client). let x : Side = record { container = o.container; client = d } in x) q

-- ---- refusals and notes

unless : (refusal : Option Reply) (same : Side) (r : Reply) (t o : Side) (D E : Type 0) → (D → E → t ≡ o) → UnlessRefused refusal same r t D → UnlessRefused refusal same r o E → t ≡ o
unless None same r t o D E f h k = f h k
unless (Some x) same r t o D E f h k = both _ _ _ h.1 k.1

notes : (s : Side) (u : Up) (x : Note) (e : Option Reply) (d f : Client) → Notes s u x e d → Notes s u x e f → d ≡ f
notes s u x None d f h k = both _ _ _ h k
notes s u x (Some reply.JournalFull) d f h k = both _ _ _ h.1 k.1
notes s u x (Some reply.DiskFault) d f h k = both _ _ _ h.1 k.1
notes s u x (Some reply.Crashed) d f h k = both _ _ _ h.1 k.1
notes s u x (Some _) d f h k = absurd h

note_fails : (s : Side) (u : Up) (x : Note) (r : Reply) (t o : Side) → NoteFails s u x r t → NoteFails s u x r o → t ≡ o
note_fails s u x r t o h k = side_eq t o (both _ _ _ h.0 k.0) (notes s u x (Some r) t.client o.client h.1 k.1)

fault_ends : (i : Bool) (s : Side) (u : Up) (f g : Reply) (r : Reply) (t o : Side) → FaultEnds i s u f r t → FaultEnds i s u g r o → t ≡ o
fault_ends false s u f g r t o h k = both _ _ _ h.1 k.1
fault_ends true s u f g reply.DiskFault t o h k = note_fails s u Voiding reply.DiskFault t o h k
fault_ends true s u f g reply.Crashed t o h k = note_fails s u Voiding reply.Crashed t o h k
fault_ends true s u f g _ t o h k = both _ _ _ h.1 k.1

-- ---- reading

opens : (s : Side) (u : Up) (x : Option Txn) (t o : Side) → Opens s u x t → Opens s u x o → t ≡ o
opens s u None t o h k = absurd h
opens s u (Some x) t o h k = both _ _ _ h k

opens_as : (s : Side) (u : Up) (db : List ℕ) (r : Reply) (t o : Side) → OpensAs s u db r t → OpensAs s u db r o → t ≡ o
opens_as s u db (reply.Txn n) t o h k = opens s u (txn_over s u n db) t o h.1 k.1
opens_as s u db _ t o h k = absurd h

comes : (access : Access) (s : Side) (u : Up) (x : Txn) (p : ℕ) (r : Reply) (t o : Side) → ComesAtOnce access s u x p r t → ComesAtOnce access s u x p r o → t ≡ o
comes ToRead s u x p (reply.Page bytes) t o h k = both _ _ _ h.1 k.1
comes ToRead s u x p reply.CacheFull t o h k = both _ _ _ h.2 k.2
comes ToRead s u x p _ t o h k = absurd h
comes ToHold s u x p reply.Held t o h k = both _ _ _ h k
comes ToHold s u x p reply.CacheFull t o h k = both _ _ _ h.2 k.2
comes ToHold s u x p _ t o h k = absurd h

fetches_in : (access : Access) (s : Side) (u : Up) (x : Txn) (p : ℕ) (r : Reply) (t o : Side) → FetchesIn access s u x p r t → FetchesIn access s u x p r o → t ≡ o
fetches_in access s u x p (reply.Task n left) t o h k = both _ _ _ h.4 k.4
fetches_in access s u x p reply.TooMany t o h k = both _ _ _ h.2 k.2
fetches_in access s u x p r t o h k = comes access s u x p r t o h k

fetches_of : (access : Access) (s : Side) (u : Up) (x : Option Txn) (p : ℕ) (r : Reply) (t o : Side) → FetchesOf access s u x p r t → FetchesOf access s u x p r o → t ≡ o
fetches_of access s u None p r t o h k = absurd h
fetches_of access s u (Some x) p r t o h k = fetches_in access s u x p r t o h k

fetch_steps : (access : Access) (s : Side) (u : Up) (x : Txn) (p : ℕ) (q : Outcome) (r : Reply) (t o : Side) → FetchSteps access s u x p q r t → FetchSteps access s u x p q r o → t ≡ o
fetch_steps access s u x p outcome.Ok reply.Gone t o h k = both _ _ _ h.2 k.2
fetch_steps access s u x p outcome.Fail reply.StoreFault t o h k = both _ _ _ h.1 k.1
fetch_steps access s u x p outcome.Lost reply.StoreFault t o h k = both _ _ _ h.1 k.1
fetch_steps access s u x p q r t o h k = comes access s u x p r t o h k

fetch_steps_of : (access : Access) (s : Side) (u : Up) (x : Option Txn) (p : ℕ) (q : Outcome) (r : Reply) (t o : Side) → FetchStepsOf access s u x p q r t → FetchStepsOf access s u x p q r o → t ≡ o
fetch_steps_of access s u None p q r t o h k = absurd h
fetch_steps_of access s u (Some x) p q r t o h k = fetch_steps access s u x p q r t o h k

shows : (s : Side) (u : Up) (x : Option Txn) (p : ℕ) (r : Reply) (t o : Side) → Shows s u x p r t → Shows s u x p r o → t ≡ o
shows s u None p r t o h k = absurd h
shows s u (Some x) p (reply.Page bytes) t o h k = both _ _ _ h.1 k.1
shows s u (Some x) p _ t o h k = absurd h

lets_go : (s : Side) (u : Up) (x : Option Txn) (p : ℕ) (r : Reply) (t o : Side) → LetsGo s u x p r t → LetsGo s u x p r o → t ≡ o
lets_go s u None p r t o h k = absurd h
lets_go s u (Some x) p reply.Fine t o h k = both _ _ _ h k
lets_go s u (Some x) p _ t o h k = absurd h

closes : (s : Side) (u : Up) (n : ℕ) (r : Reply) (t o : Side) → Closes s u n r t → Closes s u n r o → t ≡ o
closes s u n reply.Fine t o h k = both _ _ _ h k
closes s u n _ t o h k = absurd h

-- ---- local writing

notes_locally : (s : Side) (u v : Up) (x : Note) (r : Reply) (t o : Side) → NotesLocally s u v x r t → NotesLocally s u v x r o → t ≡ o
notes_locally s u v x reply.Fine t o h k = both _ _ _ h k
notes_locally s u v x r t o h k = note_fails s u x r t o h k

commits_over : (s : Side) (u : Up) (db : List ℕ) (w : Writes) (v : Option View) (r : Reply) (t o : Side) → CommitsOver s u db w v r t → CommitsOver s u db w v r o → t ≡ o
commits_over s u db w None r t o h k = absurd h
commits_over s u db w (Some v) r t o h k = notes_locally s u (without_known u db) (Committing db v.base w) r t o h k

reverts_from : (s : Side) (u : Up) (d : Option LocalDb) (r : Reply) (t o : Side) → RevertsFrom s u d r t → RevertsFrom s u d r o → t ≡ o
reverts_from s u None r t o h k = absurd h
reverts_from s u (Some d) r t o h k = notes_locally s u (with_known u d.name d.base) (Reverting d.name) r t o h k

lists : (s : Side) (u : Up) (r : Reply) (t o : Side) → Lists s u r t → Lists s u r o → t ≡ o
lists s u (reply.Table rows pending) t o h k = both _ _ _ h.2 k.2
lists s u _ t o h k = absurd h

-- ---- starting

starts_as : (s : Side) (u : Up) (j : Job) (left : ℕ) (r : Reply) (t o : Side) → StartsAs s u j left r t → StartsAs s u j left r o → t ≡ o
starts_as s u j left (reply.Task n l) t o h k = both _ _ _ h.2 k.2
starts_as s u j left _ t o h k = absurd h

starts : (s : Side) (u : Up) (kind : Kind) (id : Id16) (r : Reply) (t o : Side) → Starts s u kind id r t → Starts s u kind id r o → t ≡ o
starts s u kind id r t o h k = unless _ _ r t o _ _ (λ (x : Publishes s u kind id r t) (y : Publishes s u kind id r o). starts_as s u _ _ r t o x.2 y.2) h k

-- ---- publishing

gets : (s : Side) (u : Up) (p : Publication) (q : Outcome) (r : Reply) (t o : Side) (x y : Option Publication) → GetsManifest s u p q r t x → GetsManifest s u p q r o y → (t ≡ o) × (x ≡ y)
gets s u p outcome.Ok (reply.Working left) t o x y h k = (both _ _ _ h.2 k.2, both _ _ _ h.3 k.3)
gets s u p outcome.Ok r t o x y h k = (fault_ends p.intended s u h.0.0 k.0.0 r t o h.0.2 k.0.2, both _ _ _ h.1 k.1)
gets s u p outcome.Fail r t o x y h k = (fault_ends p.intended s u reply.StoreFault reply.StoreFault r t o h.0 k.0, both _ _ _ h.1 k.1)
gets s u p outcome.Lost r t o x y h k = (fault_ends p.intended s u reply.StoreFault reply.StoreFault r t o h.0 k.0, both _ _ _ h.1 k.1)

goes : (s : Side) (u : Up) (p : Publication) (q : Outcome) (r : Reply) (t o : Side) (x y : Option Publication) → GoesOn s u p q r t x → GoesOn s u p q r o y → (t ≡ o) × (x ≡ y)
goes s u p outcome.Ok (reply.Working left) t o x y h k = (both _ _ _ h.1 k.1, both _ _ _ h.2 k.2)
goes s u p q r t o x y h k = (fault_ends p.intended (requested s p q) u h.0.0 k.0.0 r t o h.0.2 k.0.2, both _ _ _ h.1 k.1)

finishes : (s : Side) (u : Up) (p : Publication) (n : ℕ) (v : Version) (r : Reply) (t o : Side) → Finishes s u p n v r t → Finishes s u p n v r o → t ≡ o
finishes s u p n v (reply.Done m) t o h k = both _ _ _ h.1 k.1
finishes s u p n v (reply.Cleaned deleted more) t o h k = both _ _ _ h.1 k.1
finishes s u p n v r t o h k = note_fails s u (Finishing n) r t o h k

stores : (s : Side) (u : Up) (p : Publication) (n : ℕ) (v : Option Version) (r : Reply) (t o : Side) → Stores s u p n v r t → Stores s u p n v r o → t ≡ o
stores s u p n None r t o h k = absurd h
stores s u p n (Some v) r t o h k = finishes (with_version s p.kind v) u p n v r t o h k

appends : (s : Side) (p : Publication) (v : Option Version) (t o : Side) → Appends s p v t → Appends s p v o → t ≡ o
appends s p None t o h k = absurd h
appends s p (Some v) t o h k = both _ _ _ h k

refuses : (s : Side) (u : Up) (p : Publication) (read : ℕ) (r : Reply) (t o : Side) (x y : Option Publication) → Refuses s u p read r t x → Refuses s u p read r o y → (t ≡ o) × (x ≡ y)
refuses s u p read (reply.Working left) t o x y h k = (both _ _ _ h.2 k.2, both _ _ _ h.3 k.3)
refuses s u p read r t o x y h k = (fault_ends true s u (last_refusal p.kind (p.refused ++ read ∷ [])) (last_refusal p.kind (p.refused ++ read ∷ [])) r t o h.1 k.1, both _ _ _ h.2 k.2)

intent_fails : (i : Bool) (s : Side) (u : Up) (p : Publication) (r : Reply) (t o : Side) → IntentFails i s u p r t → IntentFails i s u p r o → t ≡ o
intent_fails true s u p r t o h k = absurd h
intent_fails false s u p r t o h k = note_fails s u (intent_of p) r t o h k

note_fails_at : (b : Bool) (s : Side) (u : Up) (p : Publication) (read : ℕ) (r : Reply) (t o : Side) (x y : Option Publication) → NoteFailsAt b s u p read r t x → NoteFailsAt b s u p read r o y → (t ≡ o) × (x ≡ y)
note_fails_at false s u p read r t o x y h k = (intent_fails p.intended s u p r t o h.0 k.0, both _ _ _ h.1 k.1)
note_fails_at true s u p read r t o x y h k = refuses (with_intent p.intended s u p) u p read r t o x y h.1 k.1

puts_nothing : (b : Bool) (s : Side) (u : Up) (p : Publication) (read : ℕ) (r : Reply) (t o : Side) (x y : Option Publication) → PutsNothing b s u p read r t x → PutsNothing b s u p read r o y → (t ≡ o) × (x ≡ y)
puts_nothing b s u p read reply.JournalFull t o x y h k = note_fails_at false s u p read reply.JournalFull t o x y h k
puts_nothing b s u p read reply.DiskFault t o x y h k = note_fails_at (p.intended || b) s u p read reply.DiskFault t o x y h k
puts_nothing b s u p read reply.Crashed t o x y h k = note_fails_at (p.intended || b) s u p read reply.Crashed t o x y h k
puts_nothing b s u p read r t o x y h k = refuses (with_intent p.intended s u p) u p read r t o x y h.1 k.1

put_fails : (s : Side) (u : Up) (p : Publication) (r : Reply) (t o : Side) (x y : Option Publication) → PutFails s u p r t x → PutFails s u p r o y → (t ≡ o) × (x ≡ y)
put_fails s u p (reply.Unknown id) t o x y h k = (both _ _ _ h.1 k.1, both _ _ _ h.2 k.2)
put_fails s u p r t o x y h k = (intent_fails p.intended s u p r t o h.0 k.0, both _ _ _ h.1 k.1)

loses_nothing : (s : Side) (u : Up) (p : Publication) (read : ℕ) (r : Reply) (t o : Side) (x y : Option Publication) → PutLosesNothing s u p read r t x → PutLosesNothing s u p read r o y → (t ≡ o) × (x ≡ y)
loses_nothing s u p read (reply.Unknown id) t o x y h k = put_fails s u p (reply.Unknown id) t o x y h.1 k.1
loses_nothing s u p read r t o x y h k = put_fails s u p r t o x y h k

loses_answer : (s : Side) (u : Up) (p : Publication) (r : Reply) (t o : Side) (x y : Option Publication) → PutLosesAnswer s u p r t x → PutLosesAnswer s u p r o y → (t ≡ o) × (x ≡ y)
loses_answer s u p (reply.Unknown id) t o x y h k = (appends (with_intent p.intended s u p) p (version_made s.container p) t o h.1 k.1, both _ _ _ h.2 k.2)
loses_answer s u p _ t o x y h k = absurd h

puts : (b : Bool) (s : Side) (u : Up) (p : Publication) (read : ℕ) (q : Outcome) (n : Option ℕ) (r : Reply) (t o : Side) (x y : Option Publication)
    → PutsManifest b s u p read q n r t x → PutsManifest b s u p read q n r o y → (t ≡ o) × (x ≡ y)
puts b s u p read outcome.Ok (Some n) r t o x y h k = (stores (with_intent p.intended s u p) u p n (version_made s.container p) r t o h.1 k.1, both _ _ _ h.2 k.2)
puts b s u p read outcome.Ok None r t o x y h k = puts_nothing b s u p read r t o x y h k
puts b s u p read outcome.Fail (Some n) r t o x y h k = absurd h
puts b s u p read outcome.Fail None r t o x y h k = put_fails s u p r t o x y h k
puts b s u p read outcome.Lost (Some n) r t o x y h k = loses_answer s u p r t o x y h.1 k.1
puts b s u p read outcome.Lost None r t o x y h k = loses_nothing s u p read r t o x y h k

-- ---- poll and resolve

polls_last : (s : Side) (u : Up) (v : Option Version) (r : Reply) (t o : Side) → PollsLast s u v r t → PollsLast s u v r o → t ≡ o
polls_last s u None reply.NoContainer t o h k = both _ _ _ h k
polls_last s u None _ t o h k = absurd h
polls_last s u (Some v) (reply.Polled n) t o h k = both _ _ _ h.1 k.1
polls_last s u (Some v) _ t o h k = absurd h

polls : (s : Side) (u : Up) (q : Outcome) (r : Reply) (t o : Side) → Polls s u q r t → Polls s u q r o → t ≡ o
polls s u outcome.Ok r t o h k = polls_last s u _ r t o h k
polls s u outcome.Fail r t o h k = both _ _ _ h.1 k.1
polls s u outcome.Lost r t o h k = both _ _ _ h.1 k.1

resolves_as : (s : Side) (u : Up) (p : Pending) (n : Option ℕ) (r : Reply) (t o : Side) → ResolvesAs s u p n r t → ResolvesAs s u p n r o → t ≡ o
resolves_as s u p (Some n) (reply.Resolved m) t o h k = both _ _ _ h.1 k.1
resolves_as s u p (Some n) r t o h k = note_fails s u (Finishing n) r t o h k
resolves_as s u p None reply.Voided t o h k = both _ _ _ h k
resolves_as s u p None r t o h k = note_fails s u Voiding r t o h k

resolves_pending : (s : Side) (u : Up) (p : Option Pending) (r : Reply) (t o : Side) → ResolvesPending s u p r t → ResolvesPending s u p r o → t ≡ o
resolves_pending s u None r t o h k = absurd h
resolves_pending s u (Some p) r t o h k = resolves_as s u p _ r t o h k

resolves : (s : Side) (u : Up) (q : Outcome) (r : Reply) (t o : Side) → Resolves s u q r t → Resolves s u q r o → t ≡ o
resolves s u outcome.Ok r t o h k = resolves_pending s u _ r t o h k
resolves s u outcome.Fail r t o h k = both _ _ _ h.1 k.1
resolves s u outcome.Lost r t o h k = both _ _ _ h.1 k.1

-- ---- the step of a task

steps_publication : (read : Option ℕ) (left : ℕ) (s : Side) (u : Up) (p : Publication) (q : Outcome) (said : Said) (b : Bool) (t o : Side) (x y : Option Publication)
    → StepsPublication read left s u p q said b t x → StepsPublication read left s u p q said b o y → (t ≡ o) × (x ≡ y)
steps_publication None left s u p q said b t o x y h k = gets s u p q said.reply t o x y h.1 k.1
steps_publication (Some n) zero s u p q said b t o x y h k = absurd h
steps_publication (Some n) (suc zero) s u p q said b t o x y h k = puts b s u p n q said.published said.reply t o x y h k
steps_publication (Some n) (suc (suc left)) s u p q said b t o x y h k = goes s u p q said.reply t o x y h.1 k.1

steps_job : (j : Job) (n : ℕ) (s : Side) (u : Up) (q : Outcome) (said : Said) (b : Bool) (t o : Side) → StepsJob j n s u q said b t → StepsJob j n s u q said b o → t ≡ o
steps_job (Fetching access txn page) n s u q said b t o h k = fetch_steps_of access s u (txn_at u txn) page q said.reply t o h.1 k.1
steps_job Polling n s u q said b t o h k = polls s u q said.reply t o h.1 k.1
steps_job (Publishing p) n s u q said b t o h k =
    let e = steps_publication p.read p.left s u p q said b h.0 k.0 h.1 k.1 h.2 k.2 in
    h.3 ∙ ap (λ (m : Side). give_back n h.1 m) e.0 ∙ ap (λ (r : Option Publication). give_back n r k.0) e.1 ∙ sym k.3
steps_job Resolving n s u q said b t o h k = resolves s u q said.reply t o h.1 k.1

steps_open : (c : Bool) (j : Job) (n : ℕ) (s : Side) (u : Up) (q : Outcome) (said : Said) (b : Bool) (t o : Side) → StepsOpen c j n s u q said b t → StepsOpen c j n s u q said b o → t ≡ o
steps_open true j n s u q said b t o h k = both _ _ _ h.1 k.1
steps_open false j n s u q said b t o h k = steps_job j n s u q said b t o h k

steps : (x : Option Task) (s : Side) (u : Up) (q : Outcome) (said : Said) (b : Bool) (t o : Side) → Steps x s u q said b t → Steps x s u q said b o → t ≡ o
steps None s u q said b t o h k = both _ _ _ h.1 k.1
steps (Some x) s u q said b t o h k = steps_open _ x.job x.number s _ q said b t o h k

-- ---- asks

asks_quietly : (s : Side) (u : Up) (a : Ask) (id : Id16) (r : Reply) (t o : Side) → AsksQuietly s u a id r t → AsksQuietly s u a id r o → t ≡ o
asks_quietly s u (ask.Begin db) id r t o h k = unless _ _ r t o _ _ (λ (x : OpensAs s u db r t) (y : OpensAs s u db r o). opens_as s u db r t o x y) h k
asks_quietly s u (ask.Read n p) id r t o h k = unless _ _ r t o _ _ (λ (x : FetchesOf ToRead s u (txn_at u n) p r t) (y : FetchesOf ToRead s u (txn_at u n) p r o). fetches_of ToRead s u (txn_at u n) p r t o x y) h k
asks_quietly s u (ask.Hold n p) id r t o h k = unless _ _ r t o _ _ (λ (x : FetchesOf ToHold s u (txn_at u n) p r t) (y : FetchesOf ToHold s u (txn_at u n) p r o). fetches_of ToHold s u (txn_at u n) p r t o x y) h k
asks_quietly s u (ask.Look n p) id r t o h k = unless _ _ r t o _ _ (λ (x : Shows s u (txn_at u n) p r t) (y : Shows s u (txn_at u n) p r o). shows s u (txn_at u n) p r t o x y) h k
asks_quietly s u (ask.Free n p) id r t o h k = unless _ _ r t o _ _ (λ (x : LetsGo s u (txn_at u n) p r t) (y : LetsGo s u (txn_at u n) p r o). lets_go s u (txn_at u n) p r t o x y) h k
asks_quietly s u (ask.End n) id r t o h k = unless _ _ r t o _ _ (λ (x : Closes s u n r t) (y : Closes s u n r o). closes s u n r t o x y) h k
asks_quietly s u (ask.Commit db commit) id r t o h k = unless _ _ r t o _ _ (λ (x : CommitsOver s u db (writes_of commit) _ r t) (y : CommitsOver s u db (writes_of commit) _ r o). commits_over s u db (writes_of commit) _ r t o x y) h k
asks_quietly s u (ask.Revert db) id r t o h k = unless _ _ r t o _ _ (λ (x : RevertsFrom s u _ r t) (y : RevertsFrom s u _ r o). reverts_from s u _ r t o x y) h k
asks_quietly s u ask.List id r t o h k = lists s u r t o h k
asks_quietly s u (ask.Create block retention) id r t o h k = starts s u (Creating block retention) id r t o h k
asks_quietly s u (ask.NewDb db page_size pages) id r t o h k = starts s u (Making db page_size pages) id r t o h k
asks_quietly s u (ask.Upload db) id r t o h k = starts s u (upload_of s.client.kept db) id r t o h k
asks_quietly s u (ask.Copy from to) id r t o h k = starts s u (Copying from to) id r t o h k
asks_quietly s u (ask.Remove db) id r t o h k = starts s u (Removing db) id r t o h k
asks_quietly s u ask.Poll id r t o h k = unless _ _ r t o _ _ (λ (x : StartsAs s u Polling 1 r t) (y : StartsAs s u Polling 1 r o). starts_as s u Polling 1 r t o x y) h k
asks_quietly s u ask.Cleanup id r t o h k = starts s u Cleaning id r t o h k
asks_quietly s u ask.Resolve id r t o h k = unless _ _ r t o _ _ (λ (x : StartsAs s u Resolving 1 r t) (y : StartsAs s u Resolving 1 r o). starts_as s u Resolving 1 r t o x y) h k
asks_quietly s u (ask.Step n) id r t o h k = absurd h

asks : (n : Option ℕ) (s : Side) (u : Up) (a : Ask) (q : Outcome) (said : Said) (c : Choice) (t o : Side) → AsksOrSteps n s u a q said c t → AsksOrSteps n s u a q said c o → t ≡ o
asks None s u a q said c t o h k = asks_quietly s u a c.name said.reply t o h.1 k.1
asks (Some n) s u a q said c t o h k = steps (task_at u n) s u q said c.second t o h k

-- ---- acts

crashes : (s : Side) (r : Reply) (t o : Side) → Crashes s r t → Crashes s r o → t ≡ o
crashes s reply.Crashed t o h k = both _ _ _ h k
crashes s _ t o h k = absurd h

sets_fuse : (s : Side) (r : Reply) (t o : Side) → SetsFuse s r t → SetsFuse s r o → t ≡ o
sets_fuse s reply.Fine t o h k = both _ _ _ h k
sets_fuse s _ t o h k = absurd h

sets_failure : (s : Side) (r : Reply) (t o : Side) → SetsFailure s r t → SetsFailure s r o → t ≡ o
sets_failure s reply.Fine t o h k = both _ _ _ h k
sets_failure s _ t o h k = absurd h

acts : (s : Side) (u : Option Up) (what : Act) (said : Said) (c : Choice) (t o : Side) → IsNoUpAct what → Acts s u what said c t → Acts s u what said c o → t ≡ o
acts s None (act.Ask q p) said c t o i h k = both _ _ _ h.1 k.1
acts s None act.Up said c t o i h k = absurd i
acts s None (act.Crash image) said c t o i h k = both _ _ _ h.1 k.1
acts s None (act.Fuse calls image) said c t o i h k = both _ _ _ h.1 k.1
acts s None (act.FailAt calls) said c t o i h k = both _ _ _ h.1 k.1
acts s (Some u) (act.Ask q p) said c t o i h k = asks (stepped_task q) s u q p said c t o h k
acts s (Some u) act.Up said c t o i h k = absurd i
acts s (Some u) (act.Crash image) said c t o i h k = crashes s said.reply t o h.1 k.1
acts s (Some u) (act.Fuse calls image) said c t o i h k = sets_fuse s said.reply t o h.1 k.1
acts s (Some u) (act.FailAt calls) said c t o i h k = sets_failure s said.reply t o h.1 k.1

next_of : (a : State) (n : ℕ) (d : Option Client) (what : Act) (said : Said) (c : Choice) (b o : State) → IsNoUpAct what → NextOf a n d what said c b → NextOf a n d what said c o → b ≡ o
next_of a n None what said c b o i h k = absurd h
next_of a n (Some d) what said c b o i h k =
    h.1.2 ∙ ap (λ (t : Side). put_back a n t) (acts (record { container = a.container; client = d }) d.up what said c h.1.0 k.1.0 i h.1.1 k.1.1) ∙ sym k.1.2

pub one_state : (a b other : State) (e : Event) (s : Said) (c : Choice) → IsNoUp e → Next a e s c b → Next a e s c other → b ≡ other
one_state a b other (event.Tick n) s c i h k = both _ _ _ h.1 k.1
one_state a b other (event.Of n what) s c i h k = next_of a n (client_at a n) what s c b other i h k
