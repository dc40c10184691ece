-- What is set on a client's disk stays set through an ask, but for a failure that it answers.
use Rattle.std.proofs.Common.{◌≡◌, ◌≢◌, ◌∙◌, ℕ, zero, suc, Bool, true, false, ◌||◌, ◌&&◌, List, [], ◌∷◌, ◌++◌, Option, Some, None, is_some, refl, sym, ap, subst}
use Rattle.std.specs.Option.{option_map}
use Rattle.bcv_base.specs.declared.id.Id16.{Id16}
use Rattle.bcv_base.specs.declared.outcome.Outcome.{Outcome}
use Rattle.bcv_base.specs.declared.outcome.Outcome.TheVariants as outcome
use Rattle.bcv_base.specs.Image.{Writes}
use Rattle.bcv_base.specs.Keyed.{keyed}
use Rattle.bcv_base.specs.Version.{Version}
use Rattle.bcv_machine.specs.LocalWriting.{CommitsOver, Lists, NotesLocally, RevertsFrom, with_known, without_known}
use Rattle.bcv_machine.specs.ManifestGet.{GetsManifest}
use Rattle.bcv_machine.specs.ManifestPut.{Appends, Finishes, IntentFails, NoteFailsAt, PutFails, PutLosesAnswer, PutLosesNothing, PutsManifest, PutsNothing, Refuses, Stores, intent_of, last_refusal, version_made, with_intent, with_version}
use Rattle.bcv_machine.specs.MiddleStep.{GoesOn, requested}
use Rattle.bcv_machine.specs.Noting.{FaultEnds, NoteFails}
use Rattle.bcv_machine.specs.Poll.{Polls, PollsLast}
use Rattle.bcv_machine.specs.Reading.{Closes, ComesAtOnce, FetchSteps, FetchStepsOf, FetchesIn, FetchesOf, LetsGo, Opens, OpensAs, Shows, txn_over}
use Rattle.bcv_machine.specs.Refusals.{UnlessRefused, begin_refusal, commit_refusal, end_refusal, ends_pending, free_refusal, look_refusal, page_refusal, poll_refusal, resolve_refusal, revert_refusal, start_refusal}
use Rattle.bcv_machine.specs.Resolve.{Resolves, ResolvesAs, ResolvesPending, number_from}
use Rattle.bcv_machine.specs.Starting.{Publishes, Starts, StartsAs, left_at_start, started, upload_of}
use Rattle.bcv_machine.specs.State.{Access, Cleaning, Client, Committing, Copying, Creating, Fetching, Finishing, Job, Kind, LocalDb, Making, Note, Pending, Polling, Publication, Publishing, Removing, Resolving, Reverting, Side, Task, ToHold, ToRead, Txn, Up, View, Voiding, last_version, local_name, task_at, txn_at, view_of, with_up, without_task}
use Rattle.bcv_machine.specs.Step.{Asks, AsksQuietly, Choice, Steps, StepsJob, StepsOpen, StepsPublication, give_back}
use Rattle.bcv_model.specs.Commits.{writes_of}
use Rattle.bcv_model.specs.declared.ask.Ask.{Ask}
use Rattle.bcv_model.specs.declared.ask.Ask.TheVariants as ask
use Rattle.bcv_model.specs.declared.reply.Reply.{Reply}
use Rattle.bcv_model.specs.declared.reply.Reply.TheVariants as reply
use Rattle.bcv_model.specs.declared.reply.Said.{Said}

-- a client that is up afterwards has its fuse still, and its failure where the reply is none by it
pub record LeavesArmed (r : Reply) (s t : Side) : Type 0 where
  pub fused : is_some t.client.up ≡ true → t.client.fused ≡ s.client.fused
  pub failing : r ≢ reply.DiskFault → t.client.failing ≡ s.client.failing

-- ---- forms

-- the side is one with the same set
as_it_was : (r : Reply) (s x t : Side) → t ≡ x → x.client.fused ≡ s.client.fused → x.client.failing ≡ s.client.failing → LeavesArmed r s t
as_it_was r s x t is fused failing = record {
  fused = λ up. ap (λ (y : Side). y.client.fused) is ∙ fused;
  failing = λ other. ap (λ (y : Side). y.client.failing) is ∙ failing;
}

stays_up : (r : Reply) (s : Side) (u : Up) (t : Side) → t ≡ with_up s u → LeavesArmed r s t
stays_up r s u t is = as_it_was r s (with_up s u) t is refl refl

from_here : (r : Reply) (s m t : Side) → m.client.fused ≡ s.client.fused → m.client.failing ≡ s.client.failing → LeavesArmed r m t → LeavesArmed r s t
from_here r s m t fused failing leaves = record { fused = λ up. leaves.fused up ∙ fused; failing = λ other. leaves.failing other ∙ failing }

-- ---- notes

no_up : (d x : Client) → d ≡ x → x.up ≡ None → is_some d.up ≡ true → ⊥
no_up d x is down up = absurd (let wrong : false ≡ true = sym (ap (λ (o : Option Up). is_some o) (ap (λ (c : Client). c.up) is ∙ down)) ∙ up in cc)

note_fails : (s : Side) (u : Up) (x : Note) (r : Reply) (t : Side) → NoteFails s u x r t → LeavesArmed r s t
note_fails s u x reply.JournalFull t h =
    record { fused = λ up. ap (λ (c : Client). c.fused) h.1.1; failing = λ other. ap (λ (c : Client). c.failing) h.1.1 }
note_fails s u x reply.DiskFault t h = record { fused = λ up. ap (λ (c : Client). c.fused) h.1.1; failing = λ other. absurd (other refl) }
note_fails s u x reply.Crashed t h = record { fused = λ up. absurd (no_up t.client _ h.1.1 refl up); failing = λ other. ap (λ (c : Client). c.failing) h.1.1 }
note_fails s u x _ t h = absurd h.1

fault_ends : (i : Bool) (s : Side) (u : Up) (fault r : Reply) (t : Side) → FaultEnds i s u fault r t → LeavesArmed r s t
fault_ends false s u fault r t h = stays_up r s u t h.1
fault_ends true s u fault reply.DiskFault t h = note_fails s u Voiding reply.DiskFault t h
fault_ends true s u fault reply.Crashed t h = note_fails s u Voiding reply.Crashed t h
fault_ends true s u fault r t h = as_it_was r s _ t h.1 refl refl

notes_locally : (s : Side) (u after : Up) (x : Note) (r : Reply) (t : Side) → NotesLocally s u after x r t → LeavesArmed r s t
notes_locally s u after x reply.Fine t h = as_it_was reply.Fine s _ t h refl refl
notes_locally s u after x r t h = note_fails s u x r t h

-- ---- asks that make no request

unless : (r : Reply) (s : Side) (u : Up) (why : Option Reply) (t : Side) (Does : Type 0) → (Does → LeavesArmed r s t) → UnlessRefused why (with_up s u) r t Does → LeavesArmed r s t
unless r s u None t Does does h = does h
unless r s u (Some refusal) t Does does h = stays_up r s u t h.1

opens : (r : Reply) (s : Side) (u : Up) (x : Option Txn) (t : Side) → Opens s u x t → LeavesArmed r s t
opens r s u None t h = absurd h
opens r s u (Some x) t h = stays_up r s _ t h

opens_as : (s : Side) (u : Up) (db : List ℕ) (r : Reply) (t : Side) → OpensAs s u db r t → LeavesArmed r s t
opens_as s u db (reply.Txn n) t h = opens (reply.Txn n) s u (txn_over s u n db) t h.1
opens_as s u db _ t h = absurd h

comes_at_once : (access : Access) (s : Side) (u : Up) (x : Txn) (p : ℕ) (r : Reply) (t : Side) → ComesAtOnce access s u x p r t → LeavesArmed r s t
comes_at_once ToRead s u x p (reply.Page bytes) t h = stays_up (reply.Page bytes) s u t h.1
comes_at_once ToRead s u x p reply.CacheFull t h = stays_up reply.CacheFull s u t h.2
comes_at_once ToRead s u x p _ t h = absurd h
comes_at_once ToHold s u x p reply.Held t h = stays_up reply.Held s _ t h
comes_at_once ToHold s u x p reply.CacheFull t h = stays_up reply.CacheFull s u t h.2
comes_at_once ToHold s u x p _ t h = absurd h

fetches_in : (access : Access) (s : Side) (u : Up) (x : Txn) (p : ℕ) (r : Reply) (t : Side) → FetchesIn access s u x p r t → LeavesArmed r s t
fetches_in access s u x p (reply.Task n left) t h = stays_up (reply.Task n left) s _ t h.4
fetches_in access s u x p reply.TooMany t h = stays_up reply.TooMany s u t h.2
fetches_in access s u x p r t h = comes_at_once access s u x p r t h

fetches_of : (access : Access) (s : Side) (u : Up) (x : Option Txn) (p : ℕ) (r : Reply) (t : Side) → FetchesOf access s u x p r t → LeavesArmed r s t
fetches_of access s u None p r t h = absurd h
fetches_of access s u (Some x) p r t h = fetches_in access s u x p r t h

shows : (s : Side) (u : Up) (x : Option Txn) (p : ℕ) (r : Reply) (t : Side) → Shows s u x p r t → LeavesArmed r s t
shows s u None p r t h = absurd h
shows s u (Some x) p (reply.Page bytes) t h = stays_up (reply.Page bytes) s u t h.1
shows s u (Some x) p _ t h = absurd h

lets_go : (s : Side) (u : Up) (x : Option Txn) (p : ℕ) (r : Reply) (t : Side) → LetsGo s u x p r t → LeavesArmed r s t
lets_go s u None p r t h = absurd h
lets_go s u (Some x) p reply.Fine t h = stays_up reply.Fine s _ t h
lets_go s u (Some x) p _ t h = absurd h

closes : (s : Side) (u : Up) (n : ℕ) (r : Reply) (t : Side) → Closes s u n r t → LeavesArmed r s t
closes s u n reply.Fine t h = stays_up reply.Fine s _ t h
closes s u n _ t h = absurd h

commits_over : (s : Side) (u : Up) (db : List ℕ) (w : Writes) (v : Option View) (r : Reply) (t : Side) → CommitsOver s u db w v r t → LeavesArmed r s t
commits_over s u db w None r t h = absurd h
commits_over s u db w (Some v) r t h = notes_locally s u (without_known u db) (Committing db v.base w) r t h

reverts_from : (s : Side) (u : Up) (d : Option LocalDb) (r : Reply) (t : Side) → RevertsFrom s u d r t → LeavesArmed r s t
reverts_from s u None r t h = absurd h
reverts_from s u (Some d) r t h = notes_locally s u (with_known u d.name d.base) (Reverting d.name) r t h

lists : (s : Side) (u : Up) (r : Reply) (t : Side) → Lists s u r t → LeavesArmed r s t
lists s u (reply.Table rows pending) t h = stays_up (reply.Table rows pending) s u t h.2
lists s u _ t h = absurd h

starts_as : (s : Side) (u : Up) (job : Job) (left : ℕ) (r : Reply) (t : Side) → StartsAs s u job left r t → LeavesArmed r s t
starts_as s u job left (reply.Task n k) t h = stays_up (reply.Task n k) s _ t h.2
starts_as s u job left _ t h = absurd h

starts : (s : Side) (u : Up) (kind : Kind) (id : Id16) (r : Reply) (t : Side) → Starts s u kind id r t → LeavesArmed r s t
starts s u kind id r t h =
    unless r s u (start_refusal s.client.kept u kind) t (Publishes s u kind id r t)
    (λ does. starts_as s u (Publishing (started s.container kind id)) (left_at_start s.container kind) r t does.2) h

asks_quietly : (s : Side) (u : Up) (q : Ask) (id : Id16) (r : Reply) (t : Side) → AsksQuietly s u q id r t → LeavesArmed r s t
asks_quietly s u (ask.Begin db) id r t h = unless r s u (begin_refusal s.client.kept u db) t _ (λ does. opens_as s u db r t does) h
asks_quietly s u (ask.Read n p) id r t h = unless r s u (page_refusal u n p) t _ (λ does. fetches_of ToRead s u (txn_at u n) p r t does) h
asks_quietly s u (ask.Hold n p) id r t h = unless r s u (page_refusal u n p) t _ (λ does. fetches_of ToHold s u (txn_at u n) p r t does) h
asks_quietly s u (ask.Look n p) id r t h = unless r s u (look_refusal s.container u n p) t _ (λ does. shows s u (txn_at u n) p r t does) h
asks_quietly s u (ask.Free n p) id r t h = unless r s u (free_refusal s.container u n p) t _ (λ does. lets_go s u (txn_at u n) p r t does) h
asks_quietly s u (ask.End n) id r t h = unless r s u (end_refusal u n) t _ (λ does. closes s u n r t does) h
asks_quietly s u (ask.Commit db commit) id r t h =
    unless r s u (commit_refusal s u db (writes_of commit)) t _ (λ does. commits_over s u db (writes_of commit) (view_of s.client.kept u db) r t does) h
asks_quietly s u (ask.Revert db) id r t h = unless r s u (revert_refusal s.client.kept u db) t _ (λ does. reverts_from s u (keyed local_name db s.client.kept.locals) r t does) h
asks_quietly s u ask.List id r t h = lists s u r t h
asks_quietly s u (ask.Create block retention) id r t h = starts s u (Creating block retention) id r t h
asks_quietly s u (ask.NewDb db page_size pages) id r t h = starts s u (Making db page_size pages) id r t h
asks_quietly s u (ask.Upload db) id r t h = starts s u (upload_of s.client.kept db) id r t h
asks_quietly s u (ask.Copy from to) id r t h = starts s u (Copying from to) id r t h
asks_quietly s u (ask.Remove db) id r t h = starts s u (Removing db) id r t h
asks_quietly s u ask.Poll id r t h = unless r s u (poll_refusal u) t _ (λ does. starts_as s u Polling 1 r t does) h
asks_quietly s u ask.Cleanup id r t h = starts s u Cleaning id r t h
asks_quietly s u ask.Resolve id r t h = unless r s u (resolve_refusal s.client.kept u) t _ (λ does. starts_as s u Resolving 1 r t does) h
asks_quietly s u (ask.Step n) id r t h = absurd h

-- ---- steps that publish nothing

fetch_steps : (access : Access) (s : Side) (u : Up) (x : Txn) (p : ℕ) (o : Outcome) (r : Reply) (t : Side) → FetchSteps access s u x p o r t → LeavesArmed r s t
fetch_steps access s u x p outcome.Ok reply.Gone t h = stays_up reply.Gone s u t h.2
fetch_steps access s u x p outcome.Fail reply.StoreFault t h = stays_up reply.StoreFault s u t h.1
fetch_steps access s u x p outcome.Lost reply.StoreFault t h = stays_up reply.StoreFault s u t h.1
fetch_steps access s u x p o r t h = comes_at_once access s u x p r t h

fetch_steps_of : (access : Access) (s : Side) (u : Up) (x : Option Txn) (p : ℕ) (o : Outcome) (r : Reply) (t : Side) → FetchStepsOf access s u x p o r t → LeavesArmed r s t
fetch_steps_of access s u None p o r t h = absurd h
fetch_steps_of access s u (Some x) p o r t h = fetch_steps access s u x p o r t h

polls_last : (s : Side) (u : Up) (v : Option Version) (r : Reply) (t : Side) → PollsLast s u v r t → LeavesArmed r s t
polls_last s u None reply.NoContainer t h = stays_up reply.NoContainer s u t h
polls_last s u None _ t h = absurd h
polls_last s u (Some v) (reply.Polled n) t h = stays_up (reply.Polled n) s _ t h.1
polls_last s u (Some v) _ t h = absurd h

polls : (s : Side) (u : Up) (o : Outcome) (r : Reply) (t : Side) → Polls s u o r t → LeavesArmed r s t
polls s u outcome.Ok r t h = polls_last s u (last_version s.container) r t h
polls s u outcome.Fail r t h = stays_up r s u t h.1
polls s u outcome.Lost r t h = stays_up r s u t h.1

resolves_as : (s : Side) (u : Up) (p : Pending) (n : Option ℕ) (r : Reply) (t : Side) → ResolvesAs s u p n r t → LeavesArmed r s t
resolves_as s u p (Some n) (reply.Resolved k) t h = as_it_was (reply.Resolved k) s _ t h.1 refl refl
resolves_as s u p (Some n) r t h = note_fails s u (Finishing n) r t h
resolves_as s u p None reply.Voided t h = as_it_was reply.Voided s _ t h refl refl
resolves_as s u p None r t h = note_fails s u Voiding r t h

resolves_pending : (s : Side) (u : Up) (p : Option Pending) (r : Reply) (t : Side) → ResolvesPending s u p r t → LeavesArmed r s t
resolves_pending s u None r t h = absurd h
resolves_pending s u (Some p) r t h = resolves_as s u p (number_from 1 p.id s.container.versions) r t h

resolves : (s : Side) (u : Up) (o : Outcome) (r : Reply) (t : Side) → Resolves s u o r t → LeavesArmed r s t
resolves s u outcome.Ok r t h = resolves_pending s u s.client.kept.pending r t h
resolves s u outcome.Fail r t h = stays_up r s u t h.1
resolves s u outcome.Lost r t h = stays_up r s u t h.1

-- ---- the steps of a publication

gets : (s : Side) (u : Up) (p : Publication) (o : Outcome) (r : Reply) (t : Side) (rest : Option Publication) → GetsManifest s u p o r t rest → LeavesArmed r s t
gets s u p outcome.Ok (reply.Working left) t rest h = stays_up (reply.Working left) s u t h.2
gets s u p outcome.Ok r t rest h = fault_ends p.intended s u h.0.0 r t h.0.2
gets s u p outcome.Fail r t rest h = fault_ends p.intended s u reply.StoreFault r t h.0
gets s u p outcome.Lost r t rest h = fault_ends p.intended s u reply.StoreFault r t h.0

goes_on : (s : Side) (u : Up) (p : Publication) (o : Outcome) (r : Reply) (t : Side) (rest : Option Publication) → GoesOn s u p o r t rest → LeavesArmed r s t
goes_on s u p outcome.Ok (reply.Working left) t rest h = as_it_was (reply.Working left) s _ t h.1 refl refl
goes_on s u p o r t rest h = from_here r s (requested s p o) t refl refl (fault_ends p.intended (requested s p o) u h.0.0 r t h.0.2)

-- the side with the intent has the same set
intended_fused : (i : Bool) (s : Side) (u : Up) (p : Publication) → (with_intent i s u p).client.fused ≡ s.client.fused
intended_fused true s u p = refl
intended_fused false s u p = refl

intended_failing : (i : Bool) (s : Side) (u : Up) (p : Publication) → (with_intent i s u p).client.failing ≡ s.client.failing
intended_failing true s u p = refl
intended_failing false s u p = refl

from_intent : (r : Reply) (s : Side) (u : Up) (p : Publication) (t : Side) → LeavesArmed r (with_intent p.intended s u p) t → LeavesArmed r s t
from_intent r s u p t = from_here r s (with_intent p.intended s u p) t (intended_fused p.intended s u p) (intended_failing p.intended s u p)

intent_fails : (i : Bool) (s : Side) (u : Up) (p : Publication) (r : Reply) (t : Side) → IntentFails i s u p r t → LeavesArmed r s t
intent_fails true s u p r t h = absurd h
intent_fails false s u p r t h = note_fails s u (intent_of p) r t h

refuses : (s : Side) (u : Up) (p : Publication) (read : ℕ) (r : Reply) (t : Side) (rest : Option Publication) → Refuses s u p read r t rest → LeavesArmed r s t
refuses s u p read (reply.Working left) t rest h = as_it_was (reply.Working left) s s t h.2 refl refl
refuses s u p read r t rest h = fault_ends true s u (last_refusal p.kind (p.refused ++ read ∷ [])) r t h.1

note_fails_at : (second : Bool) (s : Side) (u : Up) (p : Publication) (read : ℕ) (r : Reply) (t : Side) (rest : Option Publication) → NoteFailsAt second s u p read r t rest → LeavesArmed r s t
note_fails_at false s u p read r t rest h = intent_fails p.intended s u p r t h.0
note_fails_at true s u p read r t rest h = from_intent r s u p t (refuses (with_intent p.intended s u p) u p read r t rest h.1)

puts_nothing : (second : Bool) (s : Side) (u : Up) (p : Publication) (read : ℕ) (r : Reply) (t : Side) (rest : Option Publication) → PutsNothing second s u p read r t rest → LeavesArmed r s t
puts_nothing second s u p read reply.JournalFull t rest h = note_fails_at false s u p read reply.JournalFull t rest h
puts_nothing second s u p read reply.DiskFault t rest h = note_fails_at (p.intended || second) s u p read reply.DiskFault t rest h
puts_nothing second s u p read reply.Crashed t rest h = note_fails_at (p.intended || second) s u p read reply.Crashed t rest h
puts_nothing second s u p read r t rest h = from_intent r s u p t (refuses (with_intent p.intended s u p) u p read r t rest h.1)

put_fails : (s : Side) (u : Up) (p : Publication) (r : Reply) (t : Side) (rest : Option Publication) → PutFails s u p r t rest → LeavesArmed r s t
put_fails s u p (reply.Unknown id) t rest h =
    as_it_was (reply.Unknown id) s (with_intent p.intended s u p) t h.1 (intended_fused p.intended s u p) (intended_failing p.intended s u p)
put_fails s u p r t rest h = intent_fails p.intended s u p r t h.0

loses_nothing : (s : Side) (u : Up) (p : Publication) (read : ℕ) (r : Reply) (t : Side) (rest : Option Publication) → PutLosesNothing s u p read r t rest → LeavesArmed r s t
loses_nothing s u p read (reply.Unknown id) t rest h = put_fails s u p (reply.Unknown id) t rest h.1
loses_nothing s u p read r t rest h = put_fails s u p r t rest h

appends : (r : Reply) (s : Side) (p : Publication) (v : Option Version) (t : Side) → Appends s p v t → LeavesArmed r s t
appends r s p None t h = absurd h
appends r s p (Some v) t h = as_it_was r s (with_version s p.kind v) t h refl refl

loses_answer : (s : Side) (u : Up) (p : Publication) (r : Reply) (t : Side) (rest : Option Publication) → PutLosesAnswer s u p r t rest → LeavesArmed r s t
loses_answer s u p (reply.Unknown id) t rest h =
    from_intent (reply.Unknown id) s u p t (appends (reply.Unknown id) (with_intent p.intended s u p) p (version_made s.container p) t h.1)
loses_answer s u p _ t rest h = absurd h

finishes : (s : Side) (u : Up) (p : Publication) (n : ℕ) (v : Version) (r : Reply) (t : Side) → Finishes s u p n v r t → LeavesArmed r s t
finishes s u p n v (reply.Done k) t h = as_it_was (reply.Done k) s _ t h.1 refl refl
finishes s u p n v (reply.Cleaned deleted more) t h = as_it_was (reply.Cleaned deleted more) s _ t h.1 refl refl
finishes s u p n v r t h = note_fails s u (Finishing n) r t h

stores : (s : Side) (u : Up) (p : Publication) (n : ℕ) (v : Option Version) (r : Reply) (t : Side) → Stores s u p n v r t → LeavesArmed r s t
stores s u p n None r t h = absurd h
stores s u p n (Some v) r t h = from_here r s (with_version s p.kind v) t refl refl (finishes (with_version s p.kind v) u p n v r t h)

puts : (second : Bool) (s : Side) (u : Up) (p : Publication) (read : ℕ) (o : Outcome) (n : Option ℕ) (r : Reply) (t : Side) (rest : Option Publication)
    → PutsManifest second s u p read o n r t rest → LeavesArmed r s t
puts second s u p read outcome.Ok (Some n) r t rest h = from_intent r s u p t (stores (with_intent p.intended s u p) u p n (version_made s.container p) r t h.1)
puts second s u p read outcome.Ok None r t rest h = puts_nothing second s u p read r t rest h
puts second s u p read outcome.Fail (Some n) r t rest h = absurd h
puts second s u p read outcome.Fail None r t rest h = put_fails s u p r t rest h
puts second s u p read outcome.Lost (Some n) r t rest h = loses_answer s u p r t rest h.1
puts second s u p read outcome.Lost None r t rest h = loses_nothing s u p read r t rest h

publication : (read : Option ℕ) (left : ℕ) (s : Side) (u : Up) (p : Publication) (o : Outcome) (said : Said) (second : Bool) (t : Side) (rest : Option Publication)
    → StepsPublication read left s u p o said second t rest → LeavesArmed said.reply s t
publication None left s u p o said second t rest h = gets s u p o said.reply t rest h.1
publication (Some n) zero s u p o said second t rest h = absurd h
publication (Some n) (suc zero) s u p o said second t rest h = puts second s u p n o said.published said.reply t rest h
publication (Some n) (suc (suc left)) s u p o said second t rest h = goes_on s u p o said.reply t rest h.1

-- what is given back is no part of the disk
still_up : (o : Option Up) (f : Up → Up) → is_some (option_map f o) ≡ true → is_some o ≡ true
still_up None f h = h
still_up (Some u) f h = refl

given_back : (r : Reply) (s mid : Side) (n : ℕ) (rest : Option Publication) → LeavesArmed r s mid → LeavesArmed r s (give_back n rest mid)
given_back r s mid n None leaves = leaves
given_back r s mid n (Some p) leaves = record { fused = λ up. leaves.fused (still_up mid.client.up _ up); failing = leaves.failing }

-- ---- a task's step, and the whole

job : (j : Job) (n : ℕ) (s : Side) (u : Up) (o : Outcome) (said : Said) (second : Bool) (t : Side) → StepsJob j n s u o said second t → LeavesArmed said.reply s t
job (Fetching access txn page) n s u o said second t h = fetch_steps_of access s u (txn_at u txn) page o said.reply t h.1
job Polling n s u o said second t h = polls s u o said.reply t h.1
job (Publishing p) n s u o said second t h =
    subst (LeavesArmed said.reply s) (sym h.3) (given_back said.reply s h.0 n h.1 (publication p.read p.left s u p o said second h.0 h.1 h.2))
job Resolving n s u o said second t h = resolves s u o said.reply t h.1

open_task : (closed : Bool) (j : Job) (n : ℕ) (s : Side) (u : Up) (o : Outcome) (said : Said) (second : Bool) (t : Side) → StepsOpen closed j n s u o said second t → LeavesArmed said.reply s t
open_task true j n s u o said second t h = stays_up said.reply s u t h.1
open_task false j n s u o said second t h = job j n s u o said second t h

steps : (x : Option Task) (s : Side) (u : Up) (o : Outcome) (said : Said) (second : Bool) (t : Side) → Steps x s u o said second t → LeavesArmed said.reply s t
steps None s u o said second t h = stays_up said.reply s u t h.1
steps (Some x) s u o said second t h = open_task (u.closed && ends_pending x.job) x.job x.number s (without_task u x.number) o said second t h

-- whatever a client is asked
pub ask_leaves_armed : (s : Side) (u : Up) (q : Ask) (o : Outcome) (said : Said) (choice : Choice) (t : Side) → Asks s u q o said choice t → LeavesArmed said.reply s t
ask_leaves_armed s u (ask.Step n) o said choice t h = steps (task_at u n) s u o said choice.second t h
ask_leaves_armed s u q o said choice t h = asks_quietly s u q choice.name said.reply t h.1
