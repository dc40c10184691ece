-- One step of the machine: an event, what is said of it, and the state after it.
use Rattle.std.specs.Prelude.{◌≡◌, ℕ, zero, suc, Bool, true, false, ◌&&◌, List, [], ◌∷◌, Option, Some, None, if◌then◌else◌}
use Rattle.std.specs.List.{flat_map}
use Rattle.std.specs.Option.{option_map}
use Rattle.bcv_base.specs.declared.id.Id16.{Id16}
use Rattle.bcv_base.specs.declared.outcome.Outcome.{Outcome}
use Rattle.bcv_base.specs.Ids.{has_id}
use Rattle.bcv_model.specs.Commits.{writes_of}
use Rattle.bcv_model.specs.declared.ask.Ask.{Ask}
use Rattle.bcv_model.specs.declared.ask.Ask.TheVariants as ask
use Rattle.bcv_model.specs.declared.event.Act.{Act}
use Rattle.bcv_model.specs.declared.event.Act.TheVariants as act
use Rattle.bcv_model.specs.declared.event.Event.{Event}
use Rattle.bcv_model.specs.declared.event.Event.TheVariants as event
use Rattle.bcv_model.specs.declared.reply.Reply.{Reply}
use Rattle.bcv_model.specs.declared.reply.Reply.TheVariants as reply
use Rattle.bcv_model.specs.declared.reply.Said.{Said}
use Rattle.bcv_machine.specs.CrashAndUp.{Crashes, ComesUp, SetsFuse, SetsFailure}
use Rattle.bcv_machine.specs.LocalWriting.{Commits, Reverts, Lists}
use Rattle.bcv_machine.specs.ManifestGet.{GetsManifest}
use Rattle.bcv_machine.specs.ManifestPut.{PutsManifest}
use Rattle.bcv_machine.specs.MiddleStep.{GoesOn}
use Rattle.bcv_machine.specs.Poll.{Polls}
use Rattle.bcv_machine.specs.Reading.{Begins, Fetches, FetchStepsOf, Looks, Frees, Ends}
use Rattle.bcv_machine.specs.Refusals.{ends_pending}
use Rattle.bcv_machine.specs.Resolve.{Resolves}
use Rattle.bcv_machine.specs.Starting.{Starts, StartsPoll, StartsResolve, upload_of}
use Rattle.bcv_machine.specs.State.{State, Side, Client, Up, Task, Job, Fetching, Polling, Publishing, Resolving, ToRead, ToHold, Publication, Creating, Making, Copying, Removing, Cleaning, client_at, client_ids, put_back, with_client, with_up, with_task, without_task, task_at, txn_at}
use Rattle.bcv_machine.specs.Tick.{ticked}

-- what the script leaves open: the id that the event draws, and which of two notes failed
pub record Choice : Type 0 where
  pub name : Id16
  pub second : Bool

-- the reply, where the event publishes nothing
abbrev pub IsQuiet : Said → Reply → Type 0
IsQuiet said r = (said.published ≡ None) × (said.reply ≡ r)

-- ---- the step of a task

-- no manifest is read: it is got; it is read: the manifest's put is the last request
abbrev pub StepsPublication : Option ℕ → ℕ → Side → Up → Publication → Outcome → Said → Bool → Side → Option Publication → Type 0
StepsPublication None left s u p o said second t rest = (said.published ≡ None) × GetsManifest s u p o said.reply t rest
StepsPublication (Some read) zero s u p o said second t rest = ⊥
StepsPublication (Some read) (suc zero) s u p o said second t rest = PutsManifest second s u p read o said.published said.reply t rest
StepsPublication (Some read) (suc (suc left)) s u p o said second t rest = (said.published ≡ None) × GoesOn s u p o said.reply t rest

-- a publication that goes on is given back
abbrev pub give_back : ℕ → Option Publication → Side → Side
give_back n None t = t
give_back n (Some p) t = with_client t (record t.client { up = option_map (λ (u : Up). with_task u n (Publishing p)) t.client.up })

-- the step of a job whose task was taken out
abbrev pub StepsJob : Job → ℕ → Side → Up → Outcome → Said → Bool → Side → Type 0
StepsJob (Fetching access txn page) n s u o said second t = (said.published ≡ None) × FetchStepsOf access s u (txn_at u txn) page o said.reply t
StepsJob Polling n s u o said second t = (said.published ≡ None) × Polls s u o said.reply t
StepsJob (Publishing p) n s u o said second t =
    (mid : Side) × (rest : Option Publication) × StepsPublication p.read p.left s u p o said second mid rest × (t ≡ give_back n rest mid)
StepsJob Resolving n s u o said second t = (said.published ≡ None) × Resolves s u o said.reply t

-- a task that publishes or resolves ends where the journal is closed
abbrev pub StepsOpen : Bool → Job → ℕ → Side → Up → Outcome → Said → Bool → Side → Type 0
StepsOpen true job n s u o said second t = IsQuiet said reply.Closed × (t ≡ with_up s u)
StepsOpen false job n s u o said second t = StepsJob job n s u o said second t

-- the step of the task of a number
abbrev pub Steps : Option Task → Side → Up → Outcome → Said → Bool → Side → Type 0
Steps None s u o said second t = IsQuiet said reply.NoTask × (t ≡ with_up s u)
Steps (Some x) s u o said second t = StepsOpen (u.closed && ends_pending x.job) x.job x.number s (without_task u x.number) o said second t

-- ---- what a client that is up is asked

-- an ask that publishes nothing in its event
abbrev pub AsksQuietly : Side → Up → Ask → Id16 → Reply → Side → Type 0
AsksQuietly s u (ask.Begin db) id r t = Begins s u db r t
AsksQuietly s u (ask.Read n p) id r t = Fetches ToRead s u n p r t
AsksQuietly s u (ask.Hold n p) id r t = Fetches ToHold s u n p r t
AsksQuietly s u (ask.Look n p) id r t = Looks s u n p r t
AsksQuietly s u (ask.Free n p) id r t = Frees s u n p r t
AsksQuietly s u (ask.End n) id r t = Ends s u n r t
AsksQuietly s u (ask.Commit db commit) id r t = Commits s u db (writes_of commit) r t
AsksQuietly s u (ask.Revert db) id r t = Reverts s u db r t
AsksQuietly s u ask.List id r t = Lists s u r t
AsksQuietly s u (ask.Create block retention) id r t = Starts s u (Creating block retention) id r t
AsksQuietly s u (ask.NewDb db page_size pages) id r t = Starts s u (Making db page_size pages) id r t
AsksQuietly s u (ask.Upload db) id r t = Starts s u (upload_of s.client.kept db) id r t
AsksQuietly s u (ask.Copy from to) id r t = Starts s u (Copying from to) id r t
AsksQuietly s u (ask.Remove db) id r t = Starts s u (Removing db) id r t
AsksQuietly s u ask.Poll id r t = StartsPoll s u r t
AsksQuietly s u ask.Cleanup id r t = Starts s u Cleaning id r t
AsksQuietly s u ask.Resolve id r t = StartsResolve s u r t
AsksQuietly s u (ask.Step n) id r t = ⊥

-- the task that an ask steps
abbrev pub stepped_task : Ask → Option ℕ
stepped_task (ask.Begin db) = None
stepped_task (ask.Read n p) = None
stepped_task (ask.Hold n p) = None
stepped_task (ask.Look n p) = None
stepped_task (ask.Free n p) = None
stepped_task (ask.End n) = None
stepped_task (ask.Commit db commit) = None
stepped_task (ask.Revert db) = None
stepped_task ask.List = None
stepped_task (ask.Create block retention) = None
stepped_task (ask.NewDb db page_size pages) = None
stepped_task (ask.Upload db) = None
stepped_task (ask.Copy from to) = None
stepped_task (ask.Remove db) = None
stepped_task ask.Poll = None
stepped_task ask.Cleanup = None
stepped_task ask.Resolve = None
stepped_task (ask.Step n) = Some n

abbrev pub AsksOrSteps : Option ℕ → Side → Up → Ask → Outcome → Said → Choice → Side → Type 0
AsksOrSteps None s u q o said choice t = (said.published ≡ None) × AsksQuietly s u q choice.name said.reply t
AsksOrSteps (Some n) s u q o said choice t = Steps (task_at u n) s u o said choice.second t

abbrev pub Asks : Side → Up → Ask → Outcome → Said → Choice → Side → Type 0
Asks s u q o said choice t = AsksOrSteps (stepped_task q) s u q o said choice t

-- ---- what happens to a client

-- one that is up
abbrev pub ActsUp : Side → Up → Act → Said → Choice → Side → Type 0
ActsUp s u (act.Ask q o) said choice t = Asks s u q o said choice t
ActsUp s u act.Up said choice t = IsQuiet said reply.IsUp × (t ≡ s)
ActsUp s u (act.Crash image) said choice t = (said.published ≡ None) × Crashes s said.reply t
ActsUp s u (act.Fuse calls image) said choice t = (said.published ≡ None) × SetsFuse s said.reply t
ActsUp s u (act.FailAt calls) said choice t = (said.published ≡ None) × SetsFailure s said.reply t

-- one that is down
abbrev pub ActsDown : Side → Act → Said → Side → Type 0
ActsDown s (act.Ask q o) said t = IsQuiet said reply.Down × (t ≡ s)
ActsDown s act.Up said t = (said.published ≡ None) × ComesUp s said.reply t
ActsDown s (act.Crash image) said t = IsQuiet said reply.Down × (t ≡ s)
ActsDown s (act.Fuse calls image) said t = IsQuiet said reply.Down × (t ≡ s)
ActsDown s (act.FailAt calls) said t = IsQuiet said reply.Down × (t ≡ s)

abbrev pub Acts : Side → Option Up → Act → Said → Choice → Side → Type 0
Acts s None what said choice t = ActsDown s what said t
Acts s (Some u) what said choice t = ActsUp s u what said choice t

-- ---- drawn ids

-- the ask starts a publication
abbrev pub publishes : Ask → Bool
publishes (ask.Begin db) = false
publishes (ask.Read n p) = false
publishes (ask.Hold n p) = false
publishes (ask.Look n p) = false
publishes (ask.Free n p) = false
publishes (ask.End n) = false
publishes (ask.Commit db commit) = false
publishes (ask.Revert db) = false
publishes ask.List = false
publishes (ask.Create block retention) = true
publishes (ask.NewDb db page_size pages) = true
publishes (ask.Upload db) = true
publishes (ask.Copy from to) = true
publishes (ask.Remove db) = true
publishes ask.Poll = false
publishes ask.Cleanup = true
publishes ask.Resolve = false
publishes (ask.Step n) = false

abbrev pub is_task : Reply → Bool
is_task (reply.Task n left) = true
is_task _ = false

-- a publication that starts draws an id
abbrev pub drawn_by_act : Act → Reply → Id16 → List Id16
drawn_by_act (act.Ask q o) r id = if publishes q && is_task r then id ∷ [] else []
drawn_by_act act.Up r id = []
drawn_by_act (act.Crash image) r id = []
drawn_by_act (act.Fuse calls image) r id = []
drawn_by_act (act.FailAt calls) r id = []

abbrev pub drawn_by : Event → Said → Choice → List Id16
drawn_by (event.Tick n) said choice = []
drawn_by (event.Of client what) said choice = drawn_by_act what said.reply choice.name

-- no client's publication has one of these ids
abbrev pub AreApart : State → List Id16 → Type 0
AreApart a [] = Unit {0}
AreApart a (i ∷ is) = (has_id i (flat_map client_ids a.clients) ≡ false) × AreApart a is

-- ---- one event

-- the event of a client's side, and the client put back; where there is no such client there is none
abbrev pub NextOf : State → ℕ → Option Client → Act → Said → Choice → State → Type 0
NextOf a n None what said choice b = ⊥
NextOf a n (Some c) what said choice b =
    AreApart a (drawn_by_act what said.reply choice.name)
    × ((t : Side) × Acts (record { container = a.container; client = c }) c.up what said choice t × (b ≡ put_back a n t))

-- from state a the machine accepts what is said of the event, and goes on to state b
abbrev pub Next : State → Event → Said → Choice → State → Type 0
Next a (event.Tick n) said choice b = IsQuiet said reply.Fine × (b ≡ ticked a n)
Next a (event.Of n what) said choice b = NextOf a n (client_at a n) what said choice b
