-- What an event does to a side, in few moves: each relation of the machine is one of them.
use Rattle.std.proofs.Common.{◌≡◌, ◌∙◌, ℕ, Bool, true, false, List, [], ◌∷◌, ◌++◌, if◌then◌else◌, Option, Some, None, option_and_then, refl, sym, ap}
use Rattle.std.specs.Option.{option_map}
use Rattle.bcv_base.specs.declared.id.Id16.{Id16}
use Rattle.bcv_base.specs.declared.outcome.Outcome.{Outcome}
use Rattle.bcv_base.specs.declared.outcome.Outcome.TheVariants as outcome
use Rattle.bcv_base.specs.Image.{Writes}
use Rattle.bcv_base.specs.Keyed.{keyed}
use Rattle.bcv_base.specs.Version.{Database, Version}
use Rattle.bcv_model.specs.Commits.{writes_of}
use Rattle.bcv_model.specs.declared.ask.Ask.{Ask}
use Rattle.bcv_model.specs.declared.ask.Ask.TheVariants as ask
use Rattle.bcv_model.specs.declared.reply.Reply.{Reply}
use Rattle.bcv_model.specs.declared.reply.Reply.TheVariants as reply
use Rattle.bcv_machine.specs.LocalWriting.{CommitsOver, RevertsFrom, Lists, without_known, with_known}
use Rattle.bcv_machine.specs.Noting.{NoteFails, noted, kept_after}
use Rattle.bcv_machine.specs.Poll.{PollsLast, Polls}
use Rattle.bcv_machine.specs.Reading.{Opens, OpensAs, ComesAtOnce, FetchesIn, FetchesOf, FetchSteps, FetchStepsOf, Shows, LetsGo, Closes, txn_over, begun, with_txn, with_block, holding, freed, without_txn}
use Rattle.bcv_machine.specs.Refusals.{has_commits, commit_refusal, revert_refusal, UnlessRefused, start_refusal, resolve_refusal}
use Rattle.bcv_machine.specs.Resolve.{number_from, resolved_up, ResolvesAs, ResolvesPending, Resolves}
use Rattle.bcv_machine.specs.Starting.{left_at_start, upload_of, StartsAs, Publishes, Starts, started}
use Rattle.bcv_machine.specs.State.{Container, Side, Up, View, base_of, view_of, KnownDb, LocalDb, Note, Committing, Reverting, Finishing, Voiding, KeptState, Taken, Pending, Txn, local_name, is_local, block_of_page, known_at, Access, ToRead, ToHold, Kind, Creating, Making, Copying, Removing, Cleaning, Job, Fetching, Polling, Publishing, Resolving, least_free, txn_numbers, with_up, with_client, with_task, txn_at, last_version}
use Rattle.bcv_machine.specs.Step.{AsksQuietly}

-- ---- an ask that publishes nothing

-- the task takes no part in ending a pending publication
pub data IsPlain : Job → Type 0 where
  IsFetch : (access : Access) (t p : ℕ) → IsPlain (Fetching access t p)
  IsPoll : IsPlain Polling

-- what is done to the side of a client that is up, and what is answered then; a step that resolves is told apart
pub data Move (resolves : Bool) (s : Side) (u : Up) (a : Ask) (r : Reply) (t : Side) : Type 0 where
  Stays : t ≡ with_up s u → Move resolves s u a r t
  Begun : (x : Txn) → least_free (txn_numbers u) ≡ Some x.number → t ≡ with_up s (record u { txns = u.txns ++ x ∷ [] }) → Move resolves s u a r t
  Held : (n : ℕ) (x : Txn) (held : List ℕ) → txn_at u n ≡ Some x → t ≡ with_up s (with_txn u (record x { held = held })) → Move resolves s u a r t
  Ended : (n : ℕ) → t ≡ with_up s (without_txn u n) → Move resolves s u a r t
  Tasked : (n : ℕ) (job : Job) → IsPlain job → t ≡ with_up s (with_task u n job) → Move resolves s u a r t
  Started : (n : ℕ) (kind : Kind) (id : Id16) → start_refusal s.client.kept u kind ≡ None → t ≡ with_up s (with_task u n (Publishing (started s.container kind id))) → Move resolves s u a r t
  Asked : (n : ℕ) → resolve_refusal s.client.kept u ≡ None → t ≡ with_up s (with_task u n Resolving) → Move resolves s u a r t
  Failed : (x : Note) → NoteFails s u x r t → Move resolves s u a r t
  Committed : (db : List ℕ) (base : ℕ) (w : Writes) → t ≡ with_client s (noted s (without_known u db) (Committing db base w)) → Move resolves s u a r t
  Reverted : (db : List ℕ) (d : LocalDb) → a ≡ ask.Revert db → r ≡ reply.Fine → t ≡ with_client s (noted s (with_known u d.name d.base) (Reverting d.name)) → Move resolves s u a r t
  Polled : (known : List KnownDb) → t ≡ with_up s (record u { known = known }) → Move resolves s u a r t
  Resolved : (n : ℕ) (known : List KnownDb) → resolves ≡ true → r ≡ reply.Resolved n → t ≡ with_client s (noted s (record u { known = known }) (Finishing n)) → Move resolves s u a r t
  Voided : resolves ≡ true → t ≡ with_client s (noted s u Voiding) → Move resolves s u a r t

-- ---- refusals

unless : (P : Type 0) (refusal : Option Reply) (same : Side) (r : Reply) (t : Side) (D : Type 0) → (refusal ≡ None → D → P) → (t ≡ same → P) → UnlessRefused refusal same r t D → P
unless P None same r t D f g h = f refl h
unless P (Some x) same r t D f g h = g h.1

-- ---- reading

-- the transaction, where there is one, has the number
abbrev IsNumbered : ℕ → Option Txn → Type 0
IsNumbered n None = Unit {0}
IsNumbered n (Some x) = x.number ≡ n

begun_numbered : (c : Container) (n : ℕ) (db : List ℕ) (v : View) (d : Option Database) → IsNumbered n (option_map (begun n db v) d)
begun_numbered c n db v None = tt
begun_numbered c n db v (Some d) = refl

over_numbered : (c : Container) (n : ℕ) (db : List ℕ) (v : Option View) → IsNumbered n (option_and_then (λ (v : View). option_map (begun n db v) (base_of c db v)) v)
over_numbered c n db None = tt
over_numbered c n db (Some v) = begun_numbered c n db v (base_of c db v)

begins_with : (s : Side) (u : Up) (a : Ask) (r : Reply) (t : Side) (n : ℕ) (db : List ℕ) (x : Option Txn) → least_free (txn_numbers u) ≡ Some n → IsNumbered n x → Opens s u x t → Move false s u a r t
begins_with s u a r t n db None free i h = absurd h
begins_with s u a r t n db (Some x) free i h = Begun x (free ∙ ap Some (sym i)) h

opens_as : (s : Side) (u : Up) (a : Ask) (db : List ℕ) (r : Reply) (t : Side) → OpensAs s u db r t → Move false s u a r t
opens_as s u a db (reply.Txn n) t h = begins_with s u a (reply.Txn n) t n db (txn_over s u n db) h.0 (over_numbered s.container n db (view_of s.client.kept u db)) h.1
opens_as s u a db _ t h = absurd h

-- a transaction with a page's block held is that transaction, but for what it holds
held_by : (s : Side) (u : Up) (a : Ask) (r : Reply) (t : Side) (n : ℕ) (x : Txn) (p : ℕ) → txn_at u n ≡ Some x → t ≡ with_up s (with_txn u (holding s.container x p)) → Move false s u a r t
held_by s u a r t n x p is h = by_page (is_local x p) h
  where
    by_page : (local : Bool) → t ≡ with_up s (with_txn u (if local then x else record x { held = with_block (block_of_page s.container x p) x.held })) → Move false s u a r t
    by_page true h = Held n x x.held is h
    by_page false h = Held n x (with_block (block_of_page s.container x p) x.held) is h

comes : (access : Access) (s : Side) (u : Up) (a : Ask) (n : ℕ) (x : Txn) (p : ℕ) (r : Reply) (t : Side) → txn_at u n ≡ Some x → ComesAtOnce access s u x p r t → Move false s u a r t
comes ToRead s u a n x p (reply.Page bytes) t is h = Stays h.1
comes ToRead s u a n x p reply.CacheFull t is h = Stays h.2
comes ToRead s u a n x p _ t is h = absurd h
comes ToHold s u a n x p reply.Held t is h = held_by s u a reply.Held t n x p is h
comes ToHold s u a n x p reply.CacheFull t is h = Stays h.2
comes ToHold s u a n x p _ t is h = absurd h

fetches_in : (access : Access) (s : Side) (u : Up) (a : Ask) (n : ℕ) (x : Txn) (p : ℕ) (r : Reply) (t : Side) → txn_at u n ≡ Some x → FetchesIn access s u x p r t → Move false s u a r t
fetches_in access s u a n x p (reply.Task m left) t is h = Tasked m (Fetching access x.number p) (IsFetch access x.number p) h.4
fetches_in access s u a n x p reply.TooMany t is h = Stays h.2
fetches_in access s u a n x p r t is h = comes access s u a n x p r t is h

fetches_of : (access : Access) (s : Side) (u : Up) (a : Ask) (n : ℕ) (x : Option Txn) (p : ℕ) (r : Reply) (t : Side) → txn_at u n ≡ x → FetchesOf access s u x p r t → Move false s u a r t
fetches_of access s u a n None p r t is h = absurd h
fetches_of access s u a n (Some x) p r t is h = fetches_in access s u a n x p r t is h

fetch_steps : (access : Access) (s : Side) (u : Up) (a : Ask) (n : ℕ) (x : Txn) (p : ℕ) (q : Outcome) (r : Reply) (t : Side) → txn_at u n ≡ Some x → FetchSteps access s u x p q r t → Move false s u a r t
fetch_steps access s u a n x p outcome.Ok reply.Gone t is h = Stays h.2
fetch_steps access s u a n x p outcome.Fail reply.StoreFault t is h = Stays h.1
fetch_steps access s u a n x p outcome.Lost reply.StoreFault t is h = Stays h.1
fetch_steps access s u a n x p q r t is h = comes access s u a n x p r t is h

pub fetch_steps_of : (access : Access) (s : Side) (u : Up) (a : Ask) (n : ℕ) (x : Option Txn) (p : ℕ) (q : Outcome) (r : Reply) (t : Side) → txn_at u n ≡ x → FetchStepsOf access s u x p q r t → Move false s u a r t
fetch_steps_of access s u a n None p q r t is h = absurd h
fetch_steps_of access s u a n (Some x) p q r t is h = fetch_steps access s u a n x p q r t is h

shows : (s : Side) (u : Up) (a : Ask) (x : Option Txn) (p : ℕ) (r : Reply) (t : Side) → Shows s u x p r t → Move false s u a r t
shows s u a None p r t h = absurd h
shows s u a (Some x) p (reply.Page bytes) t h = Stays h.1
shows s u a (Some x) p _ t h = absurd h

lets_go : (s : Side) (u : Up) (a : Ask) (n : ℕ) (x : Option Txn) (p : ℕ) (r : Reply) (t : Side) → txn_at u n ≡ x → LetsGo s u x p r t → Move false s u a r t
lets_go s u a n None p r t is h = absurd h
lets_go s u a n (Some x) p reply.Fine t is h = Held n x (freed s.container x p).held is h
lets_go s u a n (Some x) p _ t is h = absurd h

closes : (s : Side) (u : Up) (a : Ask) (n : ℕ) (r : Reply) (t : Side) → Closes s u n r t → Move false s u a r t
closes s u a n reply.Fine t h = Ended n h
closes s u a n _ t h = absurd h

-- ---- local writing

commits_over : (s : Side) (u : Up) (a : Ask) (db : List ℕ) (w : Writes) (v : Option View) (r : Reply) (t : Side) → CommitsOver s u db w v r t → Move false s u a r t
commits_over s u a db w None r t h = absurd h
commits_over s u a db w (Some v) reply.Fine t h = Committed db v.base w h
commits_over s u a db w (Some v) r t h = Failed (Committing db v.base w) h

reverts_from : (s : Side) (u : Up) (db : List ℕ) (d : Option LocalDb) (r : Reply) (t : Side) → RevertsFrom s u d r t → Move false s u (ask.Revert db) r t
reverts_from s u db None r t h = absurd h
reverts_from s u db (Some d) reply.Fine t h = Reverted db d refl refl h
reverts_from s u db (Some d) r t h = Failed (Reverting d.name) h

lists : (s : Side) (u : Up) (a : Ask) (r : Reply) (t : Side) → Lists s u r t → Move false s u a r t
lists s u a (reply.Table rows pending) t h = Stays h.2
lists s u a _ t h = absurd h

-- ---- starting

starts : (s : Side) (u : Up) (a : Ask) (kind : Kind) (id : Id16) (r : Reply) (t : Side) → Starts s u kind id r t → Move false s u a r t
starts s u a kind id r t h = unless (Move false s u a r t) (start_refusal s.client.kept u kind) (with_up s u) r t (Publishes s u kind id r t) (λ none d. with_reply r none d.2) Stays h
  where
    with_reply : (r : Reply) → start_refusal s.client.kept u kind ≡ None → StartsAs s u (Publishing (started s.container kind id)) (left_at_start s.container kind) r t → Move false s u a r t
    with_reply (reply.Task n k) none d = Started n kind id none d.2
    with_reply _ none d = absurd d

starts_poll : (s : Side) (u : Up) (a : Ask) (r : Reply) (t : Side) → StartsAs s u Polling 1 r t → Move false s u a r t
starts_poll s u a (reply.Task n k) t d = Tasked n Polling IsPoll d.2
starts_poll s u a _ t d = absurd d

starts_resolve : (s : Side) (u : Up) (a : Ask) (r : Reply) (t : Side) → resolve_refusal s.client.kept u ≡ None → StartsAs s u Resolving 1 r t → Move false s u a r t
starts_resolve s u a (reply.Task n k) t none d = Asked n none d.2
starts_resolve s u a _ t none d = absurd d

-- ---- poll and resolve

polls_last : (s : Side) (u : Up) (a : Ask) (v : Option Version) (r : Reply) (t : Side) → PollsLast s u v r t → Move false s u a r t
polls_last s u a None reply.NoContainer t h = Stays h
polls_last s u a None _ t h = absurd h
polls_last s u a (Some v) (reply.Polled n) t h = Polled (known_at s.client.kept n v.dbs) h.1
polls_last s u a (Some v) _ t h = absurd h

pub polls : (s : Side) (u : Up) (a : Ask) (q : Outcome) (r : Reply) (t : Side) → Polls s u q r t → Move false s u a r t
polls s u a outcome.Ok r t h = polls_last s u a (last_version s.container) r t h
polls s u a outcome.Fail r t h = Stays h.1
polls s u a outcome.Lost r t h = Stays h.1

resolved_known : (x : Option Taken) (n : ℕ) (k : KeptState) (u : Up) → (known : List KnownDb) × (resolved_up x n k u ≡ record u { known = known })
resolved_known None n k u = (u.known, refl)
resolved_known (Some x) n k u = by_commits (has_commits k x.db)
  where
    by_commits : (b : Bool) → (known : List KnownDb) × ((if b then u else with_known u x.db n) ≡ record u { known = known })
    by_commits true = (u.known, refl)
    by_commits false = ((with_known u x.db n).known, refl)

resolves_as : (s : Side) (u : Up) (a : Ask) (p : Pending) (n : Option ℕ) (r : Reply) (t : Side) → ResolvesAs s u p n r t → Move true s u a r t
resolves_as s u a p (Some n) (reply.Resolved m) t h =
    let k = resolved_known p.upload n (kept_after s.client.kept (Finishing n)) u in
    Resolved n k.0 refl (ap reply.Resolved h.0) (h.1 ∙ ap (λ (v : Up). with_client s (noted s v (Finishing n))) k.1)
resolves_as s u a p (Some n) r t h = Failed (Finishing n) h
resolves_as s u a p None reply.Voided t h = Voided refl h
resolves_as s u a p None r t h = Failed Voiding h

resolves_pending : (s : Side) (u : Up) (a : Ask) (p : Option Pending) (r : Reply) (t : Side) → ResolvesPending s u p r t → Move true s u a r t
resolves_pending s u a None r t h = absurd h
resolves_pending s u a (Some p) r t h = resolves_as s u a p (number_from 1 p.id s.container.versions) r t h

pub resolves : (s : Side) (u : Up) (a : Ask) (q : Outcome) (r : Reply) (t : Side) → Resolves s u q r t → Move true s u a r t
resolves s u a outcome.Ok r t h = resolves_pending s u a s.client.kept.pending r t h
resolves s u a outcome.Fail r t h = Stays h.1
resolves s u a outcome.Lost r t h = Stays h.1

-- ---- asks

pub asks_quietly : (s : Side) (u : Up) (a : Ask) (id : Id16) (r : Reply) (t : Side) → AsksQuietly s u a id r t → Move false s u a r t
asks_quietly s u (ask.Begin db) id r t h = unless (Move false s u (ask.Begin db) r t) _ _ r t _ (λ none d. opens_as s u (ask.Begin db) db r t d) Stays h
asks_quietly s u (ask.Read n p) id r t h = unless (Move false s u (ask.Read n p) r t) _ _ r t _ (λ none d. fetches_of ToRead s u (ask.Read n p) n (txn_at u n) p r t refl d) Stays h
asks_quietly s u (ask.Hold n p) id r t h = unless (Move false s u (ask.Hold n p) r t) _ _ r t _ (λ none d. fetches_of ToHold s u (ask.Hold n p) n (txn_at u n) p r t refl d) Stays h
asks_quietly s u (ask.Look n p) id r t h = unless (Move false s u (ask.Look n p) r t) _ _ r t _ (λ none d. shows s u (ask.Look n p) (txn_at u n) p r t d) Stays h
asks_quietly s u (ask.Free n p) id r t h = unless (Move false s u (ask.Free n p) r t) _ _ r t _ (λ none d. lets_go s u (ask.Free n p) n (txn_at u n) p r t refl d) Stays h
asks_quietly s u (ask.End n) id r t h = unless (Move false s u (ask.End n) r t) _ _ r t _ (λ none d. closes s u (ask.End n) n r t d) Stays h
asks_quietly s u (ask.Commit db commit) id r t h = unless (Move false s u (ask.Commit db commit) r t) (commit_refusal s u db (writes_of commit)) (with_up s u) r t (CommitsOver s u db (writes_of commit) (view_of s.client.kept u db) r t) (λ none d. commits_over s u (ask.Commit db commit) db (writes_of commit) (view_of s.client.kept u db) r t d) Stays h
asks_quietly s u (ask.Revert db) id r t h = unless (Move false s u (ask.Revert db) r t) (revert_refusal s.client.kept u db) (with_up s u) r t (RevertsFrom s u (keyed local_name db s.client.kept.locals) r t) (λ none d. reverts_from s u db (keyed local_name db s.client.kept.locals) r t d) Stays h
asks_quietly s u ask.List id r t h = lists s u ask.List r t h
asks_quietly s u (ask.Create block retention) id r t h = starts s u (ask.Create block retention) (Creating block retention) id r t h
asks_quietly s u (ask.NewDb db page_size pages) id r t h = starts s u (ask.NewDb db page_size pages) (Making db page_size pages) id r t h
asks_quietly s u (ask.Upload db) id r t h = starts s u (ask.Upload db) (upload_of s.client.kept db) id r t h
asks_quietly s u (ask.Copy from to) id r t h = starts s u (ask.Copy from to) (Copying from to) id r t h
asks_quietly s u (ask.Remove db) id r t h = starts s u (ask.Remove db) (Removing db) id r t h
asks_quietly s u ask.Poll id r t h = unless (Move false s u ask.Poll r t) _ _ r t _ (λ none d. starts_poll s u ask.Poll r t d) Stays h
asks_quietly s u ask.Cleanup id r t h = starts s u ask.Cleanup Cleaning id r t h
asks_quietly s u ask.Resolve id r t h = unless (Move false s u ask.Resolve r t) _ _ r t _ (λ none d. starts_resolve s u ask.Resolve r t none d) Stays h
asks_quietly s u (ask.Step n) id r t h = absurd h
