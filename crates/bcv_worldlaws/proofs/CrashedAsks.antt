-- An ask that a failure of the disk ends, as one that a crash ends.
use Rattle.std.proofs.Common.{◌≡◌, ◌∙◌, ℕ, Bool, true, false, List, Option, Some, None, option_and_then, refl, sym, ap, subst}
use Rattle.bcv_base.specs.declared.id.Id16.{Id16}
use Rattle.bcv_base.specs.declared.outcome.Outcome.{Outcome}
use Rattle.bcv_base.specs.Image.{Writes}
use Rattle.bcv_base.specs.Keyed.{keyed}
use Rattle.bcv_model.specs.Commits.{writes_of}
use Rattle.bcv_model.specs.declared.ask.Ask.{Ask}
use Rattle.bcv_model.specs.declared.ask.Ask.TheVariants as ask
use Rattle.bcv_model.specs.declared.event.Act.{Act}
use Rattle.bcv_model.specs.declared.event.Act.TheVariants as act
use Rattle.bcv_model.specs.declared.reply.Reply.{Reply}
use Rattle.bcv_model.specs.declared.reply.Reply.TheVariants as reply
use Rattle.bcv_model.specs.declared.reply.Said.{Said}
use Rattle.bcv_machine.specs.CrashAndUp.{ComesUp}
use Rattle.bcv_machine.specs.LocalWriting.{Commits, CommitsOver, Reverts, RevertsFrom}
use Rattle.bcv_machine.specs.Reading.{Fetches}
use Rattle.bcv_machine.specs.Refusals.{begin_refusal, commit_refusal, end_refusal, look_refusal, free_refusal, page_refusal, poll_refusal, resolve_refusal, revert_refusal, start_refusal}
use Rattle.bcv_machine.specs.Starting.{Starts, upload_of}
use Rattle.bcv_machine.specs.State.{Access, Cleaning, Committing, Copying, Creating, Kind, LocalDb, Making, Removing, Reverting, Side, ToHold, ToRead, Up, View, base_of, local_name, task_at, txn_at, view_of, with_client}
use Rattle.bcv_machine.specs.Step.{Acts, Asks, Choice}
use Rattle.bcv_worldlaws.specs.Places.{DownPlace, UpPlace, place_side}
use Rattle.bcv_worldlaws.specs.Strikes.{ActStrikes, CrashStrikes, PlacesFall, StruckActs, set_failing, struck}
use Rattle.bcv_worldlaws.proofs.NoDisk.{is_disk, no_begin, no_commit, no_end, no_fetches, no_free, no_lets_go, no_look, no_page, no_poll, no_resolve, no_revert, no_shows, no_start, unless}
use Rattle.bcv_worldlaws.proofs.StruckSteps.{IsFused, crashed_as, failed_as, note_struck, step_struck}

module _ (b : Bool) (s : Side) (u : Up) (t : Side) (is : IsFused b s) where
  -- ---- asks that note something

  over_struck : (db : List ℕ) (w : Writes) (v : Option View) → CommitsOver (set_failing s) u db w v reply.DiskFault t → CommitsOver s u db w v reply.Crashed (struck b t)
  over_struck db w None h = h
  over_struck db w (Some v) h = note_struck b s u (Committing db v.base w) t is h

  commit_struck : (db : List ℕ) (w : Writes) → Commits (set_failing s) u db w reply.DiskFault t → Commits s u db w reply.Crashed (struck b t)
  commit_struck db w h =
      let view : Option View = view_of s.client.kept u db in
      unless (commit_refusal s u db w) _ _ _ _ (no_commit s.container u w view (option_and_then (base_of s.container db) view)) (over_struck db w view) h

  from_struck : (d : Option LocalDb) → RevertsFrom (set_failing s) u d reply.DiskFault t → RevertsFrom s u d reply.Crashed (struck b t)
  from_struck None h = h
  from_struck (Some d) h = note_struck b s u (Reverting d.name) t is h

  revert_struck : (db : List ℕ) → Reverts (set_failing s) u db reply.DiskFault t → Reverts s u db reply.Crashed (struck b t)
  revert_struck db h =
      unless (revert_refusal s.client.kept u db) _ _ _ _ (no_revert s.client.kept u db) (from_struck (keyed local_name db s.client.kept.locals)) h

  -- ---- asks that note nothing

  fetch_struck : (access : Access) (n p : ℕ) → Fetches access (set_failing s) u n p reply.DiskFault t → Fetches access s u n p reply.Crashed (struck b t)
  fetch_struck access n p h =
      unless (page_refusal u n p) _ _ _ _ (no_page p (txn_at u n)) (λ g. absurd (no_fetches access (set_failing s) u (txn_at u n) p t g)) h

  start_struck : (kind : Kind) (id : Id16) → Starts (set_failing s) u kind id reply.DiskFault t → Starts s u kind id reply.Crashed (struck b t)
  start_struck kind id h = unless (start_refusal s.client.kept u kind) _ _ _ _ (no_start s.client.kept u kind) (λ g. absurd g.2) h

  -- ---- every ask

  pub ask_struck : (q : Ask) (o : Outcome) (published : Option ℕ) (choice : Choice) → Asks (set_failing s) u q o (failed_as published) choice t
      → Asks s u q o (crashed_as published) choice (struck b t)
  ask_struck (ask.Begin db) o published choice h = (h.0, unless (begin_refusal s.client.kept u db) _ _ _ _ (no_begin s.client.kept u db) (λ g. absurd g) h.1)
  ask_struck (ask.Read n p) o published choice h = (h.0, fetch_struck ToRead n p h.1)
  ask_struck (ask.Hold n p) o published choice h = (h.0, fetch_struck ToHold n p h.1)
  ask_struck (ask.Look n p) o published choice h =
      (h.0, unless (look_refusal s.container u n p) _ _ _ _ (no_look s.container p (txn_at u n)) (λ g. absurd (no_shows (set_failing s) u (txn_at u n) p t g)) h.1)
  ask_struck (ask.Free n p) o published choice h =
      (h.0, unless (free_refusal s.container u n p) _ _ _ _ (no_free s.container p (txn_at u n)) (λ g. absurd (no_lets_go (set_failing s) u (txn_at u n) p t g)) h.1)
  ask_struck (ask.End n) o published choice h = (h.0, unless (end_refusal u n) _ _ _ _ (no_end u n) (λ g. absurd g) h.1)
  ask_struck (ask.Commit db commit) o published choice h = (h.0, commit_struck db (writes_of commit) h.1)
  ask_struck (ask.Revert db) o published choice h = (h.0, revert_struck db h.1)
  ask_struck ask.List o published choice h = absurd h.1
  ask_struck (ask.Create block retention) o published choice h = (h.0, start_struck (Creating block retention) choice.name h.1)
  ask_struck (ask.NewDb db page_size pages) o published choice h = (h.0, start_struck (Making db page_size pages) choice.name h.1)
  ask_struck (ask.Upload db) o published choice h = (h.0, start_struck (upload_of s.client.kept db) choice.name h.1)
  ask_struck (ask.Copy from to) o published choice h = (h.0, start_struck (Copying from to) choice.name h.1)
  ask_struck (ask.Remove db) o published choice h = (h.0, start_struck (Removing db) choice.name h.1)
  ask_struck ask.Poll o published choice h = (h.0, unless (poll_refusal u) _ _ _ _ (no_poll u) (λ g. absurd g) h.1)
  ask_struck ask.Cleanup o published choice h = (h.0, start_struck Cleaning choice.name h.1)
  ask_struck ask.Resolve o published choice h = (h.0, unless (resolve_refusal s.client.kept u) _ _ _ _ (no_resolve s.client.kept u) (λ g. absurd g) h.1)
  ask_struck (ask.Step n) o published choice h = step_struck b (task_at u n) s u o published choice.second t is h

pub crash_strikes : CrashStrikes
crash_strikes s u q o said choice t fused faulted asks =
    ask_struck s.client.failing s u t (record { fused = fused; failing = refl }) q o said.published choice
    (subst (λ (r : Reply). let y : Said = record { published = said.published; reply = r } in Asks (set_failing s) u q o y choice t) faulted asks)

-- ---- whatever happens

-- a client comes up, or its disk fails
rise_struck : (s t : Side) → s.client.up ≡ None → s.client.fused ≡ true → ComesUp (set_failing s) reply.DiskFault t → ComesUp s reply.Crashed (struck s.client.failing t)
rise_struck s t down fused h =
    (fused, ap (struck s.client.failing) h.1 ∙ ap (λ (o : Option Up). with_client s (record s.client { fused = false; up = o })) (sym down))

not_that : (r : Reply) → is_disk r ≡ false → reply.DiskFault ≡ r → ⊥
not_that r other e = absurd (let wrong : true ≡ false = ap is_disk e ∙ other in cc)

act_struck : (o : Option Up) (s : Side) (what : Act) (published : Option ℕ) (choice : Choice) (t : Side) → s.client.up ≡ o → s.client.fused ≡ true
    → Acts (set_failing s) o what (failed_as published) choice t → Acts s o what (crashed_as published) choice (struck s.client.failing t)
act_struck None s (act.Ask q o) published choice t down fused h = absurd (not_that reply.Down refl h.0.1)
act_struck None s act.Up published choice t down fused h = (h.0, rise_struck s t down fused h.1)
act_struck None s (act.Crash image) published choice t down fused h = absurd (not_that reply.Down refl h.0.1)
act_struck None s (act.Fuse calls image) published choice t down fused h = absurd (not_that reply.Down refl h.0.1)
act_struck None s (act.FailAt calls) published choice t down fused h = absurd (not_that reply.Down refl h.0.1)
act_struck (Some u) s (act.Ask q o) published choice t up fused h = ask_struck s.client.failing s u t (record { fused = fused; failing = refl }) q o published choice h
act_struck (Some u) s act.Up published choice t up fused h = absurd (not_that reply.IsUp refl h.0.1)
act_struck (Some u) s (act.Crash image) published choice t up fused h = absurd h.1
act_struck (Some u) s (act.Fuse calls image) published choice t up fused h = absurd h.1
act_struck (Some u) s (act.FailAt calls) published choice t up fused h = absurd h.1

pub act_strikes : ActStrikes
act_strikes s what said choice t fused faulted acts =
    act_struck s.client.up s what said.published choice t refl fused
    (subst (λ (r : Reply). let y : Said = record { published = said.published; reply = r } in Acts (set_failing s) s.client.up what y choice t) faulted acts)

-- ---- places

pub places_fall : PlacesFall
places_fall moment past failing (UpPlace p entries f) = record { set = refl; strikes = refl; crash = refl }
places_fall moment past failing (DownPlace id k f) = record { set = refl; strikes = refl; crash = refl }

pub struck_acts : StruckActs
struck_acts moment before after (UpPlace p entries f) (UpPlace q others g) what said choice fused faulted acts =
    act_strikes (place_side moment before (UpPlace p entries f)) what said choice (place_side moment after (UpPlace q others g)) fused faulted acts
struck_acts moment before after (UpPlace p entries f) (DownPlace id k g) what said choice fused faulted acts =
    act_strikes (place_side moment before (UpPlace p entries f)) what said choice (place_side moment after (DownPlace id k g)) fused faulted acts
struck_acts moment before after (DownPlace id k f) (UpPlace q others g) what said choice fused faulted acts =
    act_strikes (place_side moment before (DownPlace id k f)) what said choice (place_side moment after (UpPlace q others g)) fused faulted acts
struck_acts moment before after (DownPlace id k f) (DownPlace j l g) what said choice fused faulted acts =
    act_strikes (place_side moment before (DownPlace id k f)) what said choice (place_side moment after (DownPlace j l g)) fused faulted acts
