-- Which note is in flight once a step of the machine has met a fault of the disk: an intent only of the step's own publication.
use Rattle.std.proofs.Common.{◌≡◌, ◌≢◌, ◌||◌, ℕ, zero, suc, Bool, true, false, List, [], Option, Some, None, sym, subst}
use Rattle.bcv_base.specs.declared.id.Id16.{Id16}
use Rattle.bcv_base.specs.declared.outcome.Outcome.{Outcome}
use Rattle.bcv_base.specs.declared.outcome.Outcome.TheVariants as outcome
use Rattle.bcv_base.specs.History.{Item}
use Rattle.bcv_base.specs.Ids.{has_id}
use Rattle.bcv_base.specs.Image.{Writes}
use Rattle.bcv_base.specs.Keyed.{keyed}
use Rattle.bcv_base.specs.Version.{Version}
use Rattle.bcv_clientlaws.specs.OtherParts.{Includes}
use Rattle.bcv_clientstate.specs.Parts.{Parts}
use Rattle.bcv_clientstate.specs.SeenClient.{Free, seen_up, side_of}
use Rattle.bcv_ledger.specs.NoteEnds.{ShutAfter}
use Rattle.bcv_machine.specs.LocalWriting.{Commits, CommitsOver, Reverts, RevertsFrom}
use Rattle.bcv_machine.specs.ManifestGet.{GetsManifest}
use Rattle.bcv_machine.specs.ManifestPut.{IntentFails, NoteFailsAt, PutsManifest, Refuses, Stores, intent_of, version_made, with_intent, with_version}
use Rattle.bcv_machine.specs.MiddleStep.{GoesOn, requested}
use Rattle.bcv_machine.specs.Noting.{FaultEnds, NoteFails}
use Rattle.bcv_machine.specs.Refusals.{UnlessRefused, commit_refusal, revert_refusal}
use Rattle.bcv_machine.specs.Resolve.{Resolves, ResolvesAs, ResolvesPending, number_from}
use Rattle.bcv_machine.specs.State as m
use Rattle.bcv_machine.specs.State.{local_name, with_up}
use Rattle.bcv_machine.specs.Step.{StepsPublication}
use Rattle.bcv_model.specs.declared.reply.Reply.{Reply}
use Rattle.bcv_model.specs.declared.reply.Reply.TheVariants as reply
use Rattle.bcv_publisher.specs.PutStep.{StepGoes, version_added}
use Rattle.bcv_client.specs.CallNames.{flight_names}
use Rattle.bcv_client.proofs.MyNames.{none_mine, one_mine}

module _ (mine : List Id16) where
  -- the intent in flight is mine
  abbrev pub Flies : m.Side → Type 0
  Flies t = Includes mine (flight_names t.client.flight)

  -- ---- a note that failed

  fails_to : (s : m.Side) (u : m.Up) (x : m.Note) (t : m.Side) → NoteFails s u x reply.DiskFault t → Includes mine (flight_names (Some x)) → Flies t
  fails_to s u x t fails own = subst (λ (c : m.Client). Includes mine (flight_names c.flight)) (sym fails.1.1) own

  void_flies : (b : Bool) (s : m.Side) (u : m.Up) (fault : Reply) (t : m.Side) → FaultEnds b s u fault reply.DiskFault t → Flies s → Flies t
  void_flies true s u fault t ends own = fails_to s u m.Voiding t ends (none_mine mine)
  void_flies false s u fault t ends own = subst Flies (sym ends.1) own

  -- ---- a publication

  module _ (s : m.Side) (u : m.Up) (q : m.Publication) (named : has_id q.id mine ≡ true) where
    intent_flies : (b : Bool) (t : m.Side) → IntentFails b s u q reply.DiskFault t → Flies t
    intent_flies true t fails = absurd fails
    intent_flies false t fails = fails_to s u (intent_of q) t fails (one_mine mine q.id [] named (none_mine mine))

    refusal_flies : (v : m.Side) (read : ℕ) (t : m.Side) (rest : Option m.Publication) → Refuses v u q read reply.DiskFault t rest → Flies t
    refusal_flies v read t rest ends = fails_to v u m.Voiding t ends.1 (none_mine mine)

    at_flies : (b : Bool) (read : ℕ) (t : m.Side) (rest : Option m.Publication) → NoteFailsAt b s u q read reply.DiskFault t rest → Flies t
    at_flies false read t rest ends = intent_flies q.intended t ends.0
    at_flies true read t rest ends = refusal_flies (with_intent q.intended s u q) read t rest ends.1

    made_flies : (n : ℕ) (v : Option Version) (t : m.Side) → Stores (with_intent q.intended s u q) u q n v reply.DiskFault t → Flies t
    made_flies n None t ends = absurd ends
    made_flies n (Some v) t ends = fails_to (with_version (with_intent q.intended s u q) q.kind v) u (m.Finishing n) t ends (none_mine mine)

    put_flies : (second : Bool) (read : ℕ) (o : Outcome) (number : Option ℕ) (t : m.Side) (rest : Option m.Publication) → PutsManifest second s u q read o number reply.DiskFault t rest → Flies t
    put_flies second read outcome.Ok (Some n) t rest ends = made_flies n (version_made s.container q) t ends.1
    put_flies second read outcome.Ok None t rest ends = at_flies (q.intended || second) read t rest ends
    put_flies second read outcome.Fail (Some n) t rest ends = absurd ends
    put_flies second read outcome.Fail None t rest ends = intent_flies q.intended t ends.0
    put_flies second read outcome.Lost (Some n) t rest ends = absurd ends.1
    put_flies second read outcome.Lost None t rest ends = intent_flies q.intended t ends.0

    get_flies : (o : Outcome) (t : m.Side) (rest : Option m.Publication) → GetsManifest s u q o reply.DiskFault t rest → Flies s → Flies t
    get_flies outcome.Ok t rest ends own = void_flies q.intended s u ends.0.0 t ends.0.2 own
    get_flies outcome.Fail t rest ends own = void_flies q.intended s u reply.StoreFault t ends.0 own
    get_flies outcome.Lost t rest ends own = void_flies q.intended s u reply.StoreFault t ends.0 own

    middle_flies : (o : Outcome) (t : m.Side) (rest : Option m.Publication) → GoesOn s u q o reply.DiskFault t rest → Flies s → Flies t
    middle_flies outcome.Ok t rest ends own = void_flies q.intended (requested s q outcome.Ok) u ends.0.0 t ends.0.2 own
    middle_flies outcome.Fail t rest ends own = void_flies q.intended (requested s q outcome.Fail) u ends.0.0 t ends.0.2 own
    middle_flies outcome.Lost t rest ends own = void_flies q.intended (requested s q outcome.Lost) u ends.0.0 t ends.0.2 own

    pub publication_flies : (read : Option ℕ) (left : ℕ) (o : Outcome) (published : Option ℕ) (second : Bool) (t : m.Side) (rest : Option m.Publication)
        → StepsPublication read left s u q o (record { published = published; reply = reply.DiskFault }) second t rest → Flies s → Flies t
    publication_flies None left o published second t rest ends own = get_flies o t rest ends.1 own
    publication_flies (Some read) zero o published second t rest ends own = absurd ends
    publication_flies (Some read) (suc zero) o published second t rest ends own = put_flies second read o published t rest ends
    publication_flies (Some read) (suc (suc left)) o published second t rest ends own = middle_flies o t rest ends.1 own

  -- but after a fault of the disk nothing is in flight
  pub step_flies : (moment : ℕ) (past later : List Item) (p next : Parts) (f free : Free) (q : m.Publication) (o : Outcome) (x : Reply) (rest : Option m.Publication) (shut : Bool)
      → has_id q.id mine ≡ true → ShutAfter (Some x) shut → (shut ≡ false → Includes mine (flight_names free.flight))
      → (x ≢ reply.NoMemory → StepGoes moment past later p next f free q o x rest) → Includes mine (flight_names f.flight) → Includes mine (flight_names free.flight)
  step_flies moment past later p next f free q o reply.DiskFault rest shut named after none goes flies =
      let step : StepGoes moment past later p next f free q o reply.DiskFault rest = goes (λ e. absurd (cc)) in
      publication_flies (side_of moment past p f) (seen_up past p) q named q.read q.left o (version_added past later) step.second (side_of moment later next free) rest step.steps flies
  step_flies moment past later p next f free q o _ rest shut named after none goes flies = none after

  -- ---- a resolve

  found_flies : (s : m.Side) (u : m.Up) (p : m.Pending) (n : Option ℕ) (t : m.Side) → ResolvesAs s u p n reply.DiskFault t → Flies t
  found_flies s u p None t ends = fails_to s u m.Voiding t ends (none_mine mine)
  found_flies s u p (Some n) t ends = fails_to s u (m.Finishing n) t ends (none_mine mine)

  pending_flies : (s : m.Side) (u : m.Up) (p : Option m.Pending) (t : m.Side) → ResolvesPending s u p reply.DiskFault t → Flies t
  pending_flies s u None t ends = absurd ends
  pending_flies s u (Some p) t ends = found_flies s u p (number_from 1 p.id s.container.versions) t ends

  pub resolve_flies : (s : m.Side) (u : m.Up) (o : Outcome) (t : m.Side) → Resolves s u o reply.DiskFault t → Flies s → Flies t
  resolve_flies s u outcome.Ok t ends own = pending_flies s u s.client.kept.pending t ends
  resolve_flies s u outcome.Fail t ends own = subst Flies (sym ends.1) own
  resolve_flies s u outcome.Lost t ends own = subst Flies (sym ends.1) own

  -- ---- commits and reverts

  unless_flies : (s : m.Side) (u : m.Up) (why : Option Reply) (t : m.Side) (Does : Type 0) → (Does → Flies t) → UnlessRefused why (with_up s u) reply.DiskFault t Does → Flies s → Flies t
  unless_flies s u None t Does does goes own = does goes
  unless_flies s u (Some reason) t Does does goes own = subst Flies (sym goes.1) own

  commits_over : (s : m.Side) (u : m.Up) (db : List ℕ) (w : Writes) (v : Option m.View) (t : m.Side) → CommitsOver s u db w v reply.DiskFault t → Flies t
  commits_over s u db w None t goes = absurd goes
  commits_over s u db w (Some v) t goes = fails_to s u (m.Committing db v.base w) t goes (none_mine mine)

  pub commit_flies : (s : m.Side) (u : m.Up) (db : List ℕ) (w : Writes) (t : m.Side) → Commits s u db w reply.DiskFault t → Flies s → Flies t
  commit_flies s u db w t goes own =
      unless_flies s u (commit_refusal s u db w) t (CommitsOver s u db w (m.view_of s.client.kept u db) reply.DiskFault t) (λ does. commits_over s u db w (m.view_of s.client.kept u db) t does) goes own

  reverts_over : (s : m.Side) (u : m.Up) (d : Option m.LocalDb) (t : m.Side) → RevertsFrom s u d reply.DiskFault t → Flies t
  reverts_over s u None t goes = absurd goes
  reverts_over s u (Some d) t goes = fails_to s u (m.Reverting d.name) t goes (none_mine mine)

  pub revert_flies : (s : m.Side) (u : m.Up) (db : List ℕ) (t : m.Side) → Reverts s u db reply.DiskFault t → Flies s → Flies t
  revert_flies s u db t goes own =
      unless_flies s u (revert_refusal s.client.kept u db) t (RevertsFrom s u (keyed local_name db s.client.kept.locals) reply.DiskFault t)
      (λ does. reverts_over s u (keyed local_name db s.client.kept.locals) t does) goes own
