-- A step that a failure ends, as one that a crash ends.
use Rattle.std.proofs.Common.{◌≡◌, ◌∙◌, ℕ, zero, suc, Bool, true, false, ◌||◌, ◌&&◌, Option, Some, None, refl, sym, ap, subst}
use Rattle.bcv_base.specs.declared.outcome.Outcome.{Outcome}
use Rattle.bcv_base.specs.declared.outcome.Outcome.TheVariants as outcome
use Rattle.bcv_base.specs.Version.{Version}
use Rattle.bcv_machine.specs.ManifestGet.{GetsManifest}
use Rattle.bcv_machine.specs.ManifestPut.{IntentFails, NoteFailsAt, PutsManifest, Refuses, Stores, intent_of, version_made, with_intent, with_version}
use Rattle.bcv_machine.specs.MiddleStep.{GoesOn, IsMiddleFault, requested}
use Rattle.bcv_machine.specs.Noting.{FaultEnds, NoteFails, note_crashed}
use Rattle.bcv_machine.specs.Refusals.{ends_pending}
use Rattle.bcv_machine.specs.Resolve.{Resolves, ResolvesAs, ResolvesPending, number_from}
use Rattle.bcv_machine.specs.State.{Client, Fetching, Finishing, Job, Note, Pending, Polling, Publication, Publishing, Resolving, Side, Task, Up, Voiding, last_version, txn_at, without_task}
use Rattle.bcv_machine.specs.Step.{Steps, StepsJob, StepsOpen, StepsPublication, give_back}
use Rattle.bcv_model.specs.declared.reply.Reply.{Reply}
use Rattle.bcv_model.specs.declared.reply.Reply.TheVariants as reply
use Rattle.bcv_model.specs.declared.reply.Said.{Said}
use Rattle.bcv_worldlaws.specs.Strikes.{set_failing, struck}
use Rattle.bcv_worldlaws.proofs.NoDisk.{found_differs, is_disk, middle_differs, no_fetch_step, no_poll_step}

-- what is said where the disk failed, and where it crashed
abbrev pub failed_as : Option ℕ → Said
failed_as published = record { published = published; reply = reply.DiskFault }

abbrev pub crashed_as : Option ℕ → Said
crashed_as published = record { published = published; reply = reply.Crashed }

-- a side whose disk has a fuse, and a failure set or not
pub record IsFused (b : Bool) (s : Side) : Type 0 where
  pub fused : s.client.fused ≡ true
  pub failing : s.client.failing ≡ b

no_store : reply.StoreFault ≡ reply.DiskFault → ⊥
no_store e = absurd (let wrong : false ≡ true = ap is_disk e in cc)

module _ (b : Bool) where
  -- ---- notes

  pub note_struck : (s : Side) (u : Up) (x : Note) (t : Side) → IsFused b s → NoteFails (set_failing s) u x reply.DiskFault t → NoteFails s u x reply.Crashed (struck b t)
  note_struck s u x t is h = (
    h.0,
    (
      is.fused,
      ap (λ (c : Client). record c { fused = false; failing = b; up = None }) h.1.1 ∙ ap (λ (y : Bool). record (note_crashed s x) { failing = y }) (sym is.failing),
    ),
  )

  fault_struck : (i : Bool) (s : Side) (u : Up) (fault : Reply) (t : Side) → IsFused b s → (fault ≡ reply.DiskFault → ⊥)
      → FaultEnds i (set_failing s) u fault reply.DiskFault t → FaultEnds i s u fault reply.Crashed (struck b t)
  fault_struck false s u fault t is differs h = absurd (differs (sym h.0))
  fault_struck true s u fault t is differs h = note_struck s u Voiding t is h

  intent_struck : (i : Bool) (s : Side) (u : Up) (p : Publication) (t : Side) → IsFused b s → IntentFails i (set_failing s) u p reply.DiskFault t
      → IntentFails i s u p reply.Crashed (struck b t)
  intent_struck true s u p t is h = h
  intent_struck false s u p t is h = note_struck s u (intent_of p) t is h

  -- the side with the intent
  same_intent : (i : Bool) (s : Side) (u : Up) (p : Publication) → with_intent i (set_failing s) u p ≡ set_failing (with_intent i s u p)
  same_intent true s u p = refl
  same_intent false s u p = refl

  intent_fused : (i : Bool) (s : Side) (u : Up) (p : Publication) → IsFused b s → IsFused b (with_intent i s u p)
  intent_fused true s u p is = record { fused = is.fused; failing = is.failing }
  intent_fused false s u p is = record { fused = is.fused; failing = is.failing }

  -- ---- the put

  refuse_struck : (s : Side) (u : Up) (p : Publication) (read : ℕ) (t : Side) (rest : Option Publication) → IsFused b s
      → Refuses (set_failing s) u p read reply.DiskFault t rest → Refuses s u p read reply.Crashed (struck b t) rest
  refuse_struck s u p read t rest is h = (h.0, note_struck s u Voiding t is h.1, h.2)

  fails_struck : (second : Bool) (s : Side) (u : Up) (p : Publication) (read : ℕ) (t : Side) (rest : Option Publication) → IsFused b s
      → NoteFailsAt second (set_failing s) u p read reply.DiskFault t rest → NoteFailsAt second s u p read reply.Crashed (struck b t) rest
  fails_struck false s u p read t rest is h = (intent_struck p.intended s u p t is h.0, h.1)
  fails_struck true s u p read t rest is h = (
    h.0,
    refuse_struck (with_intent p.intended s u p) u p read t rest (intent_fused p.intended s u p is)
        (subst (λ (y : Side). Refuses y u p read reply.DiskFault t rest) (same_intent p.intended s u p) h.1),
  )

  store_struck : (s : Side) (u : Up) (p : Publication) (n : ℕ) (o : Option Version) (t : Side) → IsFused b s
      → Stores (set_failing s) u p n o reply.DiskFault t → Stores s u p n o reply.Crashed (struck b t)
  store_struck s u p n None t is h = h
  store_struck s u p n (Some v) t is h = note_struck (with_version s p.kind v) u (Finishing n) t (record { fused = is.fused; failing = is.failing }) h

  put_struck : (second : Bool) (s : Side) (u : Up) (p : Publication) (read : ℕ) (o : Outcome) (published : Option ℕ) (t : Side) (rest : Option Publication) → IsFused b s
      → PutsManifest second (set_failing s) u p read o published reply.DiskFault t rest → PutsManifest second s u p read o published reply.Crashed (struck b t) rest
  put_struck second s u p read outcome.Ok (Some n) t rest is h = (
    h.0,
    store_struck (with_intent p.intended s u p) u p n (version_made s.container p) t (intent_fused p.intended s u p is)
        (subst (λ (y : Side). Stores y u p n (version_made s.container p) reply.DiskFault t) (same_intent p.intended s u p) h.1),
    h.2,
  )
  put_struck second s u p read outcome.Ok None t rest is h = fails_struck (p.intended || second) s u p read t rest is h
  put_struck second s u p read outcome.Fail (Some n) t rest is h = h
  put_struck second s u p read outcome.Fail None t rest is h = (intent_struck p.intended s u p t is h.0, h.1)
  put_struck second s u p read outcome.Lost (Some n) t rest is h = (h.0, h.1)
  put_struck second s u p read outcome.Lost None t rest is h = (intent_struck p.intended s u p t is h.0, h.1)

  -- ---- the steps before it

  get_struck : (s : Side) (u : Up) (p : Publication) (o : Outcome) (t : Side) (rest : Option Publication) → IsFused b s
      → GetsManifest (set_failing s) u p o reply.DiskFault t rest → GetsManifest s u p o reply.Crashed (struck b t) rest
  get_struck s u p outcome.Ok t rest is h =
      ((h.0.0, h.0.1, fault_struck p.intended s u h.0.0 t is (found_differs s.container p (last_version s.container) h.0.0 h.0.1) h.0.2), h.1)
  get_struck s u p outcome.Fail t rest is h = (fault_struck p.intended s u reply.StoreFault t is no_store h.0, h.1)
  get_struck s u p outcome.Lost t rest is h = (fault_struck p.intended s u reply.StoreFault t is no_store h.0, h.1)

  ends_struck : (s : Side) (u : Up) (p : Publication) (o : Outcome) (t : Side) → IsFused b s
      → ((fault : Reply) × IsMiddleFault s.container p o fault × FaultEnds p.intended (requested (set_failing s) p o) u fault reply.DiskFault t)
      → (fault : Reply) × IsMiddleFault s.container p o fault × FaultEnds p.intended (requested s p o) u fault reply.Crashed (struck b t)
  ends_struck s u p o t is h =
      (h.0, h.1, fault_struck p.intended (requested s p o) u h.0 t (record { fused = is.fused; failing = is.failing }) (middle_differs s.container p o h.0 h.1) h.2)

  middle_struck : (s : Side) (u : Up) (p : Publication) (o : Outcome) (t : Side) (rest : Option Publication) → IsFused b s
      → GoesOn (set_failing s) u p o reply.DiskFault t rest → GoesOn s u p o reply.Crashed (struck b t) rest
  middle_struck s u p outcome.Ok t rest is h = (ends_struck s u p outcome.Ok t is h.0, h.1)
  middle_struck s u p outcome.Fail t rest is h = (ends_struck s u p outcome.Fail t is h.0, h.1)
  middle_struck s u p outcome.Lost t rest is h = (ends_struck s u p outcome.Lost t is h.0, h.1)

  publication_struck : (r : Option ℕ) (left : ℕ) (s : Side) (u : Up) (p : Publication) (o : Outcome) (published : Option ℕ) (second : Bool) (t : Side) (rest : Option Publication) → IsFused b s
      → StepsPublication r left (set_failing s) u p o (failed_as published) second t rest → StepsPublication r left s u p o (crashed_as published) second (struck b t) rest
  publication_struck None left s u p o published second t rest is h = (h.0, get_struck s u p o t rest is h.1)
  publication_struck (Some read) zero s u p o published second t rest is h = h
  publication_struck (Some read) (suc zero) s u p o published second t rest is h = put_struck second s u p read o published t rest is h
  publication_struck (Some read) (suc (suc left)) s u p o published second t rest is h = (h.0, middle_struck s u p o t rest is h.1)

  -- ---- a publication that the disk ends does not go on

  fails_end : (second : Bool) (s : Side) (u : Up) (p : Publication) (read : ℕ) (t : Side) (rest : Option Publication) → NoteFailsAt second s u p read reply.DiskFault t rest → rest ≡ None
  fails_end false s u p read t rest h = h.1
  fails_end true s u p read t rest h = h.1.2

  put_ends : (second : Bool) (s : Side) (u : Up) (p : Publication) (read : ℕ) (o : Outcome) (published : Option ℕ) (t : Side) (rest : Option Publication)
      → PutsManifest second s u p read o published reply.DiskFault t rest → rest ≡ None
  put_ends second s u p read outcome.Ok (Some n) t rest h = h.2
  put_ends second s u p read outcome.Ok None t rest h = fails_end (p.intended || second) s u p read t rest h
  put_ends second s u p read outcome.Fail (Some n) t rest h = absurd h
  put_ends second s u p read outcome.Fail None t rest h = h.1
  put_ends second s u p read outcome.Lost (Some n) t rest h = absurd h.1
  put_ends second s u p read outcome.Lost None t rest h = h.1

  get_ends : (s : Side) (u : Up) (p : Publication) (o : Outcome) (t : Side) (rest : Option Publication) → GetsManifest s u p o reply.DiskFault t rest → rest ≡ None
  get_ends s u p outcome.Ok t rest h = h.1
  get_ends s u p outcome.Fail t rest h = h.1
  get_ends s u p outcome.Lost t rest h = h.1

  middle_ends : (s : Side) (u : Up) (p : Publication) (o : Outcome) (t : Side) (rest : Option Publication) → GoesOn s u p o reply.DiskFault t rest → rest ≡ None
  middle_ends s u p outcome.Ok t rest h = h.1
  middle_ends s u p outcome.Fail t rest h = h.1
  middle_ends s u p outcome.Lost t rest h = h.1

  publication_ends : (r : Option ℕ) (left : ℕ) (s : Side) (u : Up) (p : Publication) (o : Outcome) (published : Option ℕ) (second : Bool) (t : Side) (rest : Option Publication)
      → StepsPublication r left s u p o (failed_as published) second t rest → rest ≡ None
  publication_ends None left s u p o published second t rest h = get_ends s u p o t rest h.1
  publication_ends (Some read) zero s u p o published second t rest h = absurd h
  publication_ends (Some read) (suc zero) s u p o published second t rest h = put_ends second s u p read o published t rest h
  publication_ends (Some read) (suc (suc left)) s u p o published second t rest h = middle_ends s u p o t rest h.1

  nothing_back : (n : ℕ) (rest : Option Publication) (mid : Side) → rest ≡ None → struck b (give_back n rest mid) ≡ give_back n rest (struck b mid)
  nothing_back n None mid none = refl
  nothing_back n (Some p) mid none = absurd (cc)

  -- ---- resolves

  resolve_struck : (s : Side) (u : Up) (p : Pending) (found : Option ℕ) (t : Side) → IsFused b s → ResolvesAs (set_failing s) u p found reply.DiskFault t
      → ResolvesAs s u p found reply.Crashed (struck b t)
  resolve_struck s u p None t is h = note_struck s u Voiding t is h
  resolve_struck s u p (Some n) t is h = note_struck s u (Finishing n) t is h

  pending_struck : (s : Side) (u : Up) (o : Option Pending) (t : Side) → IsFused b s → ResolvesPending (set_failing s) u o reply.DiskFault t → ResolvesPending s u o reply.Crashed (struck b t)
  pending_struck s u None t is h = h
  pending_struck s u (Some p) t is h = resolve_struck s u p (number_from 1 p.id s.container.versions) t is h

  resolves_struck : (s : Side) (u : Up) (o : Outcome) (t : Side) → IsFused b s → Resolves (set_failing s) u o reply.DiskFault t → Resolves s u o reply.Crashed (struck b t)
  resolves_struck s u outcome.Ok t is h = pending_struck s u s.client.kept.pending t is h
  resolves_struck s u outcome.Fail t is h = absurd (let wrong : true ≡ false = ap is_disk h.0 in cc)
  resolves_struck s u outcome.Lost t is h = absurd (let wrong : true ≡ false = ap is_disk h.0 in cc)

  -- ---- a task's step

  job_struck : (j : Job) (n : ℕ) (s : Side) (u : Up) (o : Outcome) (published : Option ℕ) (second : Bool) (t : Side) → IsFused b s
      → StepsJob j n (set_failing s) u o (failed_as published) second t → StepsJob j n s u o (crashed_as published) second (struck b t)
  job_struck (Fetching access txn page) n s u o published second t is h = absurd (no_fetch_step access (set_failing s) u (txn_at u txn) page o t h.1)
  job_struck Polling n s u o published second t is h = absurd (no_poll_step (set_failing s) u o t h.1)
  job_struck (Publishing p) n s u o published second t is h =
      let none : h.1 ≡ None = publication_ends p.read p.left (set_failing s) u p o published second h.0 h.1 h.2 in
      (struck b h.0, h.1, publication_struck p.read p.left s u p o published second h.0 h.1 is h.2, ap (struck b) h.3 ∙ nothing_back n h.1 h.0 none)
  job_struck Resolving n s u o published second t is h = (h.0, resolves_struck s u o t is h.1)

  open_struck : (closed : Bool) (j : Job) (n : ℕ) (s : Side) (u : Up) (o : Outcome) (published : Option ℕ) (second : Bool) (t : Side) → IsFused b s
      → StepsOpen closed j n (set_failing s) u o (failed_as published) second t → StepsOpen closed j n s u o (crashed_as published) second (struck b t)
  open_struck true j n s u o published second t is h = absurd (let wrong : true ≡ false = ap is_disk h.0.1 in cc)
  open_struck false j n s u o published second t is h = job_struck j n s u o published second t is h

  pub step_struck : (x : Option Task) (s : Side) (u : Up) (o : Outcome) (published : Option ℕ) (second : Bool) (t : Side) → IsFused b s
      → Steps x (set_failing s) u o (failed_as published) second t → Steps x s u o (crashed_as published) second (struck b t)
  step_struck None s u o published second t is h = absurd (let wrong : true ≡ false = ap is_disk h.0.1 in cc)
  step_struck (Some x) s u o published second t is h = open_struck (u.closed && ends_pending x.job) x.job x.number s (without_task u x.number) o published second t is h
