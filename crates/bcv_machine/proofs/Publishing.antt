-- What a step of a publication does to a side, in few moves: each case of its relations is one of them.
use Rattle.std.proofs.Common.{◌≡◌, ◌⊎◌, ℕ, ◌+◌, zero, suc, Bool, true, false, ◌||◌, [], ◌∷◌, ◌++◌, Option, Some, None, refl, sym, ap, subst, inl, inr}
use Rattle.std.specs.Option.{option_map}
use Rattle.bcv_base.specs.declared.id.Id16.{Id16}
use Rattle.bcv_base.specs.declared.outcome.Outcome.{Outcome}
use Rattle.bcv_base.specs.declared.outcome.Outcome.TheVariants as outcome
use Rattle.bcv_base.specs.Edits as edits
use Rattle.bcv_base.specs.Version.{Version}
use Rattle.bcv_model.specs.declared.reply.Reply.{Reply}
use Rattle.bcv_model.specs.declared.reply.Reply.TheVariants as reply
use Rattle.bcv_model.specs.declared.reply.Said.{Said}
use Rattle.bcv_machine.specs.ManifestGet.{GetsManifest, after_get}
use Rattle.bcv_machine.specs.ManifestPut.{done_reply, Finishes, Stores, Appends, Refuses, IntentFails, NoteFailsAt, PutsNothing, PutFails, PutLosesNothing, PutLosesAnswer, PutsManifest, with_intent, with_version, version_made, version_next, edit_of, intent_of, last_refusal, finished, tried_again}
use Rattle.bcv_machine.specs.MiddleStep.{GoesOn, requested, after_request, deleted_by, swept_by}
use Rattle.bcv_machine.specs.Noting.{NoteFails, FaultEnds, noted}
use Rattle.bcv_machine.specs.State.{Container, Side, Up, Finishing, Voiding, Kind, Creating, Making, Uploading, Copying, Removing, Cleaning, CleanupBegun, Publication, with_up, with_client, version_count, last_version}
use Rattle.bcv_machine.specs.Step.{StepsPublication}
use Rattle.bcv_machine.specs.VersionLaw.{Follows}

-- ---- moves

-- the side, but for what was deleted of the container
pub record IsSameBut (s m : Side) : Type 0 where
  pub client : m.client ≡ s.client
  pub versions : m.container.versions ≡ s.container.versions

-- the publication goes on: it publishes the same under the same id
pub record GoesOnAs (intended : Bool) (p q : Publication) : Type 0 where
  pub id : q.id ≡ p.id
  pub kind : q.kind ≡ p.kind
  pub is_intended : q.intended ≡ intended

-- the answer of a publication that was made
abbrev pub IsDone : Publication → ℕ → Reply → Type 0
IsDone p n r = (more : Bool) × (done_reply p p.kind n more ≡ r)

-- void is noted, or fails
abbrev pub Voids : Side → Up → Reply → Side → Type 0
Voids m u r t = (t ≡ with_client m (noted m u Voiding)) ⊎ NoteFails m u Voiding r t

-- the side with the publication's intent, and that with its version
abbrev pub intended_side : Side → Up → Publication → Side
intended_side s u p = with_intent p.intended s u p

abbrev pub appended_side : Side → Up → Publication → Version → Side
appended_side s u p v = with_version (intended_side s u p) p.kind v

-- what a step of a publication does, which number it publishes, and what is given back
pub data PublicationMove (s : Side) (u : Up) (p : Publication) (n : Option ℕ) (r : Reply) (t : Side) (rest : Option Publication) : Type 0 where
  Goes : (m : Side) (q : Publication) → IsSameBut s m → GoesOnAs p.intended p q → t ≡ with_up m u → n ≡ None → rest ≡ Some q → PublicationMove s u p n r t rest
  EndsPlainly : (m : Side) → IsSameBut s m → t ≡ with_up m u → n ≡ None → rest ≡ None → PublicationMove s u p n r t rest
  EndsVoided : (m : Side) → IsSameBut s m → Voids m u r t → n ≡ None → rest ≡ None → PublicationMove s u p n r t rest
  Unintended : NoteFails s u (intent_of p) r t → n ≡ None → rest ≡ None → PublicationMove s u p n r t rest
  Again : (q : Publication) → GoesOnAs true p q → t ≡ intended_side s u p → n ≡ None → rest ≡ Some q → PublicationMove s u p n r t rest
  Refused : Voids (intended_side s u p) u r t → n ≡ None → rest ≡ None → PublicationMove s u p n r t rest
  Unknown : t ≡ intended_side s u p → n ≡ None → rest ≡ None → PublicationMove s u p n r t rest
  Lost : (v : Version) → Follows (last_version s.container) v → t ≡ appended_side s u p v → n ≡ Some (version_count s.container + 1) → rest ≡ None → PublicationMove s u p n r t rest
  Made : (v : Version) → Follows (last_version s.container) v → IsDone p (version_count s.container + 1) r → t ≡ finished (appended_side s u p v) u (version_count s.container + 1) v
      → n ≡ Some (version_count s.container + 1) → rest ≡ None → PublicationMove s u p n r t rest
  Unfinished : (v : Version) (number : ℕ) → Follows (last_version s.container) v → NoteFails (appended_side s u p v) u (Finishing number) r t
      → n ≡ Some (version_count s.container + 1) → rest ≡ None → PublicationMove s u p n r t rest

-- ---- faults

same : (s : Side) → IsSameBut s s
same s = record { client = refl; versions = refl }

swept : (b : Option CleanupBegun) (c : Container) → (swept_by b c).versions ≡ c.versions
swept None c = refl
swept (Some b) c = refl

deleted : (p : Publication) (kind : Kind) (c : Container) → (deleted_by p kind c).versions ≡ c.versions
deleted p (Creating block retention) c = refl
deleted p (Making d page_size pages) c = refl
deleted p (Uploading d base commits) c = refl
deleted p (Copying a b) c = refl
deleted p (Removing a) c = refl
deleted p Cleaning c = swept p.begun c

requested_same : (s : Side) (p : Publication) (o : Outcome) → IsSameBut s (requested s p o)
requested_same s p o = record { client = refl; versions = after o }
  where
    after : (o : Outcome) → (after_request o p s.container).versions ≡ s.container.versions
    after outcome.Ok = deleted p p.kind s.container
    after outcome.Fail = refl
    after outcome.Lost = deleted p p.kind s.container

voids : (m : Side) (u : Up) (f r : Reply) (t : Side) → FaultEnds true m u f r t → Voids m u r t
voids m u f reply.DiskFault t h = inr h
voids m u f reply.Crashed t h = inr h
voids m u f _ t h = inl h.1

fault_ends : (s m : Side) (u : Up) (p : Publication) (i : Bool) (f r : Reply) (t : Side) (rest : Option Publication) → IsSameBut s m → FaultEnds i m u f r t → rest ≡ None → PublicationMove s u p None r t rest
fault_ends s m u p false f r t rest but h none = EndsPlainly m but h.1 refl none
fault_ends s m u p true f r t rest but h none = EndsVoided m but (voids m u f r t h) refl none

-- ---- the get and the middle

gets : (s : Side) (u : Up) (p : Publication) (o : Outcome) (r : Reply) (t : Side) (rest : Option Publication) → GetsManifest s u p o r t rest → PublicationMove s u p None r t rest
gets s u p outcome.Ok (reply.Working left) t rest h = Goes s (after_get s.container p left) (same s) (record { id = refl; kind = refl; is_intended = refl }) h.2 refl h.3
gets s u p outcome.Ok r t rest h = fault_ends s s u p p.intended h.0.0 r t rest (same s) h.0.2 h.1
gets s u p outcome.Fail r t rest h = fault_ends s s u p p.intended reply.StoreFault r t rest (same s) h.0 h.1
gets s u p outcome.Lost r t rest h = fault_ends s s u p p.intended reply.StoreFault r t rest (same s) h.0 h.1

goes : (s : Side) (u : Up) (p : Publication) (o : Outcome) (r : Reply) (t : Side) (rest : Option Publication) → GoesOn s u p o r t rest → PublicationMove s u p None r t rest
goes s u p outcome.Ok (reply.Working left) t rest h =
    Goes (requested s p outcome.Ok) (record p { left = left }) (requested_same s p outcome.Ok) (record { id = refl; kind = refl; is_intended = refl }) h.1 refl h.2
goes s u p o r t rest h = fault_ends s (requested s p o) u p p.intended h.0.0 r t rest (requested_same s p o) h.0.2 h.1

-- ---- the put

intent_fails : (s : Side) (u : Up) (p : Publication) (i : Bool) (r : Reply) (t : Side) (rest : Option Publication) → IntentFails i s u p r t → rest ≡ None → PublicationMove s u p None r t rest
intent_fails s u p true r t rest h none = absurd h
intent_fails s u p false r t rest h none = Unintended h refl none

refuses : (s : Side) (u : Up) (p : Publication) (read : ℕ) (r : Reply) (t : Side) (rest : Option Publication) → Refuses (intended_side s u p) u p read r t rest → PublicationMove s u p None r t rest
refuses s u p read (reply.Working left) t rest h = Again (tried_again p read) (record { id = refl; kind = refl; is_intended = refl }) h.2 refl h.3
refuses s u p read r t rest h = Refused (voids (intended_side s u p) u (last_refusal p.kind (p.refused ++ read ∷ [])) r t h.1) refl h.2

note_fails_at : (b : Bool) (s : Side) (u : Up) (p : Publication) (read : ℕ) (r : Reply) (t : Side) (rest : Option Publication) → NoteFailsAt b s u p read r t rest → PublicationMove s u p None r t rest
note_fails_at false s u p read r t rest h = intent_fails s u p p.intended r t rest h.0 h.1
note_fails_at true s u p read r t rest h = refuses s u p read r t rest h.1

puts_nothing : (b : Bool) (s : Side) (u : Up) (p : Publication) (read : ℕ) (r : Reply) (t : Side) (rest : Option Publication) → PutsNothing b s u p read r t rest → PublicationMove s u p None r t rest
puts_nothing b s u p read reply.JournalFull t rest h = note_fails_at false s u p read reply.JournalFull t rest h
puts_nothing b s u p read reply.DiskFault t rest h = note_fails_at (p.intended || b) s u p read reply.DiskFault t rest h
puts_nothing b s u p read reply.Crashed t rest h = note_fails_at (p.intended || b) s u p read reply.Crashed t rest h
puts_nothing b s u p read r t rest h = refuses s u p read r t rest h.1

put_fails : (s : Side) (u : Up) (p : Publication) (r : Reply) (t : Side) (rest : Option Publication) → PutFails s u p r t rest → PublicationMove s u p None r t rest
put_fails s u p (reply.Unknown id) t rest h = Unknown h.1 refl h.2
put_fails s u p r t rest h = intent_fails s u p p.intended r t rest h.0 h.1

loses_nothing : (s : Side) (u : Up) (p : Publication) (read : ℕ) (r : Reply) (t : Side) (rest : Option Publication) → PutLosesNothing s u p read r t rest → PublicationMove s u p None r t rest
loses_nothing s u p read (reply.Unknown id) t rest h = put_fails s u p (reply.Unknown id) t rest h.1
loses_nothing s u p read r t rest h = put_fails s u p r t rest h

-- the version made follows the last one
edited : (last : Version) (id : Id16) (now : ℕ) (e : Option edits.Edit) (v : Version) → option_map (λ (x : edits.Edit). edits.edited last x id now) e ≡ Some v → Follows (Some last) v
edited last id now None v h = absurd (cc)
edited last id now (Some e) v h = (id, now, e, cc)

follows : (c : Container) (id : Id16) (e : Option edits.Edit) (last : Option Version) (v : Version) → version_next c id e last ≡ Some v → Follows last v
follows c id e None v h = (id, c.moment, cc)
follows c id e (Some last) v h = edited last id c.moment e v h

made : (s : Side) (u : Up) (p : Publication) (v : Version) (r : Reply) (t : Side) (rest : Option Publication) → Follows (last_version s.container) v
    → Finishes (appended_side s u p v) u p (version_count s.container + 1) v r t → rest ≡ None → PublicationMove s u p (Some (version_count s.container + 1)) r t rest
made s u p v (reply.Done k) t rest f h none = Made v f (false, h.0) h.1 refl none
made s u p v (reply.Cleaned d more) t rest f h none = Made v f (more, h.0) h.1 refl none
made s u p v r t rest f h none = Unfinished v (version_count s.container + 1) f h refl none

stores : (s : Side) (u : Up) (p : Publication) (n : ℕ) (o : Option Version) (r : Reply) (t : Side) (rest : Option Publication) → version_made s.container p ≡ o → n ≡ version_count s.container + 1
    → Stores (intended_side s u p) u p n o r t → rest ≡ None → PublicationMove s u p (Some n) r t rest
stores s u p n None r t rest is next h none = absurd h
stores s u p n (Some v) r t rest is next h none =
    subst (λ (m : ℕ). PublicationMove s u p (Some m) r t rest) (sym next)
    (made s u p v r t rest (follows s.container p.id (edit_of s.container p.kind) (last_version s.container) v is) (subst (λ (m : ℕ). Finishes (appended_side s u p v) u p m v r t) next h) none)

appends : (s : Side) (u : Up) (p : Publication) (n : ℕ) (o : Option Version) (r : Reply) (t : Side) (rest : Option Publication) → version_made s.container p ≡ o → n ≡ version_count s.container + 1
    → Appends (intended_side s u p) p o t → rest ≡ None → PublicationMove s u p (Some n) r t rest
appends s u p n None r t rest is next h none = absurd h
appends s u p n (Some v) r t rest is next h none = Lost v (follows s.container p.id (edit_of s.container p.kind) (last_version s.container) v is) h (ap Some next) none

loses_answer : (s : Side) (u : Up) (p : Publication) (n : ℕ) (r : Reply) (t : Side) (rest : Option Publication) → n ≡ version_count s.container + 1 → PutLosesAnswer s u p r t rest → PublicationMove s u p (Some n) r t rest
loses_answer s u p n (reply.Unknown id) t rest next h = appends s u p n (version_made s.container p) (reply.Unknown id) t rest refl next h.1 h.2
loses_answer s u p n _ t rest next h = absurd h

puts : (b : Bool) (s : Side) (u : Up) (p : Publication) (read : ℕ) (o : Outcome) (n : Option ℕ) (r : Reply) (t : Side) (rest : Option Publication) → PutsManifest b s u p read o n r t rest → PublicationMove s u p n r t rest
puts b s u p read outcome.Ok (Some n) r t rest h = stores s u p n (version_made s.container p) r t rest refl h.0.1 h.1 h.2
puts b s u p read outcome.Ok None r t rest h = puts_nothing b s u p read r t rest h
puts b s u p read outcome.Fail (Some n) r t rest h = absurd h
puts b s u p read outcome.Fail None r t rest h = put_fails s u p r t rest h
puts b s u p read outcome.Lost (Some n) r t rest h = loses_answer s u p n r t rest h.0.1 h.1
puts b s u p read outcome.Lost None r t rest h = loses_nothing s u p read r t rest h

-- ---- the step

pub steps_publication : (read : Option ℕ) (left : ℕ) (s : Side) (u : Up) (p : Publication) (o : Outcome) (said : Said) (b : Bool) (t : Side) (rest : Option Publication)
    → StepsPublication read left s u p o said b t rest → PublicationMove s u p said.published said.reply t rest
steps_publication None left s u p o said b t rest h = subst (λ (n : Option ℕ). PublicationMove s u p n said.reply t rest) (sym h.0) (gets s u p o said.reply t rest h.1)
steps_publication (Some n) zero s u p o said b t rest h = absurd h
steps_publication (Some n) (suc zero) s u p o said b t rest h = puts b s u p n o said.published said.reply t rest h
steps_publication (Some n) (suc (suc left)) s u p o said b t rest h = subst (λ (n : Option ℕ). PublicationMove s u p n said.reply t rest) (sym h.0) (goes s u p o said.reply t rest h.1)
