-- The put of a publication, as that of the task that it is of.
use Rattle.std.proofs.Common.{◌≡◌, ◌∙◌, inl, inr, ℕ, Bool, true, false, List, [], ◌∷◌, ◌++◌, append-nil, Option, Some, None, MatchOption, refl, sym, ap, subst}
use Rattle.bcv_base.specs.declared.id.Id16.{Id16}
use Rattle.bcv_base.specs.declared.log.Entry.{Entry}
use Rattle.bcv_base.specs.declared.manifest.Manifest.{Manifest}
use Rattle.bcv_base.specs.declared.outcome.Outcome.{Outcome}
use Rattle.bcv_base.specs.declared.outcome.Outcome.TheVariants as outcome
use Rattle.bcv_base.specs.declared.seen.Latest.{Latest}
use Rattle.bcv_base.specs.History.{history_of, last_of}
use Rattle.bcv_base.specs.Image.{Writes}
use Rattle.bcv_base.specs.ManifestRules.{Ascends, db_name}
use Rattle.bcv_dbmap.specs.declared.plan.EditPlan.{EditPlan}
use Rattle.bcv_dbmap.specs.Kept.{IsKept}
use Rattle.bcv_dbmap.specs.RequestGrowth.{RequestGrowth}
use Rattle.bcv_dbmap.specs.Sound.{Sound}
use Rattle.bcv_dbmap.proofs.Entries.{ascends_after}
use Rattle.bcv_publish.specs.declared.work.PutEnd.{PutEnd}
use Rattle.bcv_publish.specs.declared.work.PutEnd.TheVariants as put
use Rattle.bcv_publish.specs.ManifestAppend.{IsAppended}
use Rattle.bcv_publish.specs.ManifestPut.{FailsSound, ManifestPutSound, SoundPutEnds, made, refused_once}
use Rattle.bcv_publish.specs.ManifestPut as publishing
use Rattle.bcv_publish.specs.State as publish
use Rattle.bcv_store.specs.StoreShown.{StoreTold, StoreShown}
use Rattle.bcv_tasks.specs.declared.publish_task.PublishTask.{PublishTask}
use Rattle.bcv_tasks.specs.declared.put_answer.PutAnswer.{PutAnswer}
use Rattle.bcv_tasks.specs.declared.put_answer.PutAnswer.TheVariants as answer
use Rattle.bcv_tasks.specs.State.{Owns, brought, latest_of, names_of, publish_of, with_publish}
use Rattle.bcv_tasks.specs.TaskPut.{Appends, AnswersPut, FitsAfterPut, PutLeaves, PutTakes, PutsKeepNames, TaskPuts, answer_of, number_after}
use Rattle.bcv_tasks.proofs.Owned.{latest_with, names_with, owned_stays, owns_with}

-- ---- answers

pub was_refused : (e : PutEnd) → answer_of e ≡ answer.Refused → e ≡ put.Refused
was_refused (put.Published n) is = absurd (cc)
was_refused put.Refused is = refl
was_refused (put.Contended numbers) is = absurd (cc)
was_refused put.Unknown is = absurd (cc)
was_refused put.NoMemory is = absurd (cc)

pub was_unknown : (e : PutEnd) → answer_of e ≡ answer.Unknown → e ≡ put.Unknown
was_unknown (put.Published n) is = absurd (cc)
was_unknown put.Refused is = absurd (cc)
was_unknown (put.Contended numbers) is = absurd (cc)
was_unknown put.Unknown is = refl
was_unknown put.NoMemory is = absurd (cc)

pub takes : (store : StoreTold) (old new : StoreShown) (e : PutEnd) → publishing.PutTakes store old new e → PutTakes store old new (answer_of e)
takes store old new (put.Published n) h = h
takes store old new put.Refused h = h
takes store old new (put.Contended numbers) h = h
takes store old new put.Unknown h = h
takes store old new put.NoMemory h = h

-- the publication was made
abbrev pub is_made : PutEnd → Bool
is_made (put.Published n) = true
is_made _ = false

-- what stands under an option that has a manifest
pub record Kept (P : Latest → Type 0) (o : Option Latest) : Type 0 where
  pub read : Latest
  pub is : o ≡ Some read
  pub fact : P read

pub kept_of : (P : Latest → Type 0) (o : Option Latest) → MatchOption o ⊥ P → Kept P o
kept_of P None h = absurd h
kept_of P (Some l) h = record { read = l; is = refl; fact = h }

-- ---- what a put leaves

-- a task that was not published, over the manifest that was read, which publishes what its edit makes of it
pub record IsOver (t : PublishTask) (plan : EditPlan) (moment : ℕ) (read : Latest) : Type 0 where
  pub unmade : with_publish t (publish_of t) false ≡ t
  pub kept : latest_of t ≡ Some read
  pub brings : brought t moment ≡ Some (made (publish_of t) read plan moment)
  pub order : Ascends db_name read.manifest.dbs

pub leaves : (moment : ℕ) (t : PublishTask) (plan : EditPlan) (read : Latest) (e : PutEnd) (p : publish.State) → IsOver t plan moment read
    → publishing.PutLeaves plan moment (publish_of t) read e p → PutLeaves moment t (answer_of e) (with_publish t p (is_made e))
leaves moment t plan read (put.Published n) p over h = record {
  manifest = made (publish_of t) read plan moment;
  etag = h.0;
  brings = over.brings;
  number = h.1;
  next = h.1 ∙ ap number_after (sym over.kept);
  order = ascends_after plan (publish_of t).id read.manifest.dbs over.order;
  becomes = ap (λ (q : publish.State). with_publish t q true) h.2;
}
leaves moment t plan read put.Refused p over h = (
  h.0,
  ((publish_of t).refused ++ read.manifest.number ∷ [], record { read = read; kept = over.kept; all = refl; becomes = ap (λ (q : publish.State). with_publish t q false) h.1 }),
)
leaves moment t plan read (put.Contended numbers) p over h = (
  h.0,
  h.2,
  record { read = read; kept = over.kept; all = h.1; becomes = ap (λ (q : publish.State). with_publish t q false) h.3 },
)
leaves moment t plan read put.Unknown p over h = ap (λ (q : publish.State). with_publish t q false) h ∙ over.unmade
leaves moment t plan read put.NoMemory p over h = ap (λ (q : publish.State). with_publish t q false) h ∙ over.unmade

pub puts_keep_names : PutsKeepNames
puts_keep_names moment old new (answer.Published n) h = ap names_of h.becomes ∙ names_with old _ true
puts_keep_names moment old new answer.Refused h = ap names_of h.1.1.becomes ∙ names_with old _ false
puts_keep_names moment old new (answer.Contended numbers) h = ap names_of h.2.becomes ∙ names_with old _ false
puts_keep_names moment old new answer.Exists h = ap names_of h.1
puts_keep_names moment old new answer.Unknown h = ap names_of h
puts_keep_names moment old new answer.NoMemory h = ap names_of h

-- ---- over a sound log

-- what was published, and which answer comes of it
pub record Ended (result : PutAnswer) (o : Outcome) (own : List Entry) (m : Manifest) (last : Option Manifest) (read : Option Latest) : Type 0 where
  pub published : Option ℕ
  pub appends : Appends own m published
  pub answers : AnswersPut result o published last read

failed : (o : Outcome) (own : List Entry) (last : Manifest) (read : Latest) (m : Manifest) → FailsSound o own last read m
    → Ended answer.Unknown o own m (Some last) (Some read)
failed outcome.Ok own last read m h = absurd h
failed outcome.Fail own last read m h = record { published = None; appends = h; answers = tt }
failed outcome.Lost own last read m (inl h) = record { published = Some m.number; appends = (refl, h.1); answers = ap Some h.0 }
failed outcome.Lost own last read m (inr h) = record { published = None; appends = h.1; answers = h.0 }

-- the number that is answered is the manifest's
abbrev pub IsNumbered : PutEnd → Manifest → Type 0
IsNumbered (put.Published n) m = n ≡ m.number
IsNumbered _ m = Unit {0}

turned_down : (result : PutAnswer) (o : Outcome) (own : List Entry) (last : Manifest) (read : Latest) (m : Manifest) → o ≡ outcome.Ok → own ≡ []
    → AnswersPut result outcome.Ok None (Some last) (Some read) → Ended result o own m (Some last) (Some read)
turned_down result o own last read m is none answers =
    record { published = None; appends = none; answers = subst (λ (x : Outcome). AnswersPut result x None (Some last) (Some read)) (sym is) answers }

pub ended : (o : Outcome) (own : List Entry) (last : Manifest) (read : Latest) (m : Manifest) (e : PutEnd) (kept : Option Latest) → IsNumbered e m → SoundPutEnds o own last read m e kept
    → Ended (answer_of e) o own m (Some last) (Some read)
ended o own last read m (put.Published n) kept number h = record {
  published = Some n;
  appends = (number, (h.0, h.3));
  answers = subst (λ (x : Outcome). AnswersPut (answer.Published n) x (Some n) (Some last) (Some read)) (sym h.1) (refl, ap Some h.2);
}
ended o own last read m put.Refused kept number h = turned_down answer.Refused o own last read m h.0 h.2 h.1
ended o own last read m (put.Contended numbers) kept number h = turned_down (answer.Contended numbers) o own last read m h.0 h.2 h.1
ended o own last read m put.Unknown kept number h = failed o own last read m h
ended o own last read m put.NoMemory kept number h = record { published = None; appends = h; answers = tt }

-- the number that a put answers is that of the manifest that it brings
pub numbered : (plan : EditPlan) (moment : ℕ) (p : publish.State) (read : Latest) (e : PutEnd) (q : publish.State) → publishing.PutLeaves plan moment p read e q → IsNumbered e (made p read plan moment)
numbered plan moment p read (put.Published n) q h = h.1
numbered plan moment p read put.Refused q h = tt
numbered plan moment p read (put.Contended numbers) q h = tt
numbered plan moment p read put.Unknown q h = tt
numbered plan moment p read put.NoMemory q h = tt

-- what was published is in the log
pub appended_is_kept : (before own after : List Entry) (m : Manifest) (etag : ℕ) → after ≡ before ++ own → IsAppended own m etag → IsKept after (record { manifest = m; etag = etag })
appended_is_kept before own after m etag grown is = record {
  own = true;
  bytes = is.0;
  front = before;
  rest = [];
  put = grown ∙ ap (λ (es : List Entry). before ++ es) is.1;
  read = is.2;
}

pub same_log : (log own after : List Entry) → after ≡ log ++ own → own ≡ [] → log ≡ after
same_log log own after grown none = sym (grown ∙ ap (λ (es : List Entry). log ++ es) none ∙ append-nil log)

-- without an own entry, what was put before stays
pub still_owned : (alone : Type 0) (mine : List Id16) (before after : List Entry) (view : List Writes) (t : PublishTask) (p : publish.State) (b : Bool) (growth : RequestGrowth alone mine before after) → growth.own ≡ []
    → Sound (history_of before) → Owns mine before view t → Owns mine after view (with_publish t p b)
still_owned alone mine before after view t p b growth none sound has =
    owns_with mine after view t p b
    (subst (λ (l : List Entry). Owns mine l view t) (same_log (before ++ growth.others) growth.own after growth.grown none)
    (owned_stays mine before growth.others view t sound growth.lawful has))

module _ (store : StoreTold) (mine : List Id16) (old new : StoreShown) (view : List Writes) (t : PublishTask) (plan : EditPlan) (moment : ℕ) (read : Latest) (e : PutEnd) (p : publish.State)
    (over : IsOver t plan moment read) (left : publishing.PutLeaves plan moment (publish_of t) read e p)
    (h : ManifestPutSound store mine old new (publish_of t) read plan moment e p) (sound : Sound (history_of old.log)) (owns : Owns mine old.log view t) where
  fits : (e : PutEnd) → SoundPutEnds h.outcome h.growth.own h.last read (made (publish_of t) read plan moment) e p.latest
      → FitsAfterPut (answer_of e) mine new.log view (with_publish t p (is_made e))
  fits (put.Published n) ends =
      subst (λ (o : Option Latest). MatchOption o ⊥ (IsKept new.log)) (sym (latest_with t p true ∙ ends.4))
      (appended_is_kept (old.log ++ h.growth.others) h.growth.own new.log (made (publish_of t) read plan moment) ends.0 h.growth.grown ends.3)
  fits put.Refused ends = still_owned store.alone mine old.log new.log view t p false h.growth ends.2 sound owns
  fits (put.Contended numbers) ends = tt
  fits put.Unknown ends = tt
  fits put.NoMemory ends = tt

  pub task_puts : TaskPuts store mine old new view t moment (answer_of e) (with_publish t p (is_made e))
  task_puts =
      let end = ended h.outcome h.growth.own h.last read (made (publish_of t) read plan moment) e p.latest (numbered plan moment (publish_of t) read e p left) h.ends in
      record {
        growth = h.growth;
        outcome = h.outcome;
        next = h.next;
        manifest = made (publish_of t) read plan moment;
        brings = over.brings;
        published = end.published;
        appends = end.appends;
        answers =
            subst (λ (o : Option Latest). AnswersPut (answer_of e) h.outcome end.published (last_of (history_of (old.log ++ h.growth.others))) o) (sym over.kept)
            (subst (λ (o : Option Manifest). AnswersPut (answer_of e) h.outcome end.published o (Some read)) (sym h.is_last) end.answers);
        fits = fits e h.ends;
      }
