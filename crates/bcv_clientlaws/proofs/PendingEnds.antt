-- The end of a pending publication, while no task publishes: its notes, and the tasks as they are seen.
use Rattle.std.proofs.Common.{◌≡◌, ◌∙◌, ℕ, true, false, List, [], ◌∷◌, map, Option, Some, refl, sym, ap, subst}
use Rattle.std.specs.Prelude.{IsSome}
use Rattle.std.specs.List.{list_any}
use Rattle.std.proofs.lemmas.Bool.{or_parts}
use Rattle.bcv_base.specs.declared.id.Id16.{Id16}
use Rattle.bcv_base.specs.declared.log.Entry.{Entry}
use Rattle.bcv_base.specs.History.{history_of}
use Rattle.bcv_base.specs.Ids.{IsId}
use Rattle.bcv_cache.specs.Entry as cache
use Rattle.bcv_dbmap.specs.Sound.{IsSoundLog}
use Rattle.bcv_machine.specs.State as m
use Rattle.bcv_model.specs.declared.kept.PendingPub.{PendingPub}
use Rattle.bcv_model.specs.declared.note.Note.TheVariants as note
use Rattle.bcv_model.specs.NoteRules.{IsPendingAs, IsVersionNumber, MayEnd}
use Rattle.bcv_clientstate.specs.Fits.{Fits}
use Rattle.bcv_clientstate.specs.NoteSides.{MayNote}
use Rattle.bcv_clientstate.specs.PartRefusals.{is_publishing}
use Rattle.bcv_clientstate.specs.Parts.{Job, Fetching, Polling, Creating, Copying, Uploading, Cleaning, Resolving, Task, Parts}
use Rattle.bcv_clientstate.specs.SeenClient.{seen_job, seen_task}

-- ---- tasks that publish nothing are seen alike, whatever is pending

same_job : (a b : Option PendingPub) (j : Job) → is_publishing j ≡ false → seen_job a j ≡ seen_job b j
same_job a b (Fetching access txn page) quiet = refl
same_job a b Polling quiet = refl
same_job a b (Creating block retention id) quiet = absurd (let both : true ≡ false = quiet in cc)
same_job a b (Copying s) quiet = absurd (let both : true ≡ false = quiet in cc)
same_job a b (Uploading s view) quiet = absurd (let both : true ≡ false = quiet in cc)
same_job a b (Cleaning s) quiet = absurd (let both : true ≡ false = quiet in cc)
same_job a b Resolving quiet = refl

pub same_tasks : (a b : Option PendingPub) (ts : List Task) → list_any (λ (t : Task). is_publishing t.job) ts ≡ false → map (seen_task a) ts ≡ map (seen_task b) ts
same_tasks a b [] quiet = refl
same_tasks a b (t ∷ ts) quiet =
    let q = or_parts (is_publishing t.job) (list_any (λ (x : Task). is_publishing x.job) ts) quiet in
    ap (λ (j : m.Job). record { number = t.number; job = j } ∷ map (seen_task a) ts) (same_job a b t.job q.0)
    ∙ ap (λ (l : List m.Task). seen_task b t ∷ l) (same_tasks a b ts q.1)

-- ---- the notes of the end may stand

module _ (log : List Entry) (entries : List cache.Entry) (p : Parts) (x : PendingPub) (sound : IsSoundLog log) (fits : Fits p entries log)
    (pending : p.kept.pending ≡ Some x) (is_id : IsId x.id) where
  may_end : MayEnd p.kept x.id
  may_end = record {
    named = subst (λ (o : Option Id16). IsSome o) (sym fits.named) refl;
    is_id = is_id;
    waits = subst (λ (o : Option PendingPub). IsPendingAs o x.id) (sym pending) refl;
  }

  pub may_void : MayNote (history_of log) p (note.Void x.id) m.Voiding
  may_void = record { sound = sound; ordered = fits.ordered; locals = fits.locals; may = may_end; fits = tt; is = refl }

  pub may_finish : (n : ℕ) → IsVersionNumber n → MayNote (history_of log) p (note.Done x.id n) (m.Finishing n)
  may_finish n is = record { sound = sound; ordered = fits.ordered; locals = fits.locals; may = (may_end, is); fits = tt; is = refl }
