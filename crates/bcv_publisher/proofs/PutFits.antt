-- A client fits the log after the put of its task, with and without the note of its end.
use Rattle.std.proofs.Common.{◌≡◌, ◌∙◌, ℕ, true, false, List, ◌∷◌, ◌++◌, length, Option, Some, None, inl, refl, sym, ap, subst}
use Rattle.std.proofs.lemmas.Option.{same_Some}
use Rattle.bcv_base.specs.declared.id.Id16.{Id16}
use Rattle.bcv_base.specs.declared.log.Entry.{Entry}
use Rattle.bcv_base.specs.declared.log.Entry.TheVariants as entry
use Rattle.bcv_base.specs.declared.manifest.Manifest.{Manifest}
use Rattle.bcv_base.specs.declared.object.ObjName.TheVariants as object
use Rattle.bcv_base.specs.declared.seen.Latest.{Latest}
use Rattle.bcv_base.specs.declared.seen.Seen.{Seen}
use Rattle.bcv_base.specs.History.{Item, Published, as_read, history_of, last_of}
use Rattle.bcv_base.specs.HistoryLaws.{history_of-more}
use Rattle.bcv_base.specs.Image.{Writes}
use Rattle.bcv_base.specs.ManifestRules.{MeetsRules}
use Rattle.bcv_cache.specs.Entry as cache
use Rattle.bcv_dbmap.specs.declared.plan.EditPlan.{EditPlan}
use Rattle.bcv_dbmap.specs.Applied.{applied, first_manifest}
use Rattle.bcv_dbmap.specs.Growth.{AreLawful}
use Rattle.bcv_dbmap.specs.ManifestLaws.{publication}
use Rattle.bcv_dbmap.specs.Outlived.{IsPublished}
use Rattle.bcv_dbmap.specs.Past.{last_own}
use Rattle.bcv_dbmap.specs.Sound.{Sound}
use Rattle.bcv_dbmap.proofs.ManifestLaws.{applied_is_last_own, first_is_last_own}
use Rattle.bcv_dbmap.proofs.OthersLaws.{others_keep_sound}
use Rattle.bcv_model.specs.declared.kept.PendingPub.{PendingPub}
use Rattle.bcv_model.specs.declared.note.Note.TheVariants as note
use Rattle.bcv_model.specs.NoteRules.{IsVersionNumber}
use Rattle.bcv_model.specs.Notes.{after_note}
use Rattle.bcv_publish.specs.ManifestAppend.{IsAppended}
use Rattle.bcv_publish.specs.ManifestRead.{is_other}
use Rattle.bcv_publish.specs.State as publish
use Rattle.bcv_tasks.specs.declared.publish_task.PublishTask.{PublishTask}
use Rattle.bcv_tasks.specs.declared.publish_task.PublishTask.TheVariants as task
use Rattle.bcv_tasks.specs.State.{IsRunning, brought, id_of, made_over, pending_of, writer_of}
use Rattle.bcv_tasks.specs.TaskPut.{Appends}
use Rattle.bcv_upload.specs.State as upload
use Rattle.bcv_clientstate.specs.Fits.{Fits, FitsSeen}
use Rattle.bcv_clientstate.specs.KnownLaws.{known_of}
use Rattle.bcv_clientstate.specs.PartRefusals.{runs_publication}
use Rattle.bcv_clientstate.specs.Parts.{Parts, mine_of}
use Rattle.bcv_clientstate.proofs.Growth.{grows}
use Rattle.bcv_clientlaws.specs.OtherParts.{FitsKept}
use Rattle.bcv_clientlaws.proofs.Appended.{seen_later}
use Rattle.bcv_clientlaws.proofs.ManifestsRead.{rules_of, seen_is_seen_in}
use Rattle.bcv_clientlaws.proofs.OtherParts.{includes_all, kept_fits_quietly, tasks_fit}
use Rattle.bcv_clientlaws.proofs.TasksPut.{put_fits}
use Rattle.bcv_ledger.specs.FitsLedger.{FitsLedger}
use Rattle.bcv_ledger.proofs.FitsLedger.{made_keeps_fit, void_keeps_fit}
use Rattle.bcv_publication.specs.TaskSides.{MayStep, job_of, with_job}
use Rattle.bcv_publisher.proofs.Grown.{follows_seen, ledger_of_fits}
use Rattle.bcv_publisher.proofs.ResolveEnds.{uploaded_at}
use Rattle.bcv_publisher.proofs.TaskPuts.{may_put}

-- ---- what is published is its writer's last publication

edit_is_last : (past : List Item) (q : publish.State) (plan : EditPlan) (moment : ℕ) (o : Option Latest) (brings : Manifest) → made_over q plan moment o ≡ Some brings
    → last_own (Published brings ∷ past) q.writer ≡ Some (publication q.id brings.number)
edit_is_last past q plan moment None brings made = absurd (let e : None ≡ Some brings = made in cc)
edit_is_last past q plan moment (Some read) brings made =
    let first : Manifest = applied read.manifest plan q.id q.writer moment in
    subst (λ (m : Manifest). last_own (Published m ∷ past) q.writer ≡ Some (publication q.id m.number)) (same_Some first brings made)
    (applied_is_last_own past read.manifest plan q.id q.writer moment)

brought_is_last : (past : List Item) (t : PublishTask) (moment : ℕ) (brings : Manifest) → IsRunning t → brought t moment ≡ Some brings
    → last_own (Published brings ∷ past) (writer_of t) ≡ Some (publication (id_of t) brings.number)
brought_is_last past (task.Create c) moment brings run made =
    let first : Manifest = first_manifest c.block c.retention c.id c.writer moment in
    subst (λ (m : Manifest). last_own (Published m ∷ past) c.writer ≡ Some (publication c.id m.number)) (same_Some first brings made)
    (first_is_last_own past c.block c.retention c.id c.writer moment)
brought_is_last past (task.Copy id s) moment brings run made =
    subst (λ (i : Id16). last_own (Published brings ∷ past) s.publish.writer ≡ Some (publication i brings.number)) (sym run.0)
    (edit_is_last past s.publish s.edit moment s.publish.latest brings made)
brought_is_last past (task.Upload id s) moment brings run made =
    subst (λ (i : Id16). last_own (Published brings ∷ past) s.publish.writer ≡ Some (publication i brings.number)) (sym run.0)
    (edit_is_last past s.publish (upload.plan_of s) moment s.publish.latest brings made)
brought_is_last past (task.Cleanup id s) moment brings run made =
    subst (λ (i : Id16). last_own (Published brings ∷ past) s.publish.writer ≡ Some (publication i brings.number)) (sym run.0)
    (edit_is_last past s.publish s.edit moment s.publish.latest brings made)

published_is : (log own : List Entry) (m : Manifest) (etag : ℕ) → IsAppended own m etag → history_of (log ++ own) ≡ Published m ∷ history_of log
published_is log own m etag put =
    ap (λ (es : List Entry). history_of (log ++ es)) put.1 ∙ history_of-more log (entry.Put true object.Manifest put.0 etag) ∙ ap (λ r. as_read r ∷ history_of log) put.2

-- it has the block size that was seen of the log before
pub made_is_alike : (log others own after : List Entry) (s : Seen) (m : Manifest) (n : ℕ) → after ≡ (log ++ others) ++ own → Sound (history_of after) → FitsSeen (history_of log) s → Appends own m (Some n)
    → is_other s.block m.block ≡ false
made_is_alike log others own after s m n grown sound is_seen appends =
    let past_is : history_of after ≡ Published m ∷ history_of (log ++ others) = ap history_of grown ∙ published_is (log ++ others) own m appends.1.0 appends.1.1 in
    let later : FitsSeen (history_of after) s =
    subst (λ (now : List Entry). FitsSeen (history_of now) s) (sym grown) (seen_later (log ++ others) own s (seen_later log others s is_seen)) in
    (follows_seen (history_of after) s m sound (ap last_of past_is) (seen_is_seen_in (history_of after) s sound later)).1

-- ---- a client around the put of its task

module _ (log others own after : List Entry) (p : Parts) (entries : List cache.Entry) (n : ℕ) (view : List Writes) (t : PublishTask) (moment : ℕ) (may : MayStep log p entries n view t)
    (quiet : runs_publication p ≡ false) (lawful : AreLawful (mine_of (with_job n (job_of view t) p)) (history_of log) others) where
  abbrev x : PendingPub
  x = pending_of (length view) t

  -- the client whose intent stands
  abbrev pub waits : Parts
  waits = record p { kept = record p.kept { pending = Some x } }

  without : (now : List Entry) → Fits (with_job n (job_of view t) p) entries now → Fits p entries now
  without now fits = tasks_fit (mine_of (with_job n (job_of view t) p)) now (with_job n (job_of view t) p) entries p.tasks fits fits.tasks.1 fits.staged.1

  -- without the task, before the put
  pub alone_fits : Fits p entries log
  alone_fits = without log may.fits

  pub grown_may : MayStep (log ++ others) p entries n view t
  grown_may = record {
    sound = others_keep_sound (mine_of (with_job n (job_of view t) p)) log others may.sound lawful;
    fits = grows log others (with_job n (job_of view t) p) entries may.sound lawful may.fits;
    quiet = may.quiet;
    running = may.running;
    writer = may.writer;
    waits = may.waits;
    count = may.count;
  }

  -- with its intent
  pub waits_fit : Fits waits entries (log ++ others)
  waits_fit =
      let fits : Fits p entries (log ++ others) = without (log ++ others) grown_may.fits in
      let kept : FitsKept (log ++ others) p.id (record p.kept { pending = Some x }) p.known = record {
        named = fits.named;
        ordered = fits.ordered;
        locals = fits.locals;
        are_known = record { order = fits.known_order; apart = fits.known_apart; fits = fits.known };
        pending = inl (may_put (mine_of (with_job n (job_of view t) p)) (log ++ others) p entries n view t (includes_all (mine_of (with_job n (job_of view t) p))) grown_may).fresh;
      } in
      kept_fits_quietly (log ++ others) p entries (record p.kept { pending = Some x }) p.known fits kept quiet

  -- ---- after it

  module _ (brings : Manifest) (published : Option ℕ) (grown : after ≡ (log ++ others) ++ own) (sound : Sound (history_of after)) (made : brought t moment ≡ Some brings)
      (appends : Appends own brings published) where
    pub put_leaves_fit : Fits waits entries after
    put_leaves_fit =
        subst (λ (now : List Entry). Fits waits entries now) (sym grown)
        (put_fits (log ++ others) own waits entries (length view) moment t brings published waits_fit quiet may.running may.writer refl made appends)

    pub void_ledger : FitsLedger (history_of after) p.id (after_note waits.kept (note.Void x.id)) p.known
    void_ledger = void_keeps_fit (history_of after) p.id waits.kept p.known x.id (ledger_of_fits after waits entries put_leaves_fit)

    module _ (k : ℕ) (is : published ≡ Some k) where
      put_is : (k ≡ brings.number) × ((etag : ℕ) × IsAppended own brings etag)
      put_is = subst (λ (o : Option ℕ). Appends own brings o) is appends

      past_is : history_of after ≡ Published brings ∷ history_of (log ++ others)
      past_is = ap history_of grown ∙ published_is (log ++ others) own brings put_is.1.0 put_is.1.1

      pub is_there : IsPublished brings (history_of after)
      is_there = subst (λ (past : List Item). IsPublished brings past) (sym past_is) (inl refl)

      pub is_number : IsVersionNumber k
      is_number =
          let rules : MeetsRules brings = rules_of (history_of after) brings sound.reads is_there in
          subst (λ (j : ℕ). IsVersionNumber j) (sym put_is.0) (record { least = rules.least; most = rules.number })

      is_last : last_own (history_of after) p.id ≡ Some (publication x.id k)
      is_last =
          ap (λ (past : List Item). last_own past p.id) past_is
          ∙ subst (λ (w : Id16). last_own (Published brings ∷ history_of (log ++ others)) w ≡ Some (publication x.id brings.number)) may.writer
          (brought_is_last (history_of (log ++ others)) t moment brings may.running made)
          ∙ ap (λ (j : ℕ). Some (publication x.id j)) (sym put_is.0)

      pub done_ledger : FitsLedger (history_of after) p.id (after_note waits.kept (note.Done x.id k)) (known_of (after_note waits.kept (note.Done x.id k)) brings)
      done_ledger =
          made_keeps_fit (history_of after) p.id waits.kept p.known x.id k brings sound is_there (ledger_of_fits after waits entries put_leaves_fit)
          (uploaded_at (history_of after) p.id x k sound is_last put_leaves_fit.pending)
