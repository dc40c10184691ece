-- A publishing task at its put: signed, refused, and what it publishes, by its kind.
use Rattle.std.proofs.Common.{◌≡◌, ◌∙◌, ℕ, true, List, [], ◌∷◌, ◌++◌, Option, Some, None, IfSome, MatchOption, inr, refl, sym, subst}
use Rattle.std.proofs.lemmas.Option.{same_Some}
use Rattle.std.specs.List.{AllByRecursion}
use Rattle.bcv_base.specs.declared.id.Id16.{Id16}
use Rattle.bcv_base.specs.declared.log.Entry.{Entry}
use Rattle.bcv_base.specs.declared.manifest.Manifest.{Manifest}
use Rattle.bcv_base.specs.declared.seen.Latest.{Latest}
use Rattle.bcv_base.specs.declared.seen.Seen.{Seen}
use Rattle.bcv_base.specs.Ids.{IsId}
use Rattle.bcv_base.specs.Image.{Writes}
use Rattle.bcv_base.specs.ManifestRules.{MeetsEntryRules, is_block_size}
use Rattle.bcv_cleanup.specs.State as cleanup
use Rattle.bcv_clientlaws.specs.Forms.{PendingInForm}
use Rattle.bcv_clientstate.specs.Fits.{FitsJob}
use Rattle.bcv_databases.specs.Catalog.{Catalog}
use Rattle.bcv_dbcopy.proofs.Tasks.{any_ready as copy_ready}
use Rattle.bcv_dbmap.specs.declared.plan.EditPlan.{EditPlan}
use Rattle.bcv_dbmap.specs.Applied.{applied, first_manifest, made_entry}
use Rattle.bcv_dbmap.proofs.Entries.{all_after}
use Rattle.bcv_dbmap.proofs.RulesLaws.{made_fits}
use Rattle.bcv_model.specs.declared.kept.Kept.{Kept}
use Rattle.bcv_model.specs.declared.kept.PendingPub.{PendingPub}
use Rattle.bcv_publication.specs.TaskSides.{job_of}
use Rattle.bcv_publish.specs.ManifestPut.{IsReady}
use Rattle.bcv_publish.specs.State as publish
use Rattle.bcv_tasks.specs.declared.publish_task.PublishTask.{PublishTask}
use Rattle.bcv_tasks.specs.declared.publish_task.PublishTask.TheVariants as task
use Rattle.bcv_tasks.specs.State.{IsRunning, brought, id_of, is_ready, latest_of, left_of, made_over, pending_of, refused_of, writer_of}
use Rattle.bcv_tasks.specs.TaskPut.{with_refused}
use Rattle.bcv_upload.proofs.Tasks.{any_ready as upload_ready}
use Rattle.bcv_upload.specs.State as upload
use Rattle.bcv_client.specs.ClientForm.{PendingFor, PublishInForm, TriesAgain, ViewInForm}
use Rattle.bcv_client.specs.PublicationPut.{signed}

-- ---- a task that publishes in the client's name

pub signed_pending : (w : Id16) (taken : ℕ) (t : PublishTask) → pending_of taken (signed w t) ≡ pending_of taken t
signed_pending w taken (task.Create c) = refl
signed_pending w taken (task.Copy id s) = refl
signed_pending w taken (task.Upload id s) = refl
signed_pending w taken (task.Cleanup id s) = refl

pub signed_ready : (w : Id16) (t : PublishTask) → is_ready (signed w t) ≡ is_ready t
signed_ready w (task.Create c) = refl
signed_ready w (task.Copy id s) = refl
signed_ready w (task.Upload id s) = refl
signed_ready w (task.Cleanup id s) = refl

pub signed_id : (w : Id16) (t : PublishTask) → id_of (signed w t) ≡ id_of t
signed_id w (task.Create c) = refl
signed_id w (task.Copy id s) = refl
signed_id w (task.Upload id s) = refl
signed_id w (task.Cleanup id s) = refl

pub signed_form : (w : Id16) (seen : Seen) (c : Catalog) (set taken : ℕ) (t : PublishTask) → PublishInForm seen c set taken t → PublishInForm seen c set taken (signed w t)
signed_form w seen c set taken (task.Create x) form =
    record { running = record { size = form.running.size; waits = form.running.waits }; waits = form.waits; again = tt; upload = tt; view = tt }
signed_form w seen c set taken (task.Copy id s) form = form
signed_form w seen c set taken (task.Upload id s) form = form
signed_form w seen c set taken (task.Cleanup id s) form = form

pub signed_writer : (mine : List Id16) (w : Id16) (k : Kept) (log : List Entry) (view : List Writes) (t : PublishTask) → FitsJob mine w k log (job_of view t) → writer_of (signed w t) ≡ w
signed_writer mine w k log view (task.Create c) fits = refl
signed_writer mine w k log view (task.Copy id s) fits = fits.1.same_writer
signed_writer mine w k log view (task.Upload id s) fits = fits.1.same_writer
signed_writer mine w k log view (task.Cleanup id s) fits = fits.1.same_writer

-- ---- a task whose put was refused

pub refused_pending : (taken : ℕ) (t : PublishTask) (read : Latest) → pending_of taken (with_refused t read) ≡ pending_of taken t
refused_pending taken (task.Create c) read = refl
refused_pending taken (task.Copy id s) read = refl
refused_pending taken (task.Upload id s) read = refl
refused_pending taken (task.Cleanup id s) read = refl

refused_latest : (t : PublishTask) (read : Latest) → latest_of (with_refused t read) ≡ None
refused_latest (task.Create c) read = refl
refused_latest (task.Copy id s) read = refl
refused_latest (task.Upload id s) read = refl
refused_latest (task.Cleanup id s) read = refl

refused_numbers : (t : PublishTask) (read : Latest) → IsRunning t → latest_of t ≡ Some read → refused_of (with_refused t read) ≡ refused_of t ++ read.manifest.number ∷ []
refused_numbers (task.Create c) read running kept = absurd (let both : None ≡ Some read = sym running.waits ∙ kept in cc)
refused_numbers (task.Copy id s) read running kept = refl
refused_numbers (task.Upload id s) read running kept = refl
refused_numbers (task.Cleanup id s) read running kept = refl

pub refused_view : (seen : Seen) (c : Catalog) (set taken : ℕ) (t : PublishTask) (read : Latest) → ViewInForm seen c set taken t → ViewInForm seen c set taken (with_refused t read)
refused_view seen c set taken (task.Create x) read view = tt
refused_view seen c set taken (task.Copy id s) read view = tt
refused_view seen c set taken (task.Upload id s) read view = record {
  held = view.held;
  is_held = view.is_held;
  view = record { can = view.view.can; page_size = view.view.page_size; of_view = view.view.of_view };
  size = view.size;
  count = view.count;
}
refused_view seen c set taken (task.Cleanup id s) read view = tt

waits_more : (x y : PendingPub) (ns : List ℕ) (n : ℕ) → x ≡ y → PendingFor (Some x) y (ns ++ n ∷ [])
waits_more x y [] n is = is
waits_more x y (k ∷ ks) n is = is

again_more : (t : PublishTask) (ns : List ℕ) (n : ℕ) → latest_of t ≡ None → left_of t ≡ 2 → TriesAgain (ns ++ n ∷ []) t
again_more t [] n none two = inr (none, two)
again_more t (k ∷ ks) n none two = inr (none, two)

pub refused_waits : (x : PendingPub) (taken : ℕ) (t : PublishTask) (read : Latest) → IsRunning t → latest_of t ≡ Some read → x ≡ pending_of taken t
    → PendingFor (Some x) (pending_of taken (with_refused t read)) (refused_of (with_refused t read))
refused_waits x taken t read running kept is =
    subst (λ (ns : List ℕ). PendingFor (Some x) (pending_of taken (with_refused t read)) ns) (sym (refused_numbers t read running kept))
    (waits_more x (pending_of taken (with_refused t read)) (refused_of t) read.manifest.number (is ∙ sym (refused_pending taken t read)))

pub refused_again : (t : PublishTask) (read : Latest) → IsRunning t → latest_of t ≡ Some read → left_of (with_refused t read) ≡ 2 → TriesAgain (refused_of (with_refused t read)) (with_refused t read)
refused_again t read running kept two =
    subst (λ (ns : List ℕ). TriesAgain ns (with_refused t read)) (sym (refused_numbers t read running kept))
    (again_more (with_refused t read) (refused_of t) read.manifest.number (refused_latest t read) two)

-- ---- what an upload's intent notes

entry_meets : (s : upload.State) (o : Option Latest) → MatchOption o ⊥ (λ l. IsReady l.manifest (upload.plan_of s) s.publish.writer) → IfSome o (upload.Passed s)
    → MeetsEntryRules s.base.block (upload.entry_with s.base s.size s.touched s.ids s.publish.id)
entry_meets s None ready passed = absurd ready
entry_meets s (Some l) ready passed = subst (λ (b : ℕ). MeetsEntryRules b (upload.entry_with s.base s.size s.touched s.ids s.publish.id)) passed.block ready.fits

-- is of the block size that was seen
pub intent_in_form : (b : ℕ) (seen : Seen) (c : Catalog) (set taken : ℕ) (t : PublishTask) → seen.block ≡ Some b → is_ready t ≡ true → IsRunning t → ViewInForm seen c set taken t
    → PendingInForm b (pending_of taken t)
intent_in_form b seen c set taken (task.Create x) is ready running view = tt
intent_in_form b seen c set taken (task.Copy id s) is ready running view = tt
intent_in_form b seen c set taken (task.Upload id s) is ready running view =
    let same : s.base.block ≡ b = same_Some s.base.block b (sym view.size ∙ is) in (
      same,
      subst (λ (k : ℕ). MeetsEntryRules k (upload.entry_with s.base s.size s.touched s.ids s.publish.id)) same
          (entry_meets s s.publish.latest (upload_ready s (upload.plan_of s) refl running.1.task ready) (running.1.task.read running.1.waits)),
    )
intent_in_form b seen c set taken (task.Cleanup id s) is ready running view = tt

-- ---- what is published

-- the block size and the entries meet the rules
pub record DbsMeetRules (m : Manifest) : Type 0 where
  pub block : is_block_size m.block ≡ true
  pub each : AllByRecursion (MeetsEntryRules m.block) m.dbs

over_meets : (p : publish.State) (plan : EditPlan) (moment : ℕ) (o : Option Latest) (m : Manifest) → MatchOption o ⊥ (λ l. IsReady l.manifest plan p.writer) → IsId p.id → made_over p plan moment o ≡ Some m
    → DbsMeetRules m
over_meets p plan moment None m ready is_id made = absurd ready
over_meets p plan moment (Some l) m ready is_id made =
    let first : Manifest = applied l.manifest plan p.id p.writer moment in
    subst DbsMeetRules (same_Some first m made)
    (record {
      block = ready.rules.block;
      each =
          all_after (MeetsEntryRules l.manifest.block) plan p.id l.manifest.dbs (λ a is. made_fits l.manifest.block plan p.id l.manifest.dbs a ready.fits is_id ready.rules.each_db is) ready.rules.each_db;
    })

swept_meets : (s : cleanup.State) (moment : ℕ) (o : Option Latest) (m : Manifest) → cleanup.IsTask s → cleanup.IsRead s o → made_over s.publish s.edit moment o ≡ Some m → DbsMeetRules m
swept_meets s moment None m is_task read made = absurd (let e : None ≡ Some m = made in cc)
swept_meets s moment (Some l) m is_task read made =
    let first : Manifest = applied l.manifest s.edit s.publish.id s.publish.writer moment in
    subst DbsMeetRules (same_Some first m made)
    (record {
      block = read.rules.block;
      each =
          all_after (MeetsEntryRules l.manifest.block) s.edit s.publish.id l.manifest.dbs
          (λ a is. absurd (let e : None ≡ Some a = subst (λ (p : EditPlan). made_entry p s.publish.id l.manifest.dbs ≡ Some a) is_task.edit is in cc)) read.rules.each_db;
    })

pub brought_meets : (t : PublishTask) (moment : ℕ) (m : Manifest) → IsRunning t → is_ready t ≡ true → IsId (id_of t) → brought t moment ≡ Some m → DbsMeetRules m
brought_meets (task.Create c) moment m running ready is_id made =
    let first : Manifest = first_manifest c.block c.retention c.id c.writer moment in
    subst DbsMeetRules (same_Some first m made) (record { block = running.size; each = tt })
brought_meets (task.Copy id s) moment m running ready is_id made =
    over_meets s.publish s.edit moment s.publish.latest m (copy_ready s running.1.task ready) (subst IsId running.0 is_id) made
brought_meets (task.Upload id s) moment m running ready is_id made =
    over_meets s.publish (upload.plan_of s) moment s.publish.latest m (upload_ready s (upload.plan_of s) refl running.1.task ready) (subst IsId running.0 is_id) made
brought_meets (task.Cleanup id s) moment m running ready is_id made =
    swept_meets s moment s.publish.latest m running.1.task (running.1.task.stage running.1.waits) made
