-- A client fits its log after the put of a publishing task.
use Rattle.std.proofs.Common.{◌≡◌, ℕ, false, List, ◌++◌, Option, Some, None, IfSome, refl, sym, ap, subst}
use Rattle.std.proofs.lemmas.Option.{same_Some}
use Rattle.bcv_base.specs.declared.id.Id16.{Id16}
use Rattle.bcv_base.specs.declared.log.Entry.{Entry}
use Rattle.bcv_base.specs.declared.manifest.DbEntry.{DbEntry}
use Rattle.bcv_base.specs.declared.manifest.Manifest.{Manifest}
use Rattle.bcv_base.specs.declared.seen.Latest.{Latest}
use Rattle.bcv_base.specs.Image.{Writes}
use Rattle.bcv_cache.specs.Entry as cache
use Rattle.bcv_dbmap.specs.declared.plan.EditPlan.{EditPlan}
use Rattle.bcv_dbmap.specs.Applied.{applied, first_manifest}
use Rattle.bcv_model.specs.declared.kept.Kept.{Kept}
use Rattle.bcv_model.specs.declared.kept.PendingPub.{PendingPub}
use Rattle.bcv_publish.specs.ManifestAppend.{IsAppended}
use Rattle.bcv_publish.specs.ManifestPut.{refused_once}
use Rattle.bcv_publish.specs.State as publish
use Rattle.bcv_tasks.specs.declared.publish_task.PublishTask.{PublishTask}
use Rattle.bcv_tasks.specs.declared.publish_task.PublishTask.TheVariants as task
use Rattle.bcv_tasks.specs.State.{IsRunning, brought, made_over, pending_of, writer_of}
use Rattle.bcv_tasks.specs.TaskPut.{Appends, with_refused}
use Rattle.bcv_upload.specs.State as upload
use Rattle.bcv_clientstate.specs.Fits.{Fits, FitsJob}
use Rattle.bcv_clientstate.specs.PartRefusals.{runs_publication}
use Rattle.bcv_clientstate.specs.Parts.{Parts}
use Rattle.bcv_clientlaws.specs.OwnEntries.{IsIntended}
use Rattle.bcv_clientlaws.specs.PublishTasks.{PutFits, RefusedFits, job_of}
use Rattle.bcv_clientlaws.proofs.OwnEntries.{blocks_leave_fits, create_fits, none_put, publication_fits, refused_fits}

-- ---- what is published

-- an edit of a manifest that was read, under the id that is pending
module _ (log own : List Entry) (p : Parts) (entries : List cache.Entry) (moment etag : ℕ) (x : PendingPub) (q : publish.State) (plan : EditPlan) (brings : Manifest)
    (fits : Fits p entries log) (quiet : runs_publication p ≡ false) (pending : p.kept.pending ≡ Some x) (same_id : x.id ≡ q.id) (same_writer : q.writer ≡ p.id)
    (put : IsAppended own brings etag) where
  over : (o : Option Latest) → (made_over q plan moment o ≡ Some brings) → ((read : Latest) → o ≡ Some read → IsIntended x.id read.manifest.block plan x.upload) → Fits p entries (log ++ own)
  over None made intended = absurd (let e : None ≡ Some brings = made in cc)
  over (Some read) made intended =
      let m : Manifest = applied read.manifest plan q.id q.writer moment in
      let first : IsAppended own m etag = subst (λ (b : Manifest). IsAppended own b etag) (sym (same_Some m brings made)) put in
      let named : IsAppended own (applied read.manifest plan x.id q.writer moment) etag =
      subst (λ (i : Id16). IsAppended own (applied read.manifest plan i q.writer moment) etag) (sym same_id) first in
      let signed : IsAppended own (applied read.manifest plan x.id p.id moment) etag =
      subst (λ (w : Id16). IsAppended own (applied read.manifest plan x.id w moment) etag) same_writer named in
      publication_fits log own p entries x read.manifest plan moment etag fits quiet pending (intended read refl) signed

-- the edit of an upload is what its intent notes, over its base's block size
upload_intended : (taken : ℕ) (id : Id16) (s : upload.State) (read : Latest) → id ≡ s.publish.id → upload.IsRunning s → s.publish.latest ≡ Some read
    → IsIntended id read.manifest.block (upload.plan_of s) (pending_of taken (task.Upload id s)).upload
upload_intended taken id s read same run is =
    let e : DbEntry = upload.entry_with s.base s.size s.touched s.ids s.publish.id in
    let passed : upload.Passed s read = subst (λ (o : Option Latest). IfSome o (upload.Passed s)) is (run.task.read run.waits) in
    (ap (λ (i : Id16). let d : DbEntry = record e { tag = i } in d) (sym same), sym passed.block)

by_task : (log own : List Entry) (p : Parts) (entries : List cache.Entry) (taken moment etag : ℕ) (t : PublishTask) (brings : Manifest)
    → Fits p entries log → runs_publication p ≡ false → IsRunning t → writer_of t ≡ p.id → p.kept.pending ≡ Some (pending_of taken t)
    → brought t moment ≡ Some brings → IsAppended own brings etag → Fits p entries (log ++ own)
by_task log own p entries taken moment etag (task.Create c) brings fits quiet run writer pending made put =
    let m : Manifest = first_manifest c.block c.retention c.id c.writer moment in
    let first : IsAppended own m etag = subst (λ (b : Manifest). IsAppended own b etag) (sym (same_Some m brings made)) put in
    create_fits log own p entries (pending_of taken (task.Create c)) c.block c.retention moment etag fits quiet pending refl
    (subst (λ (w : Id16). IsAppended own (first_manifest c.block c.retention c.id w moment) etag) writer first)
by_task log own p entries taken moment etag (task.Copy id s) brings fits quiet run writer pending made put =
    over log own p entries moment etag (pending_of taken (task.Copy id s)) s.publish s.edit brings fits quiet pending run.0 writer put s.publish.latest made (λ read is. tt)
by_task log own p entries taken moment etag (task.Upload id s) brings fits quiet run writer pending made put =
    over log own p entries moment etag (pending_of taken (task.Upload id s)) s.publish (upload.plan_of s) brings fits quiet pending run.0 writer put s.publish.latest made
    (λ read is. upload_intended taken id s read run.0 run.1 is)
by_task log own p entries taken moment etag (task.Cleanup id s) brings fits quiet run writer pending made put =
    over log own p entries moment etag (pending_of taken (task.Cleanup id s)) s.publish s.edit brings fits quiet pending run.0 writer put s.publish.latest made (λ read is. tt)

by_published : (log own : List Entry) (p : Parts) (entries : List cache.Entry) (taken moment : ℕ) (t : PublishTask) (brings : Manifest) (published : Option ℕ)
    → Fits p entries log → runs_publication p ≡ false → IsRunning t → writer_of t ≡ p.id → p.kept.pending ≡ Some (pending_of taken t)
    → brought t moment ≡ Some brings → Appends own brings published → Fits p entries (log ++ own)
by_published log own p entries taken moment t brings None fits quiet run writer pending made put = blocks_leave_fits log own p entries fits quiet (none_put own put)
by_published log own p entries taken moment t brings (Some n) fits quiet run writer pending made put =
    by_task log own p entries taken moment put.1.0 t brings fits quiet run writer pending made put.1.1

pub put_fits : PutFits
put_fits log own p entries taken moment t brings published fits quiet run writer pending made put =
    by_published log own p entries taken moment t brings published fits quiet run writer pending made put

-- ---- a put that is refused

turned_down : (mine : List Id16) (writer : Id16) (k : Kept) (log : List Entry) (view : List Writes) (t : PublishTask) (read : Latest) → FitsJob mine writer k log (job_of view t)
    → IsRunning (with_refused t read) → FitsJob mine writer k log (job_of view (with_refused t read))
turned_down mine writer k log view (task.Create c) read fits run = fits
turned_down mine writer k log view (task.Copy id s) read fits run = (run.1, refused_fits mine writer log s.publish (refused_once s.publish read) read fits.1 refl, fits.2)
turned_down mine writer k log view (task.Upload id s) read fits run = (
  run.1,
  refused_fits mine writer log s.publish (refused_once s.publish read) read fits.1 refl,
  record { listed = fits.2.listed; blocks = fits.2.blocks; fetched = fits.2.fetched },
  fits.3,
  fits.4,
  fits.5,
  fits.6,
)
turned_down mine writer k log view (task.Cleanup id s) read fits run =
    (run.1, refused_fits mine writer log s.publish (refused_once s.publish read) read fits.1 refl, record { expired = fits.2.expired; deleted = fits.2.deleted })

pub refused_task_fits : RefusedFits
refused_task_fits mine writer k log view moment t u fits leaves run =
    let down = leaves.1.1 in
    subst (λ (x : PublishTask). FitsJob mine writer k log (job_of view x)) (sym down.becomes)
    (turned_down mine writer k log view t down.read fits (subst IsRunning down.becomes run))
