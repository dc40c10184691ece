-- A client stays in form where its databases change as under a commit.
use Rattle.std.proofs.Common.{◌≡◌, ◌∙◌, ℕ, List, [], ◌∷◌, Option, Some, None, IfSome, is_some, sym, ap, subst}
use Rattle.std.specs.List.{AllByRecursion}
use Rattle.bcv_base.specs.declared.seen.Seen.{Seen}
use Rattle.bcv_clientlaws.specs.Different.{AtMostOne}
use Rattle.bcv_databases.specs.Catalog.{Catalog}
use Rattle.bcv_databases.specs.Sound.{CanUpload, KeepsViews}
use Rattle.bcv_model.specs.declared.kept.PendingPub.{PendingPub}
use Rattle.bcv_model.specs.declared.kept.Uploading.{Uploading}
use Rattle.bcv_slots.specs.declared.Slot.{Slot}
use Rattle.bcv_tasks.specs.declared.publish_task.PublishTask.{PublishTask}
use Rattle.bcv_tasks.specs.declared.publish_task.PublishTask.TheVariants as task
use Rattle.bcv_tasks.specs.State.{pending_of, refused_of, upload_of}
use Rattle.bcv_transaction.specs.Open.{Open}
use Rattle.bcv_upload.specs.BlockText.{IsViewOf}
use Rattle.bcv_base.specs.Image.{Writes}
use Rattle.bcv_client.specs.ClientForm.{HasSize, IsInForm, JobInForm, PendingFor, ViewInForm}
use Rattle.bcv_client.specs.declared.job.Job.{Job}
use Rattle.bcv_client.specs.declared.job.Job.TheVariants as job
use Rattle.bcv_client.proofs.SetViews.{all_read_still, keeps_slots, keeps_txns, tasks_same}

-- what tasks rely on stays: what is pending, what can be uploaded, and the views
pub record LeavesTasks (c d : Catalog) : Type 0 where
  pub pending : d.kept.pending ≡ c.kept.pending
  pub uploads : (u : Uploading) → CanUpload c.kept.locals u → CanUpload d.kept.locals u
  pub views : KeepsViews c.sets d.sets

module _ (c d : Catalog) (seen : Seen) (o : Open) (leaves : LeavesTasks c d) where
  still_uploads : (x : Option Uploading) → IfSome x (CanUpload c.kept.locals) → IfSome x (CanUpload d.kept.locals)
  still_uploads None can = tt
  still_uploads (Some u) can = leaves.uploads u can

  still_view : (set taken : ℕ) (t : PublishTask) → ViewInForm seen c set taken t → ViewInForm seen d set taken t
  still_view set taken (task.Create x) view = tt
  still_view set taken (task.Copy id s) view = tt
  still_view set taken (task.Upload id s) view =
      let k = leaves.views set view.held view.is_held in
      let is = k.2 s.base.from s.base.to view.view.can in
      record {
        held = k.0;
        is_held = k.1;
        view = record {
          can = is.0;
          page_size = k.3 ∙ view.view.page_size;
          of_view = subst (λ (ws : List Writes). IsViewOf s.base ws s.size s.touched) (sym is.1) view.view.of_view;
        };
        size = view.size;
        count = view.count;
      }
  still_view set taken (task.Cleanup id s) view = tt

  still_job : (j : Job) → JobInForm seen c o j → JobInForm seen d o j
  still_job (job.Fetch access txn page) form = form
  still_job job.Poll form = tt
  still_job (job.Publish set taken t) form = record {
    running = form.running;
    waits = subst (λ (x : Option PendingPub). PendingFor x (pending_of taken t) (refused_of t)) (sym leaves.pending) form.waits;
    again = form.again;
    upload = still_uploads (upload_of taken t) form.upload;
    view = still_view set taken t form.view;
  }
  still_job job.Resolve form = ap (λ (x : Option PendingPub). is_some x) leaves.pending ∙ form

  still_jobs : (ss : List (Slot Job)) → AllByRecursion (λ (s : Slot Job). JobInForm seen c o s.item) ss → AllByRecursion (λ (s : Slot Job). JobInForm seen d o s.item) ss
  still_jobs [] all = tt
  still_jobs (s ∷ ss) all = (still_job s.item all.0, still_jobs ss all.1)

  pub form_stays : (ss : List (Slot Job)) → IsInForm seen c o ss → HasSize seen.block d o.cache → IsInForm seen d o ss
  form_stays ss form size = record {
    size = size;
    txns = all_read_still c.sets d.sets o.txns form.txns (keeps_txns c.sets d.sets leaves.views o.txns);
    tasks_are = record {
      few = form.tasks_are.few;
      differ = form.tasks_are.differ;
      single = subst AtMostOne (sym (tasks_same c d seen o ss form.tasks_are.each (keeps_slots c.sets d.sets leaves.views ss))) form.tasks_are.single;
      each = still_jobs ss form.tasks_are.each;
    };
  }
