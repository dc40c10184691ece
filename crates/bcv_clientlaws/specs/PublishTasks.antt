-- A client fits its log after the put of a publishing task, whatever the task publishes.
use Rattle.std.specs.Prelude.{◌≡◌, ℕ, false, List, ◌++◌, Option, Some}
use Rattle.bcv_base.specs.declared.id.Id16.{Id16}
use Rattle.bcv_base.specs.declared.log.Entry.{Entry}
use Rattle.bcv_base.specs.declared.manifest.Manifest.{Manifest}
use Rattle.bcv_base.specs.Image.{Writes}
use Rattle.bcv_cache.specs.Entry as cache
use Rattle.bcv_model.specs.declared.kept.Kept.{Kept}
use Rattle.bcv_tasks.specs.declared.publish_task.PublishTask.{PublishTask}
use Rattle.bcv_tasks.specs.declared.publish_task.PublishTask.TheVariants as task
use Rattle.bcv_tasks.specs.declared.put_answer.PutAnswer.TheVariants as answer
use Rattle.bcv_tasks.specs.State.{IsRunning, brought, pending_of, writer_of}
use Rattle.bcv_tasks.specs.TaskPut.{Appends, PutLeaves}
use Rattle.bcv_clientstate.specs.Fits.{Fits, FitsJob}
use Rattle.bcv_clientstate.specs.PartRefusals.{runs_publication}
use Rattle.bcv_clientstate.specs.Parts.{Job, Creating, Copying, Uploading, Cleaning, Parts}

-- the client's job that a task is, which uploads the commits of a view, where it uploads some
abbrev pub job_of : List Writes → PublishTask → Job
job_of view (task.Create c) = Creating c.block c.retention c.id
job_of view (task.Copy id s) = Copying s
job_of view (task.Upload id s) = Uploading s view
job_of view (task.Cleanup id s) = Cleaning s

-- after the put the client without the task fits the log, where its intent stood and no other task publishes
abbrev pub PutFits : Type 0
PutFits =
    (log own : List Entry) (p : Parts) (entries : List cache.Entry) (taken moment : ℕ) (t : PublishTask)
    (brings : Manifest)
    (published : Option ℕ) → Fits p entries log → runs_publication p ≡ false → IsRunning t → writer_of t ≡ p.id
    → p.kept.pending ≡ Some (pending_of taken t) → brought t moment ≡ Some brings → Appends own brings published
    → Fits p entries (log ++ own)

-- a task that goes on after its put was refused still fits
abbrev pub RefusedFits : Type 0
RefusedFits =
    (mine : List Id16) (writer : Id16) (k : Kept) (log : List Entry) (view : List Writes) (moment : ℕ)
    (t u : PublishTask)
    → FitsJob mine writer k log (job_of view t) → PutLeaves moment t answer.Refused u → IsRunning u
    → FitsJob mine writer k log (job_of view u)
