-- Whether a client publishes or resolves, by its tasks.
use Rattle.std.proofs.Common.{◌≡◌, ◌∙◌, ◌||◌, ℕ, Bool, true, List, [], ◌∷◌, map, refl, ap}
use Rattle.std.specs.List.{list_any}
use Rattle.bcv_clientstate.specs.PartRefusals.{is_publishing}
use Rattle.bcv_clientstate.specs.Parts as parts
use Rattle.bcv_databases.specs.Catalog.{Catalog}
use Rattle.bcv_slots.specs.declared.Slot.{Slot}
use Rattle.bcv_tasks.specs.declared.publish_task.PublishTask.{PublishTask}
use Rattle.bcv_tasks.specs.declared.publish_task.PublishTask.TheVariants as task
use Rattle.bcv_client.specs.NewTasks.{is_busy}
use Rattle.bcv_client.specs.TaskParts.{done_by, task_part}
use Rattle.bcv_client.specs.declared.job.Job.{Job}
use Rattle.bcv_client.specs.declared.job.Job.TheVariants as job

busy_view : (c : Catalog) (set taken : ℕ) (t : PublishTask) → is_publishing (done_by c (job.Publish set taken t)) ≡ true
busy_view c set taken (task.Create x) = refl
busy_view c set taken (task.Copy id s) = refl
busy_view c set taken (task.Upload id s) = refl
busy_view c set taken (task.Cleanup id s) = refl

-- a job is one that publishes or resolves
pub busy_is : (c : Catalog) (j : Job) → is_publishing (done_by c j) ≡ is_busy j
busy_is c (job.Fetch access txn page) = refl
busy_is c job.Poll = refl
busy_is c (job.Publish set taken t) = busy_view c set taken t
busy_is c job.Resolve = refl

pub busy_jobs : (c : Catalog) (ss : List (Slot Job)) → list_any (λ (t : parts.Task). is_publishing t.job) (map (task_part c) ss) ≡ list_any (λ (s : Slot Job). is_busy s.item) ss
busy_jobs c [] = refl
busy_jobs c (s ∷ ss) =
    ap (λ (b : Bool). b || list_any (λ (t : parts.Task). is_publishing t.job) (map (task_part c) ss)) (busy_is c s.item)
    ∙ ap (λ (b : Bool). is_busy s.item || b) (busy_jobs c ss)
