-- What each step of a task that goes on lowers, so that a caller who repeats it comes to an end.
use Rattle.std.specs.Prelude.{◌≡◌, ◌<◌, ◌+◌, ◌-◌, ◌*◌, ◌⊎◌, ℕ, length, Some}
use Rattle.std.specs.Option.{option_map_or}
use Rattle.bcv_dbcopy.specs.State.{manifest_requests}
use Rattle.bcv_model.specs.declared.ask.Ask.{Ask}
use Rattle.bcv_model.specs.declared.ask.Ask.TheVariants as ask
use Rattle.bcv_model.specs.declared.reply.Reply.{Reply}
use Rattle.bcv_model.specs.declared.reply.Reply.TheVariants as reply
use Rattle.bcv_slots.specs.Numbered.{item_at}
use Rattle.bcv_tasks.specs.declared.publish_task.PublishTask.{PublishTask}
use Rattle.bcv_tasks.specs.declared.publish_task.PublishTask.TheVariants as task
use Rattle.bcv_tasks.specs.State.{latest_of, left_of, refused_of}
use Rattle.bcv_client.specs.declared.client.Client.{Client}
use Rattle.bcv_client.specs.declared.job.Job.{Job}
use Rattle.bcv_client.specs.declared.job.Job.TheVariants as job

-- ---- three numbers of a publishing task

-- how many puts may still be refused: the eighth refusal is the last
abbrev pub refusals_of : PublishTask → ℕ
refusals_of t = 8 - length (refused_of t)

-- the manifest's requests that are left: its get and its put, or the put alone; a create has no get
abbrev pub requests_of : PublishTask → ℕ
requests_of (task.Create c) = 1
requests_of t = manifest_requests (latest_of t)

-- one task lies below another: by the refusals to come, then by the manifest's requests, then by all that are left
abbrev pub IsTaskBelow : PublishTask → PublishTask → Type 0
IsTaskBelow new old =
    (refusals_of new < refusals_of old)
    ⊎ ((refusals_of new ≡ refusals_of old)
    × ((requests_of new < requests_of old) ⊎ ((requests_of new ≡ requests_of old) × (left_of new < left_of old))))

-- ---- steps to come

-- a publication has at most this many steps to come: those that are left, and a get and a put after each refusal
abbrev pub publish_steps : PublishTask → ℕ
publish_steps t = 2 * refusals_of t + left_of t

-- every other job ends with its one step
abbrev pub job_steps : Job → ℕ
job_steps (job.Publish set taken t) = publish_steps t
job_steps j = 1

-- how many steps the task of a number has to come at most: none where there is no such task
abbrev pub steps_to_come : {D : Type 0} {g : _} → Client D g → ℕ → ℕ
steps_to_come c n = option_map_or job_steps (item_at n c.tasks.items) 0

-- ---- a step

-- a task that goes on is told by its requests that are left, and has fewer steps to come
pub record TaskFalls (left : ℕ) (old new : PublishTask) : Type 0 where
  pub left_is : left ≡ left_of new
  pub below : IsTaskBelow new old
  pub fewer : publish_steps new < publish_steps old

-- so it is wherever a publishing task goes on
abbrev pub TaskDescends : PublishTask → Reply → PublishTask → Type 0
TaskDescends old (reply.Working left) new = TaskFalls left old new
TaskDescends old _ new = Unit {0}

-- the publishing task of a number goes on, and has fewer steps to come than it had
pub record StaysBelow {D : Type 0} {g : _} (c : Client D g) (n set taken left : ℕ) (old : PublishTask) : Type 0 where
  pub new : PublishTask
  pub there : item_at n c.tasks.items ≡ Some (job.Publish set taken new)
  pub falls : TaskFalls left old new

-- a publishing task that was taken out is back where it goes on
abbrev pub PublicationDescends : {D : Type 0} {g : _} → Client D g → ℕ → ℕ → ℕ → PublishTask → Reply → Type 0
PublicationDescends c n set taken old (reply.Working left) = StaysBelow c n set taken left old
PublicationDescends c n set taken old _ = Unit {0}

-- the task of a number publishes, goes on, and has fewer steps to come
pub record StepFalls {D : Type 0} {g : _} (old new : Client D g) (n left : ℕ) : Type 0 where
  pub set : ℕ
  pub taken : ℕ
  pub before : PublishTask
  pub was : item_at n old.tasks.items ≡ Some (job.Publish set taken before)
  pub stays : StaysBelow new n set taken left before
  pub fewer : steps_to_come new n < steps_to_come old n

-- a step that answers Working is that of a publication, which goes on with fewer steps to come
abbrev pub StepDescends : {D : Type 0} {g : _} → Client D g → Client D g → ℕ → Reply → Type 0
StepDescends old new n (reply.Working left) = StepFalls old new n left
StepDescends old new n _ = Unit {0}

-- ---- the whole

-- so it is wherever a step is asked for
abbrev pub Descends : {D : Type 0} {g : _} → Ask → Client D g → Client D g → Reply → Type 0
Descends (ask.Step n) old new r = StepDescends old new n r
Descends q old new r = Unit {0}
