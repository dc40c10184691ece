-- What a client sees of a publishing task, whatever it publishes.
use Rattle.std.specs.Prelude.{◌≡◌, ℕ, Bool, true, false, List, [], ◌∷◌, length, Option, Some, None, is_none, if◌then◌else◌}
use Rattle.bcv_base.specs.declared.id.Id16.{Id16}
use Rattle.bcv_base.specs.declared.log.Entry.{Entry}
use Rattle.bcv_base.specs.declared.manifest.Manifest.{Manifest}
use Rattle.bcv_base.specs.declared.seen.Latest.{Latest}
use Rattle.bcv_base.specs.Image.{Writes}
use Rattle.bcv_base.specs.ManifestRules.{is_block_size}
use Rattle.bcv_cleanup.specs.CleanupWork.{HasTaken}
use Rattle.bcv_cleanup.specs.State as cleanup
use Rattle.bcv_dbcopy.specs.State as copy
use Rattle.bcv_dbcopy.specs.TaskWork as copying
use Rattle.bcv_dbmap.specs.declared.plan.EditPlan.{EditPlan}
use Rattle.bcv_dbmap.specs.Applied.{first_manifest}
use Rattle.bcv_model.specs.declared.kept.PendingPub.{PendingPub}
use Rattle.bcv_model.specs.declared.kept.Uploading.{Uploading}
use Rattle.bcv_publish.specs.ManifestPut.{made}
use Rattle.bcv_publish.specs.State as publish
use Rattle.bcv_tasks.specs.declared.create_task.CreateTask.{CreateTask}
use Rattle.bcv_tasks.specs.declared.publish_task.PublishTask.{PublishTask}
use Rattle.bcv_tasks.specs.declared.publish_task.PublishTask.TheVariants as task
use Rattle.bcv_upload.specs.State as upload
use Rattle.bcv_upload.specs.UploadWork as uploading

-- ---- its publication

-- the publication of a create has read nothing, and no put of it is refused
abbrev pub publish_of_create : CreateTask → publish.State
publish_of_create c = record { writer = c.writer; id = c.id; latest = c.latest; refused = []; block = None }

-- the publication of a task
abbrev pub publish_of : PublishTask → publish.State
publish_of (task.Create c) = publish_of_create c
publish_of (task.Copy id s) = s.publish
publish_of (task.Upload id s) = s.publish
publish_of (task.Cleanup id s) = s.publish

-- the task with another publication, which was made or not
abbrev pub with_publish : PublishTask → publish.State → Bool → PublishTask
with_publish (task.Create c) p published = task.Create (record c { latest = p.latest })
with_publish (task.Copy id s) p published = task.Copy id (record s { publish = p; published = published })
with_publish (task.Upload id s) p published = task.Upload id (record s { publish = p; published = published })
with_publish (task.Cleanup id s) p published = task.Cleanup id (record s { publish = p; published = published })

-- the publication's id
abbrev pub id_of : PublishTask → Id16
id_of (task.Create c) = c.id
id_of (task.Copy id s) = id
id_of (task.Upload id s) = id
id_of (task.Cleanup id s) = id

abbrev pub writer_of : PublishTask → Id16
writer_of t = (publish_of t).writer

-- the manifest that was read last, or the one that was published
abbrev pub latest_of : PublishTask → Option Latest
latest_of t = (publish_of t).latest

-- the numbers of what was read before refused puts
abbrev pub refused_of : PublishTask → List ℕ
refused_of t = (publish_of t).refused

-- ---- what it publishes

-- what an edit makes of the manifest that was read
abbrev pub made_over : publish.State → EditPlan → ℕ → Option Latest → Option Manifest
made_over p plan moment None = None
made_over p plan moment (Some read) = Some (made p read plan moment)

-- the manifest that the task's put brings at a moment: a create's is a first one
abbrev pub brought : PublishTask → ℕ → Option Manifest
brought (task.Create c) moment = Some (first_manifest c.block c.retention c.id c.writer moment)
brought (task.Copy id s) moment = made_over s.publish s.edit moment s.publish.latest
brought (task.Upload id s) moment = made_over s.publish (upload.plan_of s) moment s.publish.latest
brought (task.Cleanup id s) moment = made_over s.publish s.edit moment s.publish.latest

-- ---- the requests that are left

-- a create has one request, until it is made
abbrev pub left_of : PublishTask → ℕ
left_of (task.Create c) = if is_none c.latest then 1 else 0
left_of (task.Copy id s) = copy.left_of s
left_of (task.Upload id s) = upload.left_of s
left_of (task.Cleanup id s) = cleanup.left_of s

-- the manifest's put is the one request left
abbrev pub is_ready : PublishTask → Bool
is_ready (task.Create c) = is_none c.latest
is_ready (task.Copy id s) = copy.is_ready s
is_ready (task.Upload id s) = upload.is_ready s
is_ready (task.Cleanup id s) = cleanup.is_ready s

-- how many blocks a cleanup has taken, and whether it knows of a further one
abbrev pub taken_count : PublishTask → ℕ
taken_count (task.Cleanup id s) = length (cleanup.taken_ids s)
taken_count _ = 0

abbrev pub has_further : PublishTask → Bool
has_further (task.Cleanup id s) = s.more
has_further _ = false

-- ---- what holds of every task

-- a create that was not made
pub record IsCreate (c : CreateTask) : Type 0 where
  pub size : is_block_size c.block ≡ true
  pub waits : c.latest ≡ None

-- what a caller keeps of a task from call to call, and that it is known by its publication's id
abbrev pub IsRunning : PublishTask → Type 0
IsRunning (task.Create c) = IsCreate c
IsRunning (task.Copy id s) = (id ≡ s.publish.id) × copy.IsRunning s
IsRunning (task.Upload id s) = (id ≡ s.publish.id) × upload.IsRunning s
IsRunning (task.Cleanup id s) = (id ≡ s.publish.id) × cleanup.IsRunning s

-- ---- its intent

-- of an upload that takes so many commits, what its intent notes: with the entry that it publishes
abbrev pub uploading_of : ℕ → upload.State → Uploading
uploading_of taken s = record { count = taken; block = s.base.block; entry = upload.entry_with s.base s.size s.touched s.ids s.publish.id }

abbrev pub upload_of : ℕ → PublishTask → Option Uploading
upload_of taken (task.Upload id s) = Some (uploading_of taken s)
upload_of taken _ = None

-- the publication that is pending once its intent is noted
abbrev pub pending_of : ℕ → PublishTask → PendingPub
pending_of taken t = record { id = id_of t; upload = upload_of taken t }

-- ---- its names

-- the id of its publication, and those of the blocks that it has put so far
abbrev pub names_of : PublishTask → List Id16
names_of (task.Create c) = c.id ∷ []
names_of (task.Copy id s) = id ∷ copy.put_ids s.edit
names_of (task.Upload id s) = id ∷ s.ids
names_of (task.Cleanup id s) = id ∷ []

-- what the task has put, and what it stands on, lies in a log; the commits are those of an upload's view
abbrev pub Owns : List Id16 → List Entry → List Writes → PublishTask → Type 0
Owns mine log view (task.Create c) = Unit {0}
Owns mine log view (task.Copy id s) = copying.OwnsBlocks mine log s
Owns mine log view (task.Upload id s) = uploading.OwnsBlocks mine log view s
Owns mine log view (task.Cleanup id s) = HasTaken log s
