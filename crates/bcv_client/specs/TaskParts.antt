-- A client's page sets, tasks and cache as plain data, by what it has in memory.
use Rattle.std.specs.Prelude.{ℕ, List, [], Option, Some, None, unwrap_or}
use Rattle.bcv_base.specs.Image.{Writes}
use Rattle.bcv_cache.specs.Entry.{Blocks, Entry}
use Rattle.bcv_clientstate.specs.Parts as parts
use Rattle.bcv_databases.specs.Catalog.{Catalog, set_at}
use Rattle.bcv_machine.specs.State as m
use Rattle.bcv_pages.specs.Held.{Held}
use Rattle.bcv_publication.specs.TaskSides.{job_of}
use Rattle.bcv_slots.specs.declared.Slot.{Slot}
use Rattle.bcv_tasks.specs.declared.publish_task.PublishTask.{PublishTask}
use Rattle.bcv_tasks.specs.declared.publish_task.PublishTask.TheVariants as task
use Rattle.bcv_upload.specs.State.{view_in}
use Rattle.bcv_client.specs.declared.job.Access.{Access}
use Rattle.bcv_client.specs.declared.job.Access.TheVariants as access
use Rattle.bcv_client.specs.declared.job.Job.{Job}
use Rattle.bcv_client.specs.declared.job.Job.TheVariants as job

-- ---- page sets

abbrev pub no_set : Held
no_set = record { page_size = 0; forgotten = 0; kept = []; ready = None }

-- the set of a place
abbrev pub sets_in : Catalog → ℕ → Held
sets_in c place = unwrap_or (set_at c.sets place) no_set

-- ---- tasks

abbrev pub seen_access : Access → m.Access
seen_access access.ToRead = m.ToRead
seen_access access.ToHold = m.ToHold

-- the commits that a task uploads, of a set
abbrev pub task_view : Held → PublishTask → List Writes
task_view h (task.Upload i s) = view_in h s.base
task_view h _ = []

abbrev pub done_by : Catalog → Job → parts.Job
done_by c (job.Fetch a txn page) = parts.Fetching (seen_access a) txn page
done_by c job.Poll = parts.Polling
done_by c (job.Publish set taken t) = job_of (task_view (sets_in c set) t) t
done_by c job.Resolve = parts.Resolving

abbrev pub task_part : Catalog → Slot Job → parts.Task
task_part c s = record { number = s.number; job = done_by c s.item }

-- ---- the cache

abbrev pub entries_in : Option Blocks → List Entry
entries_in None = []
entries_in (Some c) = c.entries
