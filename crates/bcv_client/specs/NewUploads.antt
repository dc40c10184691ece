-- How an upload of a database's commits starts.
use Rattle.std.specs.Prelude.{◌≡◌, ◌≤◌, ◌-◌, ◌==◌, ℕ, true, List, Option, Some, None, map, length, if◌then◌else◌}
use Rattle.std.specs.List.{list_all}
use Rattle.bcv_base.specs.declared.id.Id16.{Id16}
use Rattle.bcv_base.specs.declared.seen.TxnBase.{TxnBase}
use Rattle.bcv_base.specs.Keyed.{keyed}
use Rattle.bcv_base.specs.Views.{is_commit, touched_blocks}
use Rattle.bcv_clientstate.specs.SeenKept.{seen_kept}
use Rattle.bcv_clientstate.specs.StartRefusals.{start_reason}
use Rattle.bcv_databases.specs.Catalog.{Catalog, View}
use Rattle.bcv_databases.specs.declared.database_view.CommitsAt.{CommitsAt}
use Rattle.bcv_machine.specs.Starting.{upload_of}
use Rattle.bcv_model.specs.declared.kept.Local.{Local}
use Rattle.bcv_model.specs.declared.reply.Reply.{Reply}
use Rattle.bcv_model.specs.declared.reply.Reply.TheVariants as reply
use Rattle.bcv_model.specs.Commits.{writes_of}
use Rattle.bcv_model.specs.Notes.{kept_name}
use Rattle.bcv_pages.specs.Held.{Held}
use Rattle.bcv_tasks.specs.declared.publish_task.PublishTask.TheVariants as task
use Rattle.bcv_upload.specs.BlockText.{per_block}
use Rattle.bcv_upload.specs.State.{new_upload, size_in, view_in}
use Rattle.bcv_upload.specs.State as upload
use Rattle.bcv_client.specs.ClientParts.{parts_of, sets_in}
use Rattle.bcv_client.specs.TxnBegins.{HasCommits, base_with}
use Rattle.bcv_client.specs.declared.client.Client.{Client}
use Rattle.bcv_client.specs.declared.job.Job.{Job}
use Rattle.bcv_client.specs.declared.job.Job.TheVariants as job

-- ---- when it is refused

-- what speaks against an upload alone: the database is not known, or has no commits
abbrev pub commits_reason : Option CommitsAt → Option Reply
commits_reason None = Some reply.Nothing
commits_reason (Some at) = if at.from == at.to then Some reply.Nothing else None

abbrev pub upload_reason_by : Option View → Option Reply
upload_reason_by None = Some reply.NoDatabase
upload_reason_by (Some v) = commits_reason v.commits

-- the first reason against an upload of the database
abbrev pub upload_refusal : {D : Type 0} {g : _} → Client D g → List ℕ → Option Reply
upload_refusal c db = start_reason (parts_of c) (upload_of (seen_kept c.ledger.databases.kept) db)

-- ---- the task

-- an upload of what a set has over a base
abbrev pub view_upload : Held → TxnBase → Id16 → Id16 → upload.State
view_upload h base writer id =
    new_upload base (size_in h base) (touched_blocks (per_block base) base.entry.pages (view_in h base)) writer id

abbrev pub view_upload_job : Catalog → Id16 → TxnBase → ℕ → Id16 → Job
view_upload_job c writer base set id =
    job.Publish set (base.to - base.from) (task.Upload id (view_upload (sets_in c set) base writer id))

-- the upload of all commits that a database has now; of one that has none there is no task
abbrev pub upload_job_with : Catalog → Id16 → View → Option CommitsAt → Id16 → Job
upload_job_with c writer v None id = job.Poll
upload_job_with c writer v (Some at) id = view_upload_job c writer (base_with v (Some at)) at.set id

abbrev pub upload_job : Catalog → Id16 → Option View → Id16 → Job
upload_job c writer None id = job.Poll
upload_job c writer (Some v) id = upload_job_with c writer v v.commits id

-- the upload of a database: it takes all its commits, each one of its page size, and may go on
pub record IsNewUpload (c : Catalog) (writer : Id16) (db : List ℕ) (id : Id16) (j : Job) : Type 0 where
  pub base : TxnBase
  pub set : ℕ
  pub job_is : j ≡ view_upload_job c writer base set id
  pub has : HasCommits c base set
  pub local : Local
  pub is_local : keyed kept_name db c.kept.locals ≡ Some local
  pub entry : base.entry ≡ local.entry
  pub number : base.number ≡ local.number
  pub block : base.block ≡ local.block
  pub view : view_in (sets_in c set) base ≡ map writes_of local.commits
  pub some : 1 ≤ length local.commits
  pub commits : list_all (is_commit base.entry.page_size) (map writes_of local.commits) ≡ true
  pub running : upload.IsRunning (view_upload (sets_in c set) base writer id)
