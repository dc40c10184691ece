-- An ask that starts a task, in the machine's words; the new task as the machine's; and that the client with it fits the log.
use Rattle.std.specs.Prelude.{◌≡◌, ℕ, true, false, List, [], map, Some, None}
use Rattle.std.specs.List.{list_all}
use Rattle.bcv_base.specs.declared.id.Id16.{Id16}
use Rattle.bcv_base.specs.declared.log.Entry.{Entry}
use Rattle.bcv_base.specs.declared.seen.TxnBase.{TxnBase}
use Rattle.bcv_base.specs.History.{Item, history_of}
use Rattle.bcv_base.specs.Ids.{IsId}
use Rattle.bcv_base.specs.Image.{Writes}
use Rattle.bcv_base.specs.Keyed.{keyed}
use Rattle.bcv_base.specs.ManifestRules.{is_block_size}
use Rattle.bcv_base.specs.Views.{is_commit}
use Rattle.bcv_cache.specs.Entry as cache
use Rattle.bcv_cleanup.specs.State as cleanup
use Rattle.bcv_dbcopy.specs.declared.plan.CopyPlan.{CopyPlan}
use Rattle.bcv_dbcopy.specs.declared.plan.CopyPlan.TheVariants as plan
use Rattle.bcv_dbcopy.specs.State as copy
use Rattle.bcv_dbmap.specs.Past.{has_version}
use Rattle.bcv_dbmap.specs.Sound.{Sound, IsSoundLog}
use Rattle.bcv_machine.specs.Reading.{FetchesIn}
use Rattle.bcv_machine.specs.Starting.{Starts, StartsPoll, StartsResolve, left_at_start, started, upload_of}
use Rattle.bcv_machine.specs.State as m
use Rattle.bcv_model.specs.declared.kept.Local.{Local}
use Rattle.bcv_model.specs.declared.reply.Reply.{Reply}
use Rattle.bcv_model.specs.declared.reply.Reply.TheVariants as reply
use Rattle.bcv_model.specs.Commits.{writes_of}
use Rattle.bcv_model.specs.Notes.{kept_name}
use Rattle.bcv_slots.specs.Numbered.{least_free}
use Rattle.bcv_upload.specs.BlockText.{IsViewOf}
use Rattle.bcv_upload.specs.State as upload
use Rattle.bcv_clientstate.specs.Fits.{Fits, TakesFrom}
use Rattle.bcv_clientstate.specs.Parts.{Job, Fetching, Polling, Creating, Copying, Uploading, Cleaning, Resolving, Parts, names_of_job}
use Rattle.bcv_clientstate.specs.SeenClient.{Free, seen_job, seen_up, side_of}
use Rattle.bcv_clientstate.specs.SeenContainer.{HasBase, container_of}
use Rattle.bcv_clientstate.specs.SeenKept.{seen_kept}
use Rattle.bcv_clientstate.specs.StartRefusals.{asked_over, poll_reason, resolve_reason, runs_all, start_reason}
use Rattle.bcv_clientlaws.specs.TaskLists.{task_numbers, with_task}

-- with one more task under a number
abbrev pub with_new_task : ℕ → Job → Parts → Parts
with_new_task n j p = with_task (record { number = n; job = j }) p

-- ---- an ask that starts a task

-- a publication under an id that no version has
abbrev pub StartsAsAsked : Type 0
StartsAsAsked =
    (moment : ℕ) (past : List Item) (p : Parts) (f : Free) (kind : m.Kind) (n : ℕ) (id : Id16) (j : Job)
    → start_reason p kind ≡ None → least_free (task_numbers p) ≡ Some n → IsId id → has_version past id ≡ false
    → seen_job p.kept.pending j ≡ m.Publishing (started (container_of moment past) kind id)
    → Starts (side_of moment past p f) (seen_up past p) kind id
    (reply.Task n (left_at_start (container_of moment past) kind)) (side_of moment past (with_new_task n j p) f)

abbrev pub RefusesStart : Type 0
RefusesStart =
    (moment : ℕ) (past : List Item) (p : Parts) (f : Free) (kind : m.Kind) (id : Id16) (r : Reply)
    → start_reason p kind ≡ Some r
    → Starts (side_of moment past p f) (seen_up past p) kind id r (side_of moment past p f)

-- where a publication starts, none is pending
abbrev pub StartsWithoutPending : Type 0
StartsWithoutPending = (p : Parts) (kind : m.Kind) → start_reason p kind ≡ None → p.kept.pending ≡ None

-- a poll
abbrev pub PollStarts : Type 0
PollStarts =
    (moment : ℕ) (past : List Item) (p : Parts) (f : Free) (n : ℕ) → poll_reason p ≡ None
    → least_free (task_numbers p) ≡ Some n
    → StartsPoll (side_of moment past p f) (seen_up past p) (reply.Task n 1)
    (side_of moment past (with_new_task n Polling p) f)

abbrev pub RefusesPoll : Type 0
RefusesPoll =
    (moment : ℕ) (past : List Item) (p : Parts) (f : Free) (r : Reply) → poll_reason p ≡ Some r
    → StartsPoll (side_of moment past p f) (seen_up past p) r (side_of moment past p f)

-- a resolve
abbrev pub ResolveStarts : Type 0
ResolveStarts =
    (moment : ℕ) (past : List Item) (p : Parts) (f : Free) (n : ℕ) → resolve_reason p ≡ None
    → least_free (task_numbers p) ≡ Some n
    → StartsResolve (side_of moment past p f) (seen_up past p) (reply.Task n 1)
    (side_of moment past (with_new_task n Resolving p) f)

abbrev pub RefusesResolve : Type 0
RefusesResolve =
    (moment : ℕ) (past : List Item) (p : Parts) (f : Free) (r : Reply) → resolve_reason p ≡ Some r
    → StartsResolve (side_of moment past p f) (seen_up past p) r (side_of moment past p f)

-- a fetch of a page that is not at hand, where fewer than 16 tasks run
abbrev pub FetchStarts : Type 0
FetchStarts =
    (moment : ℕ) (past : List Item) (p : Parts) (f : Free) (n page : ℕ) (access : m.Access) (x : m.Txn)
    → m.is_at_hand (container_of moment past) x page ≡ false
    → runs_all p ≡ false → least_free (task_numbers p) ≡ Some n
    → FetchesIn access (side_of moment past p f) (seen_up past p) x page (reply.Task n 1)
    (side_of moment past (with_new_task n (Fetching access x.number page) p) f)

abbrev pub RefusesFetch : Type 0
RefusesFetch =
    (moment : ℕ) (past : List Item) (p : Parts) (f : Free) (page : ℕ) (access : m.Access) (x : m.Txn)
    → m.is_at_hand (container_of moment past) x page ≡ false
    → runs_all p ≡ true
    → FetchesIn access (side_of moment past p f) (seen_up past p) x page reply.TooMany (side_of moment past p f)

-- ---- the new task

abbrev pub CreateIsNew : Type 0
CreateIsNew =
    (c : m.Container) (block retention : ℕ) (id : Id16)
    → seen_job None (Creating block retention id) ≡ m.Publishing (started c (m.Creating block retention) id)

-- what a plan is asked as
abbrev pub kind_asked : CopyPlan → m.Kind
kind_asked (plan.New name page_size pages) = m.Making name page_size pages
kind_asked (plan.Copy from to) = m.Copying from to
kind_asked (plan.Remove name) = m.Removing name

abbrev pub CopyIsNew : Type 0
CopyIsNew =
    (c : m.Container) (p : CopyPlan) (writer id : Id16)
    → seen_job None (Copying (copy.new_task p writer id)) ≡ m.Publishing (started c (kind_asked p) id)

abbrev pub UploadIsNew : Type 0
UploadIsNew =
    (moment : ℕ) (past : List Item) (base : TxnBase) (view : List Writes) (size : ℕ) (touched : List ℕ)
    (writer id : Id16) → Sound past
    → HasBase past base.number base.block base.entry → IsViewOf base view size touched
    → seen_job None (Uploading (upload.new_upload base size touched writer id) view)
    ≡ m.Publishing (started (container_of moment past) (m.Uploading base.entry.name base.number view) id)

abbrev pub CleanupIsNew : Type 0
CleanupIsNew =
    (c : m.Container) (writer id : Id16)
    → seen_job None (Cleaning (cleanup.new_cleanup writer id)) ≡ m.Publishing (started c m.Cleaning id)

-- as many requests are left as the machine counts
pub record HasLeft (c : m.Container) (kind : m.Kind) (left : ℕ) : Type 0 where
  pub left_is : left ≡ left_at_start c kind

abbrev pub CopyHasLeft : Type 0
CopyHasLeft =
    (c : m.Container) (p : CopyPlan) (writer id : Id16)
    → HasLeft c (kind_asked p) (copy.left_of (copy.new_task p writer id))

abbrev pub UploadHasLeft : Type 0
UploadHasLeft =
    (moment : ℕ) (past : List Item) (base : TxnBase) (view : List Writes) (size : ℕ) (touched : List ℕ)
    (writer id : Id16) → Sound past
    → HasBase past base.number base.block base.entry → IsViewOf base view size touched
    → HasLeft (container_of moment past) (m.Uploading base.entry.name base.number view)
    (upload.left_of (upload.new_upload base size touched writer id))

-- ---- each ask, with the task that the client has then

abbrev pub CreateStarts : Type 0
CreateStarts =
    (moment : ℕ) (past : List Item) (p : Parts) (f : Free) (block retention n : ℕ) (id : Id16)
    → start_reason p (m.Creating block retention) ≡ None
    → least_free (task_numbers p) ≡ Some n → IsId id → has_version past id ≡ false
    → Starts (side_of moment past p f) (seen_up past p) (m.Creating block retention) id (reply.Task n 1)
    (side_of moment past (with_new_task n (Creating block retention id) p) f)

-- a new database, a copy or a removal
abbrev pub CopyStarts : Type 0
CopyStarts =
    (moment : ℕ) (past : List Item) (p : Parts) (f : Free) (x : CopyPlan) (n : ℕ) (id : Id16)
    → start_reason p (kind_asked x) ≡ None
    → least_free (task_numbers p) ≡ Some n → IsId id → has_version past id ≡ false
    → Starts (side_of moment past p f) (seen_up past p) (kind_asked x) id
    (reply.Task n (copy.left_of (copy.new_task x p.id id)))
    (side_of moment past (with_new_task n (Copying (copy.new_task x p.id id)) p) f)

-- what an upload of a database stands on: its base, and all commits that it has
pub record IsUploadOver (l : Local) (base : TxnBase) (size : ℕ) (touched : List ℕ) : Type 0 where
  pub entry : base.entry ≡ l.entry
  pub number : base.number ≡ l.number
  pub block : base.block ≡ l.block
  pub of_view : IsViewOf base (map writes_of l.commits) size touched

-- the new upload of all of them
abbrev pub new_uploading : TxnBase → ℕ → List ℕ → Id16 → Id16 → Local → Job
new_uploading base size touched writer id l =
    Uploading (upload.new_upload base size touched writer id) (map writes_of l.commits)

abbrev pub UploadStarts : Type 0
UploadStarts =
    (moment : ℕ) (log : List Entry) (entries : List cache.Entry) (p : Parts) (f : Free) (db : List ℕ)
    (l : Local) (base : TxnBase) (size : ℕ)
    (touched : List ℕ) (n : ℕ) (id : Id16) → IsSoundLog log → Fits p entries log
    → keyed kept_name db p.kept.locals ≡ Some l
    → IsUploadOver l base size touched → start_reason p (asked_over db (Some l)) ≡ None
    → least_free (task_numbers p) ≡ Some n
    → IsId id → has_version (history_of log) id ≡ false
    → Starts (side_of moment (history_of log) p f) (seen_up (history_of log) p)
    (upload_of (seen_kept p.kept) db) id
    (reply.Task n (upload.left_of (upload.new_upload base size touched p.id id)))
    (side_of moment (history_of log) (with_new_task n (new_uploading base size touched p.id id l) p) f)

-- an upload that is refused
abbrev pub RefusesUpload : Type 0
RefusesUpload =
    (moment : ℕ) (past : List Item) (p : Parts) (f : Free) (db : List ℕ) (id : Id16) (r : Reply)
    → start_reason p (asked_over db (keyed kept_name db p.kept.locals)) ≡ Some r
    → Starts (side_of moment past p f) (seen_up past p) (upload_of (seen_kept p.kept) db) id r
    (side_of moment past p f)

abbrev pub CleanupStarts : Type 0
CleanupStarts =
    (moment : ℕ) (past : List Item) (p : Parts) (f : Free) (n : ℕ) (id : Id16)
    → start_reason p m.Cleaning ≡ None
    → least_free (task_numbers p) ≡ Some n → IsId id → has_version past id ≡ false
    → Starts (side_of moment past p f) (seen_up past p) m.Cleaning id
    (reply.Task n (cleanup.left_of (cleanup.new_cleanup p.id id)))
    (side_of moment past (with_new_task n (Cleaning (cleanup.new_cleanup p.id id)) p) f)

-- ---- that the client with it fits

-- a task that publishes nothing
abbrev pub QuietTaskFits : Type 0
QuietTaskFits =
    (log : List Entry) (p : Parts) (entries : List cache.Entry) (n : ℕ) (j : Job) → Fits p entries log
    → names_of_job j ≡ []
    → Fits (with_new_task n j p) entries log

abbrev pub NewCreateFits : Type 0
NewCreateFits =
    (log : List Entry) (p : Parts) (entries : List cache.Entry) (n block retention : ℕ) (id : Id16)
    → Fits p entries log
    → is_block_size block ≡ true → IsId id → has_version (history_of log) id ≡ false
    → Fits (with_new_task n (Creating block retention id) p) entries log

abbrev pub NewCopyFits : Type 0
NewCopyFits =
    (log : List Entry) (p : Parts) (entries : List cache.Entry) (n : ℕ) (x : CopyPlan) (id : Id16)
    → Fits p entries log
    → copy.IsRunning (copy.new_task x p.id id) → IsId id → has_version (history_of log) id ≡ false
    → Fits (with_new_task n (Copying (copy.new_task x p.id id)) p) entries log

abbrev pub NewUploadFits : Type 0
NewUploadFits =
    (log : List Entry) (p : Parts) (entries : List cache.Entry) (n : ℕ) (base : TxnBase) (view : List Writes)
    (size : ℕ) (touched : List ℕ) (id : Id16)
    → Fits p entries log → upload.IsRunning (upload.new_upload base size touched p.id id) → IsId id
    → has_version (history_of log) id ≡ false
    → IsViewOf base view size touched → list_all (is_commit base.entry.page_size) view ≡ true
    → HasBase (history_of log) base.number base.block base.entry
    → TakesFrom p.kept base.entry.name base.number view
    → Fits (with_new_task n (Uploading (upload.new_upload base size touched p.id id) view) p) entries log

abbrev pub NewCleanupFits : Type 0
NewCleanupFits =
    (log : List Entry) (p : Parts) (entries : List cache.Entry) (n : ℕ) (id : Id16) → Fits p entries log
    → cleanup.IsRunning (cleanup.new_cleanup p.id id) → IsId id → has_version (history_of log) id ≡ false
    → Fits (with_new_task n (Cleaning (cleanup.new_cleanup p.id id)) p) entries log
