-- What ties a client to a log: what it keeps of versions, publications and blocks is so in the log.
use Rattle.std.specs.Prelude.{◌≡◌, ◌⊎◌, ◌≤◌, ℕ, true, false, List, length, map, take, Some, None, IfSome}
use Rattle.std.specs.List.{AllByRecursion, list_all}
use Rattle.bcv_base.specs.declared.id.Id16.{Id16}
use Rattle.bcv_base.specs.declared.log.Entry.{Entry}
use Rattle.bcv_base.specs.declared.seen.Seen.{Seen}
use Rattle.bcv_base.specs.History.{Item, count_of, history_of, first_put}
use Rattle.bcv_base.specs.Ids.{IsId, has_id}
use Rattle.bcv_base.specs.Image.{Writes}
use Rattle.bcv_base.specs.ManifestRules.{Ascends, is_block_size}
use Rattle.bcv_base.specs.Keyed.{keyed}
use Rattle.bcv_base.specs.Views.{is_commit, view_size}
use Rattle.bcv_cache.specs.Entry as cache
use Rattle.bcv_cleanup.specs.CleanupWork.{HasTaken}
use Rattle.bcv_cleanup.specs.State as cleanup
use Rattle.bcv_dbcopy.specs.State as copy
use Rattle.bcv_dbcopy.specs.TaskWork as copying
use Rattle.bcv_dbmap.specs.Kept.{IsKept}
use Rattle.bcv_dbmap.specs.Outlived.{IsPublished}
use Rattle.bcv_dbmap.specs.Past.{has_version, last_own}
use Rattle.bcv_model.specs.declared.kept.Kept.{Kept}
use Rattle.bcv_model.specs.declared.kept.Local.{Local}
use Rattle.bcv_model.specs.declared.kept.PendingPub.{PendingPub}
use Rattle.bcv_model.specs.Commits.{writes_of}
use Rattle.bcv_model.specs.Notes.{kept_name}
use Rattle.bcv_publish.specs.State as publish
use Rattle.bcv_snapshot.specs.Opened.{IsTxn}
use Rattle.bcv_upload.specs.BlockText.{IsViewOf}
use Rattle.bcv_upload.specs.State as upload
use Rattle.bcv_upload.specs.UploadWork as uploading
use Rattle.bcv_base.specs.declared.manifest.Manifest.{Manifest}
use Rattle.bcv_clientstate.specs.BaseLaws.{FitsLocal}
use Rattle.bcv_clientstate.specs.KeptLaws.{IsOrdered}
use Rattle.bcv_databases.specs.declared.known.Known.{Known}
use Rattle.bcv_databases.specs.Catalog.{known_name}
use Rattle.bcv_clientstate.specs.Parts.{OpenTxn, Job, Fetching, Polling, Creating, Copying, Uploading, Cleaning, Resolving, Task, Parts, mine_of}
use Rattle.bcv_clientstate.specs.SeenContainer.{HasBase}
use Rattle.bcv_clientstate.specs.Stages.{IsStagedTask}

-- ---- what it saw

-- the block size is that of a published manifest, and the number is none that is still to come
pub record FitsSeen (past : List Item) (s : Seen) : Type 0 where
  pub block : IfSome s.block (λ b. (m : Manifest) × IsPublished m past × (m.block ≡ b))
  pub number : s.number ≤ count_of past

-- ---- databases and transactions

abbrev pub FitsKnown : List Item → Known → Type 0
FitsKnown past k = HasBase past k.number k.block k.entry

-- a transaction stands on a base of its block size, and its commits are commits of the base's page size
pub record FitsTxn (past : List Item) (t : OpenTxn) : Type 0 where
  pub base : HasBase past t.txn.base.number t.txn.base.block t.txn.base.entry
  pub is_txn : IsTxn t.txn
  pub size : t.txn.size ≡ view_size t.txn.base.entry.pages t.view
  pub commits : list_all (is_commit t.txn.base.entry.page_size) t.view ≡ true

-- ---- publications

-- a publication was made: it is its writer's last one, and what it uploaded is in its version
pub record IsMade (past : List Item) (writer : Id16) (p : PendingPub) : Type 0 where
  pub number : ℕ
  pub last : last_own past writer ≡ Some (record { id = p.id; number = number })
  pub entry : IfSome p.upload (λ u. HasBase past number u.block u.entry)

-- it was not made, or it was
abbrev pub FitsPending : List Item → Id16 → PendingPub → Type 0
FitsPending past writer p = (has_version past p.id ≡ false) ⊎ IsMade past writer p

-- a publication of the client under an id of its own that no version has, over a manifest that it keeps
pub record FitsPublish (mine : List Id16) (writer : Id16) (log : List Entry) (p : publish.State) : Type 0 where
  pub same_writer : p.writer ≡ writer
  pub writer_is_mine : has_id writer mine ≡ true
  pub is_id : IsId p.id
  pub is_mine : has_id p.id mine ≡ true
  pub fresh : has_version (history_of log) p.id ≡ false
  pub read : IfSome p.latest (IsKept log)

-- the database has the commits of the view, and maybe later ones, over the base of this number
pub record TakesFrom (k : Kept) (name : List ℕ) (number : ℕ) (view : List Writes) : Type 0 where
  pub local : Local
  pub is_local : keyed kept_name name k.locals ≡ Some local
  pub base : local.number ≡ number
  pub first : take (length view) (map writes_of local.commits) ≡ view
  pub some : 1 ≤ length view

abbrev pub FitsJob : List Id16 → Id16 → Kept → List Entry → Job → Type 0
FitsJob mine writer kept log (Fetching access txn page) = Unit {0}
FitsJob mine writer kept log Polling = Unit {0}
FitsJob mine writer kept log (Creating block retention id) =
    (is_block_size block ≡ true) × IsId id × (has_id id mine ≡ true) × (has_id writer mine ≡ true) × (has_version (history_of log) id ≡ false)
FitsJob mine writer kept log (Copying s) = copy.IsRunning s × FitsPublish mine writer log s.publish × copying.OwnsBlocks mine log s
FitsJob mine writer kept log (Uploading s view) =
    upload.IsRunning s × FitsPublish mine writer log s.publish × uploading.OwnsBlocks mine log view s × IsViewOf s.base view s.size s.touched
    × (list_all (is_commit s.base.entry.page_size) view ≡ true) × HasBase (history_of log) s.base.number s.base.block s.base.entry × TakesFrom kept s.base.entry.name s.base.number view
FitsJob mine writer kept log (Cleaning s) = cleanup.IsRunning s × FitsPublish mine writer log s.publish × HasTaken log s
FitsJob mine writer kept log Resolving = Unit {0}

abbrev pub FitsTask : List Id16 → Id16 → Kept → List Entry → Task → Type 0
FitsTask mine writer kept log t = FitsJob mine writer kept log t.job

-- ---- the cache

-- a cached block has the bytes first put under its id
abbrev pub FitsEntry : List Item → cache.Entry → Type 0
FitsEntry past e = first_put past e.id ≡ Some e.bytes

-- ---- the client

pub record Fits (p : Parts) (entries : List cache.Entry) (log : List Entry) : Type 0 where
  pub named : p.kept.me ≡ Some p.id
  pub is_id : IsId p.id
  pub ordered : IsOrdered p.kept
  pub locals : AllByRecursion (FitsLocal (history_of log)) p.kept.locals
  pub known_order : Ascends known_name p.known
  pub known_apart : AllByRecursion (λ k. keyed kept_name (known_name k) p.kept.locals ≡ None) p.known
  pub known : AllByRecursion (FitsKnown (history_of log)) p.known
  pub pending : IfSome p.kept.pending (FitsPending (history_of log) p.id)
  pub latest : IfSome p.latest (IsKept log)
  pub seen : FitsSeen (history_of log) p.seen
  pub txns : AllByRecursion (FitsTxn (history_of log)) p.txns
  pub tasks : AllByRecursion (FitsTask (mine_of p) p.id p.kept log) p.tasks
  pub staged : AllByRecursion IsStagedTask p.tasks
  pub cached : AllByRecursion (FitsEntry (history_of log)) entries
