-- What a client that is up has in memory, as plain data.
use Rattle.std.specs.Prelude.{ℕ, Bool, List, [], ◌∷◌, ◌++◌, Option, Some, None}
use Rattle.std.specs.List.{flat_map}
use Rattle.bcv_base.specs.declared.id.Id16.{Id16}
use Rattle.bcv_base.specs.declared.seen.Latest.{Latest}
use Rattle.bcv_base.specs.declared.seen.Seen.{Seen}
use Rattle.bcv_base.specs.Image.{Writes}
use Rattle.bcv_cleanup.specs.State as cleanup
use Rattle.bcv_databases.specs.declared.known.Known.{Known}
use Rattle.bcv_dbcopy.specs.State as copy
use Rattle.bcv_machine.specs.State.{Access}
use Rattle.bcv_model.specs.declared.kept.Kept.{Kept}
use Rattle.bcv_model.specs.declared.kept.PendingPub.{PendingPub}
use Rattle.bcv_snapshot.specs.Opened.{Opened}
use Rattle.bcv_upload.specs.State as upload

-- an open transaction: its number, what it keeps, and the commits of its view
pub record OpenTxn : Type 0 where
  pub number : ℕ
  pub txn : Opened
  pub view : List Writes

-- what a task does: it fetches a page of a transaction, polls, makes a container of a block size and a retention under an id,
-- publishes a new database, a copy or a removal, uploads the commits of a view, cleans up, or resolves the pending publication
pub data Job : Type 0 where
  Fetching : Access → ℕ → ℕ → Job
  Polling : Job
  Creating : ℕ → ℕ → Id16 → Job
  Copying : copy.State → Job
  Uploading : upload.State → List Writes → Job
  Cleaning : cleanup.State → Job
  Resolving : Job

pub record Task : Type 0 where
  pub number : ℕ
  pub job : Job

-- the client's id, whether its journal is closed, what it saw of the container, the manifest that it read last, what it keeps
-- through a crash, the known databases without commits, the open transactions and the tasks
pub record Parts : Type 0 where
  pub id : Id16
  pub closed : Bool
  pub seen : Seen
  pub latest : Option Latest
  pub kept : Kept
  pub known : List Known
  pub txns : List OpenTxn
  pub tasks : List Task

-- ---- the ledger

-- of a client's parts those that its log and the databases have: whether the journal is closed, what is kept, and what is known
pub record LedgerParts : Type 0 where
  pub closed : Bool
  pub kept : Kept
  pub known : List Known

abbrev pub ledger_of : Parts → LedgerParts
ledger_of p = record { closed = p.closed; kept = p.kept; known = p.known }

-- the client with these
abbrev pub with_ledger : LedgerParts → Parts → Parts
with_ledger l p = record p { closed = l.closed; kept = l.kept; known = l.known }

-- ---- the names that are mine

abbrev pub names_of_pending : Option PendingPub → List Id16
names_of_pending None = []
names_of_pending (Some p) = p.id ∷ []

-- the id of a publication, and those of the blocks that it has put so far
abbrev pub names_of_job : Job → List Id16
names_of_job (Fetching access txn page) = []
names_of_job Polling = []
names_of_job (Creating block retention id) = id ∷ []
names_of_job (Copying s) = s.publish.id ∷ copy.put_ids s.edit
names_of_job (Uploading s view) = s.publish.id ∷ s.ids
names_of_job (Cleaning s) = s.publish.id ∷ []
names_of_job Resolving = []

-- the client's id, that of the pending publication, and those of its tasks
abbrev pub mine_of : Parts → List Id16
mine_of p = p.id ∷ (names_of_pending p.kept.pending ++ flat_map (λ (t : Task). names_of_job t.job) p.tasks)
