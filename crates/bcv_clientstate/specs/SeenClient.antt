-- A client in the machine's words, by what it has in memory and a history of the store's log.
use Rattle.std.specs.Prelude.{ℕ, Bool, false, List, [], length, map, Option, Some, None}
use Rattle.std.specs.Option.{option_map}
use Rattle.bcv_base.specs.declared.id.Id16.{Id16}
use Rattle.bcv_base.specs.declared.seen.Latest.{Latest}
use Rattle.bcv_base.specs.History.{Item}
use Rattle.bcv_base.specs.Ids.{id_eq}
use Rattle.bcv_base.specs.Image.{Page, Writes}
use Rattle.bcv_base.specs.Joined.{image_of}
use Rattle.bcv_cleanup.specs.State as cleanup
use Rattle.bcv_dbcopy.specs.State as copy
use Rattle.bcv_dbmap.specs.declared.plan.EditPlan.{EditPlan}
use Rattle.bcv_dbmap.specs.declared.plan.EditPlan.TheVariants as edit
use Rattle.bcv_model.specs.declared.kept.PendingPub.{PendingPub}
use Rattle.bcv_publish.specs.State as publish
use Rattle.bcv_snapshot.specs.declared.held_block.HeldBlock.{HeldBlock}
use Rattle.bcv_upload.specs.State as upload
use Rattle.bcv_machine.specs.State as m
use Rattle.bcv_databases.specs.declared.known.Known.{Known}
use Rattle.bcv_clientstate.specs.Parts.{OpenTxn, Job, Fetching, Polling, Creating, Copying, Uploading, Cleaning, Resolving, Task, Parts}
use Rattle.bcv_clientstate.specs.SeenContainer.{container_of}
use Rattle.bcv_clientstate.specs.SeenKept.{seen_kept}

-- ---- databases and transactions

abbrev pub seen_known : Known → m.KnownDb
seen_known k = record { name = k.entry.name; base = k.number }

-- the image is what the blocks of the base's entry make
abbrev pub seen_txn : List Item → OpenTxn → m.Txn
seen_txn past t = record {
  number = t.number;
  db = t.txn.base.entry.name;
  base = t.txn.base.number;
  page_size = t.txn.base.entry.page_size;
  image = image_of past t.txn.base.entry.pages t.txn.base.entry.page_size t.txn.base.entry.blocks;
  commits = t.view;
  held = map (λ (h : HeldBlock). h.number) t.txn.held;
}

-- ---- publications

-- what a task publishes that needs no view
abbrev pub kind_of : EditPlan → List Page → m.Kind
kind_of (edit.New e) pages = m.Making e.name e.page_size pages
kind_of (edit.Upload from e) pages = m.Uploading e.name 0 []
kind_of (edit.Copy from to) pages = m.Copying from to
kind_of (edit.Remove name) pages = m.Removing name
kind_of (edit.Sweep ids) pages = m.Cleaning

-- the intent of a publication is noted where it is the pending one
abbrev pub has_intent : Option PendingPub → Id16 → Bool
has_intent None id = false
has_intent (Some p) id = id_eq p.id id

abbrev pub read_number : Option Latest → Option ℕ
read_number l = option_map (λ (x : Latest). x.manifest.number) l

abbrev pub seen_publication : Option PendingPub → publish.State → m.Kind → ℕ → Option m.CleanupBegun → m.Publication
seen_publication waiting p kind left begun =
    record { id = p.id; kind = kind; left = left; read = read_number p.latest; refused = p.refused; intended = has_intent waiting p.id; begun = begun }

-- a create is as though it had read number 0
abbrev pub seen_create : Option PendingPub → ℕ → ℕ → Id16 → m.Publication
seen_create waiting block retention id =
    record { id = id; kind = m.Creating block retention; left = 1; read = Some 0; refused = []; intended = has_intent waiting id; begun = None }

-- the moment at which a cleanup began, and how many entries it took
abbrev pub seen_begun : cleanup.State → Option m.CleanupBegun
seen_begun s = option_map (λ (moment : ℕ). record { moment = moment; count = length (cleanup.taken_ids s) }) s.moment

-- a new database, a copy or a removal; an upload of the commits of a view; and a cleanup
abbrev pub seen_copying : Option PendingPub → copy.State → m.Publication
seen_copying waiting s = seen_publication waiting s.publish (kind_of s.edit s.pages) (copy.left_of s) None

abbrev pub seen_uploading : Option PendingPub → upload.State → List Writes → m.Publication
seen_uploading waiting s view = seen_publication waiting s.publish (m.Uploading s.base.entry.name s.base.number view) (upload.left_of s) None

abbrev pub seen_cleaning : Option PendingPub → cleanup.State → m.Publication
seen_cleaning waiting s = seen_publication waiting s.publish m.Cleaning (cleanup.left_of s) (seen_begun s)

-- ---- tasks

abbrev pub seen_job : Option PendingPub → Job → m.Job
seen_job waiting (Fetching access txn page) = m.Fetching access txn page
seen_job waiting Polling = m.Polling
seen_job waiting (Creating block retention id) = m.Publishing (seen_create waiting block retention id)
seen_job waiting (Copying s) = m.Publishing (seen_copying waiting s)
seen_job waiting (Uploading s view) = m.Publishing (seen_uploading waiting s view)
seen_job waiting (Cleaning s) = m.Publishing (seen_cleaning waiting s)
seen_job waiting Resolving = m.Resolving

abbrev pub seen_task : Option PendingPub → Task → m.Task
seen_task waiting t = record { number = t.number; job = seen_job waiting t.job }

-- ---- the client

abbrev pub seen_up : List Item → Parts → m.Up
seen_up past p =
    record { known = map seen_known p.known; closed = p.closed; txns = map (seen_txn past) p.txns; tasks = map (seen_task p.kept.pending) p.tasks }

-- what is no function of client and log: the slots that were given, what is armed on the disk, the bytes noted, the note in flight
pub record Free : Type 0 where
  pub slots : ℕ
  pub fused : Bool
  pub failing : Bool
  pub noted : ℕ
  pub flight : Option m.Note

abbrev pub seen_client : List Item → Parts → Free → m.Client
seen_client past p f =
    record { slots = f.slots; fused = f.fused; failing = f.failing; noted = f.noted; kept = seen_kept p.kept; flight = f.flight; up = Some (seen_up past p) }

-- the container and the client
abbrev pub side_of : ℕ → List Item → Parts → Free → m.Side
side_of moment past p f = record { container = container_of moment past; client = seen_client past p f }
