-- The machine's state: the container's versions, and what each client keeps and has while it is up.
use Rattle.std.specs.Prelude.{ℕ, ◌+◌, ◌-◌, ◌/◌, ◌^◌, Bool, false, not, ◌||◌, ◌==◌, min, List, [], ◌∷◌, ◌++◌, length, map, replicate, Option, Some, None, is_some, slice_get, slice_set, if◌then◌else◌, option_and_then, find, filter}
use Rattle.std.specs.List.{list_any, flat_map, range_with_len}
use Rattle.std.specs.Option.{option_map, option_to_list}
use Rattle.bcv_base.specs.declared.id.Id16.{Id16}
use Rattle.bcv_base.specs.Ids.{has_id}
use Rattle.bcv_base.specs.Image.{Page, Writes, view_image, is_base, or_else}
use Rattle.bcv_base.specs.Keyed.{keyed}
use Rattle.bcv_base.specs.Version.{Database, Version, the_name}
use Rattle.bcv_base.specs.Views.{view_size}

-- ---- the container

-- what all clients share: the versions, the block size and retention given at the create (0 before it), the moment, and
-- the greatest moment by which a block was deleted
pub record Container : Type 0 where
  pub versions : List Version
  pub block : ℕ
  pub retention : ℕ
  pub moment : ℕ
  pub swept : Option ℕ

abbrev pub version_count : Container → ℕ
version_count c = length c.versions

-- the version of a number, from 1
abbrev pub version_at : Container → ℕ → Option Version
version_at c k = if k == 0 then None else slice_get c.versions (k - 1)

-- the last version, where there is one
abbrev pub last_version : Container → Option Version
last_version c = version_at c (version_count c)

-- a database of a version
abbrev pub database_at : Container → ℕ → List ℕ → Option Database
database_at c k name = option_and_then (λ (v : Version). keyed the_name name v.dbs) (version_at c k)

-- ---- what a client keeps through a crash

-- a database with commits: the number of its base's version, and the commits in order
pub record LocalDb : Type 0 where
  pub name : List ℕ
  pub base : ℕ
  pub commits : List Writes

-- what an upload publishes: the first commits, so many, of a database
pub record Taken : Type 0 where
  pub db : List ℕ
  pub count : ℕ

-- a publication of which it is not known whether it was made: its id, and of an upload what it takes
pub record Pending : Type 0 where
  pub id : Id16
  pub upload : Option Taken

-- the databases with commits, ascending by name, and the pending publication
pub record KeptState : Type 0 where
  pub locals : List LocalDb
  pub pending : Option Pending

-- a note of the client's journal, without its bytes: a commit of a database over the base of a number, a revert, a
-- publication that is about to be tried, that was made as the version of a number, or that was not made
pub data Note : Type 0 where
  Committing : List ℕ → ℕ → Writes → Note
  Reverting : List ℕ → Note
  Intending : Pending → Note
  Finishing : ℕ → Note
  Voiding : Note

-- ---- what a client has while it is up

-- a known database without commits, and the number of its version
pub record KnownDb : Type 0 where
  pub name : List ℕ
  pub base : ℕ

-- a transaction: all but what it holds was fixed as it began
pub record Txn : Type 0 where
  pub number : ℕ
  pub db : List ℕ
  pub base : ℕ
  pub page_size : ℕ
  -- the image of the base, and the commits over it
  pub image : List Page
  pub commits : List Writes
  -- the numbers, from 0, of the blocks that it holds
  pub held : List ℕ

-- what a publication publishes: a container with its block size and retention, a new database with its page size and
-- pages, the commits of a database over the base of a number, a copy, a removal, or a cleanup
pub data Kind : Type 0 where
  Creating : ℕ → ℕ → Kind
  Making : List ℕ → ℕ → List Page → Kind
  Uploading : List ℕ → ℕ → List Writes → Kind
  Copying : List ℕ → List ℕ → Kind
  Removing : List ℕ → Kind
  Cleaning : Kind

-- the moment at which a cleanup began, and how many entries it took
pub record CleanupBegun : Type 0 where
  pub moment : ℕ
  pub count : ℕ

-- a publication that a task makes: its id, how many requests are left, the number of the manifest that it read, the
-- numbers that it read before puts that were refused, whether its intent is noted, and of a cleanup what it began with
pub record Publication : Type 0 where
  pub id : Id16
  pub kind : Kind
  pub left : ℕ
  pub read : Option ℕ
  pub refused : List ℕ
  pub intended : Bool
  pub begun : Option CleanupBegun

-- why a page is fetched: to be read, or for its block to be held
pub data Access : Type 0 where
  ToRead : Access
  ToHold : Access

-- what a task does: it fetches a page of a transaction, polls, publishes, or resolves the pending publication
pub data Job : Type 0 where
  Fetching : Access → ℕ → ℕ → Job
  Polling : Job
  Publishing : Publication → Job
  Resolving : Job

pub record Task : Type 0 where
  pub number : ℕ
  pub job : Job

-- the known databases without commits, ascending by name; whether the journal is closed; transactions and tasks
pub record Up : Type 0 where
  pub known : List KnownDb
  pub closed : Bool
  pub txns : List Txn
  pub tasks : List Task

-- a client: how many slots its cache was given, whether its disk is set to crash or to fail, how many bytes it noted,
-- what it keeps, the note in flight, and what it has while it is up
pub record Client : Type 0 where
  pub slots : ℕ
  pub fused : Bool
  pub failing : Bool
  pub noted : ℕ
  pub kept : KeptState
  pub flight : Option Note
  pub up : Option Up

pub record State : Type 0 where
  pub container : Container
  pub clients : List Client

-- ---- the first state

abbrev pub new_container : Container
new_container = record { versions = []; block = 0; retention = 0; moment = 0; swept = None }

abbrev pub new_up : Up
new_up = record { known = []; closed = false; txns = []; tasks = [] }

abbrev pub new_kept : KeptState
new_kept = record { locals = []; pending = None }

-- 22 bytes are noted for the client's own id
abbrev pub new_client : ℕ → Client
new_client slots = record { slots = slots; fused = false; failing = false; noted = 22; kept = new_kept; flight = None; up = Some new_up }

-- no version, the moment 0, and so many clients that are up with nothing
abbrev pub first_state : ℕ → ℕ → State
first_state clients slots = record { container = new_container; clients = replicate clients (new_client slots) }

-- ---- one client's side

-- the container and one client: all that a step of this client sees and changes
pub record Side : Type 0 where
  pub container : Container
  pub client : Client

-- the client of a number, from 1
abbrev pub client_at : State → ℕ → Option Client
client_at a n = if n == 0 then None else slice_get a.clients (n - 1)

-- the state with a side in the place of the client of a number
abbrev pub put_back : State → ℕ → Side → State
put_back a n s = record { container = s.container; clients = slice_set a.clients (n - 1) s.client }

abbrev pub with_client : Side → Client → Side
with_client s c = record s { client = c }

-- the side whose client is up with this
abbrev pub with_up : Side → Up → Side
with_up s u = record s { client = record s.client { up = Some u } }

-- ---- numbers of transactions and tasks

abbrev pub has_number : ℕ → List ℕ → Bool
has_number n ns = list_any (λ x. x == n) ns

-- the least number from 1 that is none of these
abbrev pub least_free : List ℕ → Option ℕ
least_free ns = find (λ k. not (has_number k ns)) (range_with_len 1 (length ns + 1))

abbrev pub txn_numbers : Up → List ℕ
txn_numbers u = map (λ (t : Txn). t.number) u.txns

abbrev pub task_numbers : Up → List ℕ
task_numbers u = map (λ (t : Task). t.number) u.tasks

abbrev pub txn_at : Up → ℕ → Option Txn
txn_at u n = find (λ (t : Txn). t.number == n) u.txns

abbrev pub task_at : Up → ℕ → Option Task
task_at u n = find (λ (t : Task). t.number == n) u.tasks

-- the client with one more task
abbrev pub with_task : Up → ℕ → Job → Up
with_task u n job = record u { tasks = u.tasks ++ record { number = n; job = job } ∷ [] }

-- the client with the task of a number taken out
abbrev pub without_task : Up → ℕ → Up
without_task u n = record u { tasks = filter (λ (t : Task). not (t.number == n)) u.tasks }

-- ---- ids

-- the ids under which a job publishes
abbrev pub job_ids : Job → List Id16
job_ids (Fetching access t p) = []
job_ids Polling = []
job_ids (Publishing p) = p.id ∷ []
job_ids Resolving = []

-- the ids of the publications that run
abbrev pub running_ids : Option Up → List Id16
running_ids None = []
running_ids (Some u) = flat_map (λ (t : Task). job_ids t.job) u.tasks

abbrev pub pending_ids : Option Pending → List Id16
pending_ids p = option_to_list (option_map (λ (x : Pending). x.id) p)

-- the ids of a client's publications, the pending one and those that run
abbrev pub client_ids : Client → List Id16
client_ids c = pending_ids c.kept.pending ++ running_ids c.up

abbrev pub version_ids : Container → List Id16
version_ids c = map (λ (v : Version). v.id) c.versions

-- no version and no publication of this client has the id
abbrev pub is_unused : Side → Id16 → Bool
is_unused s i = not (has_id i (version_ids s.container ++ client_ids s.client))

-- ---- databases

abbrev pub local_name : LocalDb → List ℕ
local_name d = d.name

abbrev pub known_name : KnownDb → List ℕ
known_name d = d.name

abbrev pub local_commits : Option LocalDb → List Writes
local_commits None = []
local_commits (Some d) = d.commits

-- the commits of a database
abbrev pub commits_in : List LocalDb → List ℕ → List Writes
commits_in ls name = local_commits (keyed local_name name ls)

-- the number of a known database's base, and its commits
pub record View : Type 0 where
  pub base : ℕ
  pub commits : List Writes

abbrev pub local_view : LocalDb → View
local_view d = record { base = d.base; commits = d.commits }

abbrev pub known_view : KnownDb → View
known_view d = record { base = d.base; commits = [] }

-- the view of a database that the client knows
abbrev pub view_of : KeptState → Up → List ℕ → Option View
view_of k u name = or_else (option_map local_view (keyed local_name name k.locals)) (option_map known_view (keyed known_name name u.known))

-- a view's base, in its version
abbrev pub base_of : Container → List ℕ → View → Option Database
base_of c name v = database_at c v.base name

-- what a poll makes known: the databases of a version that have no commits here, at its number
abbrev pub known_at : KeptState → ℕ → List Database → List KnownDb
known_at k n dbs = map (λ (d : Database). record { name = d.name; base = n }) (filter (λ (d : Database). not (is_some (keyed local_name d.name k.locals))) dbs)

-- ---- pages of a transaction

abbrev pub txn_image : Txn → List Page
txn_image t = view_image t.page_size t.image t.commits

-- the size, in pages
abbrev pub txn_size : Txn → ℕ
txn_size t = view_size (length t.image) t.commits

abbrev pub is_local : Txn → ℕ → Bool
is_local t p = not (is_base (length t.image) t.commits p)

-- the number, from 0, of the block that has page p
abbrev pub block_of_page : Container → Txn → ℕ → ℕ
block_of_page c t p = (p - 1) / (c.block / t.page_size)

abbrev pub holds : Container → Txn → ℕ → Bool
holds c t p = has_number (block_of_page c t p) t.held

-- the page is local, or in a block that the transaction holds
abbrev pub is_at_hand : Container → Txn → ℕ → Bool
is_at_hand c t p = is_local t p || holds c t p

-- pairs of a transaction and a block that it holds
abbrev pub held_pairs : Up → ℕ
held_pairs u = length (flat_map (λ (t : Txn). t.held) u.txns)

-- the slots that a client's cache has: those that it was given, and no more than 2^30 bytes
abbrev pub slot_count : Side → ℕ
slot_count s = min s.client.slots (2 ^ 30 / s.container.block)
