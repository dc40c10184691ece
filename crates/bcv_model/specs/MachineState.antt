-- The machine's state: the container's versions, and what each client has.
use Rattle.std.specs.Prelude.{◌≡◌, ℕ, ◌-◌, ◌/◌, ◌≤◌, ◌<◌, Bool, true, false, not, ◌||◌, ◌==◌, List, [], ◌++◌, length, map, replicate, Option, Some, None, is_some, slice_get, slice_set, if◌then◌else◌, option_and_then, find, filter}
use Rattle.std.specs.List.{list_any, flat_map}
use Rattle.std.specs.Option.{option_map, option_to_list}
use Rattle.bcv_base.specs.declared.id.Id16.{Id16}
use Rattle.bcv_base.specs.Ids.{has_id}
use Rattle.bcv_base.specs.Image.{Page, Writes, view_image, is_base, or_else}
use Rattle.bcv_base.specs.Keyed.{keyed}
use Rattle.bcv_base.specs.Version.{Database, Version, the_name}

-- ---- what a client keeps through a crash

-- a database with commits: the number of its base's version, and the commits in order
pub record LocalDb : Type 0 where
  pub name : List ℕ
  pub base : ℕ
  pub commits : List Writes

-- a pending publication: its id, and of an upload the database and how many commits it takes
pub record Pending : Type 0 where
  pub id : Id16
  pub upload : Option (List ℕ × ℕ)

pub record KeptState : Type 0 where
  pub locals : List LocalDb
  pub pending : Option Pending

-- a note that may be in flight at a crash
pub data Note : Type 0 where
  Committing : List ℕ → ℕ → Writes → Note
  Reverting : List ℕ → Note
  Intending : Pending → Note
  Finishing : ℕ → Note
  Voiding : Note

-- ---- what a client has while it is up

-- a known database without commits, and the number of its version
pub record KnownDb : Type 0 where
  pub name : List ℕ
  pub base : ℕ

-- a transaction: all but what it holds was fixed as it began
pub record Txn : Type 0 where
  pub number : ℕ
  pub db : List ℕ
  pub base : ℕ
  pub page_size : ℕ
  -- the image of the base, and the commits over it
  pub image : List Page
  pub commits : List Writes
  -- the numbers, from 0, of the blocks that it holds
  pub held : List ℕ

pub data Kind : Type 0 where
  Reading : ℕ → ℕ → Kind
  Holding : ℕ → ℕ → Kind
  Polling : Kind
  Creating : ℕ → ℕ → Kind
  Making : List ℕ → ℕ → List Page → Kind
  Uploading : List ℕ → ℕ → List Writes → Kind
  Copying : List ℕ → List ℕ → Kind
  Removing : List ℕ → Kind
  Cleaning : Kind
  Resolving : Kind

-- a task: its number, what it does, the id that it publishes under, how many requests are left, the number of the
-- manifest that it read, the numbers that it read before puts that were refused, and of a cleanup its moment and count
pub record Task : Type 0 where
  pub number : ℕ
  pub kind : Kind
  pub id : Option Id16
  pub left : ℕ
  pub read : Option ℕ
  pub refused : List ℕ
  pub cleans : Option (ℕ × ℕ)

pub record Up : Type 0 where
  pub known : List KnownDb
  pub closed : Bool
  pub txns : List Txn
  pub tasks : List Task

-- a client: how many slots its cache has, whether its disk is set to crash or to fail, how many bytes it noted, what it
-- keeps, the note in flight, and what it has while it is up
pub record Client : Type 0 where
  pub slots : ℕ
  pub fused : Bool
  pub failing : Bool
  pub noted : ℕ
  pub kept : KeptState
  pub flight : Option Note
  pub up : Option Up

-- the block size and the retention are those given at the create, and 0 before it
pub record State : Type 0 where
  pub versions : List Version
  pub block : ℕ
  pub retention : ℕ
  pub moment : ℕ
  -- the greatest moment by which a block was deleted
  pub swept : Option ℕ
  pub clients : List Client

-- ---- the first state

abbrev pub new_up : Up
new_up = record { known = []; closed = false; txns = []; tasks = [] }

abbrev pub new_kept : KeptState
new_kept = record { locals = []; pending = None }

-- 22 bytes are noted for the client's own id
abbrev pub new_client : ℕ → Client
new_client slots = record { slots = slots; fused = false; failing = false; noted = 22; kept = new_kept; flight = None; up = Some new_up }

-- no version, the moment 0, and so many clients with nothing
abbrev pub first_state : ℕ → ℕ → State
first_state clients slots = record { versions = []; block = 0; retention = 0; moment = 0; swept = None; clients = replicate clients (new_client slots) }

-- ---- one client that is up

-- a state, and one of its clients, which is up
pub record Here : Type 0 where
  pub state : State
  -- the client's number, from 1
  pub number : ℕ
  pub client : Client
  pub up : Up

pub record IsHere (a : State) (n : ℕ) (h : Here) : Type 0 where
  pub same_state : h.state ≡ a
  pub same_number : h.number ≡ n
  pub from_one : 1 ≤ n
  pub is_client : slice_get a.clients (n - 1) ≡ Some h.client
  pub is_up : h.client.up ≡ Some h.up

-- the state with another client in this one's place
abbrev pub with_client : Here → Client → State
with_client h c = record h.state { clients = slice_set h.state.clients (h.number - 1) c }

-- the state after a change of what the client has while it is up
abbrev pub with_up : Here → Up → State
with_up h u = with_client h (record h.client { up = Some u })

-- ---- numbers of transactions and tasks

abbrev pub has_number : ℕ → List ℕ → Bool
has_number n ns = list_any (λ x. x == n) ns

-- the least number from 1 that is none of these
pub record IsLeastFree (ns : List ℕ) (n : ℕ) : Type 0 where
  pub from_one : 1 ≤ n
  pub free : has_number n ns ≡ false
  pub least : (k : ℕ) → 1 ≤ k → k < n → has_number k ns ≡ true

abbrev pub txn_at : ℕ → List Txn → Option Txn
txn_at n ts = find (λ (t : Txn). t.number == n) ts

abbrev pub task_at : ℕ → List Task → Option Task
task_at n ts = find (λ (t : Task). t.number == n) ts

-- the tasks without the one of a number
abbrev pub without_task : ℕ → List Task → List Task
without_task n ts = filter (λ (t : Task). not (t.number == n)) ts

-- the tasks with one in the place of the one of its number
abbrev pub with_task : Task → List Task → List Task
with_task t ts = map (λ (x : Task). if x.number == t.number then t else x) ts

-- the state after a task has ended, and nothing else has changed
abbrev pub without : Here → ℕ → State
without h number = with_up h (record h.up { tasks = without_task number h.up.tasks })

-- ---- ids

-- the ids of a client's tasks and of its pending publication
abbrev pub client_ids : Client → List Id16
client_ids c =
    option_to_list (option_map (λ (p : Pending). p.id) c.kept.pending)
    ++ flat_map (λ (u : Up). flat_map (λ (t : Task). option_to_list t.id) u.tasks) (option_to_list c.up)

-- no version, no pending publication and no task has the id
abbrev pub is_fresh : State → Id16 → Bool
is_fresh a i = not (has_id i (map (λ (v : Version). v.id) a.versions ++ flat_map client_ids a.clients))

-- ---- databases

abbrev pub local_name : LocalDb → List ℕ
local_name d = d.name

abbrev pub known_name : KnownDb → List ℕ
known_name d = d.name

-- the version of a number, from 1
abbrev pub version_at : State → ℕ → Option Version
version_at a k = if k == 0 then None else slice_get a.versions (k - 1)

-- a database of a version
abbrev pub database_at : State → ℕ → List ℕ → Option Database
database_at a k name = option_and_then (λ (v : Version). keyed the_name name v.dbs) (version_at a k)

-- the number of a known database's base, and its commits
pub record View : Type 0 where
  pub base : ℕ
  pub commits : List Writes

abbrev pub view_of : Here → List ℕ → Option View
view_of h name =
    or_else (option_map (λ (d : LocalDb). record { base = d.base; commits = d.commits }) (keyed local_name name h.client.kept.locals))
    (option_map (λ (d : KnownDb). record { base = d.base; commits = [] }) (keyed known_name name h.up.known))

-- what a poll makes known: the databases of a version that have no commits here, at its number
abbrev pub known_at : KeptState → ℕ → List Database → List KnownDb
known_at kept k dbs =
    map (λ (d : Database). record { name = d.name; base = k }) (filter (λ (d : Database). not (is_some (keyed local_name d.name kept.locals))) dbs)

-- ---- pages of a transaction

abbrev pub txn_image : Txn → List Page
txn_image t = view_image t.page_size t.image t.commits

abbrev pub is_local : Txn → ℕ → Bool
is_local t p = not (is_base (length t.image) t.commits p)

-- the number, from 0, of the block that has page p
abbrev pub block_of_page : State → Txn → ℕ → ℕ
block_of_page a t p = (p - 1) / (a.block / t.page_size)

-- the page is local, or in a block that the transaction holds
abbrev pub is_at_hand : State → Txn → ℕ → Bool
is_at_hand a t p = is_local t p || has_number (block_of_page a t p) t.held

-- pairs of a transaction and a block that it holds
abbrev pub held_pairs : Up → ℕ
held_pairs u = length (flat_map (λ (t : Txn). t.held) u.txns)
