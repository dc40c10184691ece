-- The manifest's get of a publishing task.
use Rattle.std.specs.Prelude.{◌≡◌, ℕ, ◌+◌, ◌-◌, ◌^◌, ◌<◌, ◌≤◌, ◌==◌, List, [], ◌∷◌, length, Option, Some, None, is_some, is_none, nat_lt, nat_le, if◌then◌else◌}
use Rattle.bcv_base.specs.declared.outcome.Outcome.{Outcome}
use Rattle.bcv_base.specs.declared.outcome.Outcome.TheVariants as outcome
use Rattle.bcv_base.specs.BlockCounts.{all_blocks}
use Rattle.bcv_base.specs.Keyed.{keyed}
use Rattle.bcv_base.specs.ManifestRules.{blocks_needed}
use Rattle.bcv_base.specs.SizeLimits.{most_writers, most_databases, most_blocks, most_dead}
use Rattle.bcv_base.specs.Version.{Database, Version, the_name}
use Rattle.bcv_model.specs.declared.reply.Reply.{Reply}
use Rattle.bcv_model.specs.declared.reply.Reply.TheVariants as reply
use Rattle.bcv_model.specs.MachineNotes.{ended}
use Rattle.bcv_model.specs.MachineState.{State, Here, Task, Kind, Making, Copying, Removing, with_up, with_task, version_at}

-- ---- faults that the version decides

-- why a new database can't be published over a version, the first reason
abbrev pub new_fault : ℕ → List Database → List ℕ → ℕ → ℕ → Option Reply
new_fault block dbs name page_size pages =
    if is_some (keyed the_name name dbs) then Some reply.Exists
    else (if nat_lt block page_size then Some reply.PageTooLarge
    else (if nat_lt most_blocks (blocks_needed block page_size pages) then Some reply.TooLarge
    else (if nat_le most_databases (length dbs) then Some reply.TooManyDatabases else None)))

-- why a copy can't
abbrev pub copy_fault : List Database → List ℕ → List ℕ → Option Reply
copy_fault dbs from to =
    if is_none (keyed the_name from dbs) then Some reply.NoDatabase
    else (if is_some (keyed the_name to dbs) then Some reply.Exists
    else (if nat_le most_databases (length dbs) then Some reply.TooManyDatabases else None))

abbrev pub kind_fault : ℕ → List Database → Kind → Option Reply
kind_fault block dbs (Making d page_size pages) = new_fault block dbs d page_size (length pages)
kind_fault block dbs (Copying a b) = copy_fault dbs a b
kind_fault block dbs (Removing a) = if is_none (keyed the_name a dbs) then Some reply.NoDatabase else None
kind_fault block dbs _ = None

-- why the task's edit can't be published over a version, the first reason
abbrev pub edit_fault : State → Version → Kind → Option Reply
edit_fault a v kind = if length a.versions == 2 ^ 64 - 1 then Some reply.VersionsFull else kind_fault a.block v.dbs kind

-- ---- want of room

-- a fault of the edit: the first that the version decides, exactly; else want of room, which may come only where there are
-- very many versions, or blocks of all versions together
abbrev pub Faults : State → Version → Kind → Reply → Type 0
Faults a v kind reply.WritersFull = (edit_fault a v kind ≡ None) × (most_writers ≤ length a.versions)
Faults a v kind reply.DeleteListFull = (edit_fault a v kind ≡ None) × (most_dead < all_blocks a.block a.versions)
Faults a v kind reply.ManifestTooLong = (edit_fault a v kind ≡ None) × (most_dead < all_blocks a.block a.versions)
Faults a v kind r = edit_fault a v kind ≡ Some r

-- ---- the get

-- the requests that are left behind the first get, and behind a later one: then the put alone
abbrev pub LeftBehind : ℕ → Kind → List ℕ → ℕ → Type 0
LeftBehind block (Making d page_size pages) [] left = left ≡ blocks_needed block page_size (length pages) + 1
LeftBehind block (Copying a b) [] left = left ≡ 1
LeftBehind block (Removing a) [] left = left ≡ 1
LeftBehind block _ [] left = ⊥
LeftBehind block kind (n ∷ ns) left = left ≡ 1

-- the last version is read, and the task goes on; or there is none, or the edit can't be published over it; or the request
-- failed
abbrev pub Gets : Here → Task → Outcome → Reply → State → Type 0
Gets h task outcome.Ok (reply.Working left) b =
    (v : Version) × (version_at h.state (length h.state.versions) ≡ Some v) × (edit_fault h.state v task.kind ≡ None) × LeftBehind h.state.block task.kind task.refused left
    × (b ≡ with_up h (record h.up { tasks = with_task (record task { left = left; read = Some (length h.state.versions) }) h.up.tasks }))
Gets h task outcome.Ok reply.NoContainer b = (length h.state.versions ≡ 0) × (b ≡ ended h task task.refused)
Gets h task outcome.Ok r b = (v : Version) × (version_at h.state (length h.state.versions) ≡ Some v) × Faults h.state v task.kind r × (b ≡ ended h task task.refused)
Gets h task outcome.Fail reply.StoreFault b = b ≡ ended h task task.refused
Gets h task outcome.Lost reply.StoreFault b = b ≡ ended h task task.refused
Gets h task _ _ b = ⊥
