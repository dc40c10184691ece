-- Starting a publishing task.
use Rattle.std.specs.Prelude.{◌≡◌, ℕ, ◌+◌, Bool, true, false, [], ◌∷◌, ◌++◌, length, map, Option, Some, None, is_some, nat_le, if◌then◌else◌}
use Rattle.std.specs.List.{list_any}
use Rattle.bcv_base.specs.declared.id.Id16.{Id16}
use Rattle.bcv_base.specs.Ids.{IsId}
use Rattle.bcv_base.specs.Keyed.{keyed}
use Rattle.bcv_model.specs.declared.reply.Reply.{Reply}
use Rattle.bcv_model.specs.declared.reply.Reply.TheVariants as reply
use Rattle.bcv_model.specs.MachineState.{State, Here, Up, Task, local_name, Kind, Reading, Holding, Polling, Creating, Making, Uploading, Copying, Removing, Cleaning, Resolving, with_up, IsLeastFree, is_fresh}

-- the task publishes or resolves
abbrev pub publishes : Kind → Bool
publishes (Reading t p) = false
publishes (Holding t p) = false
publishes Polling = false
publishes (Creating block retention) = true
publishes (Making d page_size pages) = true
publishes (Uploading d base commits) = true
publishes (Copying a b) = true
publishes (Removing a) = true
publishes Cleaning = true
publishes Resolving = true

-- a publishing or resolving task runs
abbrev pub is_busy : Up → Bool
is_busy u = list_any (λ (t : Task). publishes t.kind) u.tasks

-- a database that is to be removed has commits
abbrev pub has_local : Here → Kind → Bool
has_local h (Removing a) = is_some (keyed local_name a h.client.kept.locals)
has_local h _ = false

-- why no publishing task can start, the first reason
abbrev pub start_refusal : Here → Kind → Option Reply
start_refusal h kind =
    if h.up.closed then Some reply.Closed
    else (if is_some h.client.kept.pending then Some reply.Pending
    else (if is_busy h.up then Some reply.Busy
    else (if has_local h kind then Some reply.HasLocal
    else (if nat_le 16 (length h.up.tasks) then Some reply.TooMany else None))))

-- the requests that a publishing task has left as it starts
abbrev pub LeftAtStart : Kind → ℕ → Type 0
LeftAtStart (Creating block retention) left = left ≡ 1
LeftAtStart (Making d page_size pages) left = left ≡ length pages + 2
LeftAtStart (Copying a b) left = left ≡ 2
LeftAtStart (Removing a) left = left ≡ 2
LeftAtStart _ left = ⊥

abbrev pub started : ℕ → Kind → Id16 → ℕ → Task
started n kind id left = record { number = n; kind = kind; id = Some id; left = left; read = None; refused = []; cleans = None }

-- where no reason is against it, the task starts with the least free number and a fresh id
abbrev pub Starts : Here → Kind → Id16 → Reply → State → Type 0
Starts h kind id (reply.Task n left) b =
    (start_refusal h kind ≡ None) × IsLeastFree (map (λ (t : Task). t.number) h.up.tasks) n × LeftAtStart kind left × IsId id × (is_fresh h.state id ≡ true)
    × (b ≡ with_up h (record h.up { tasks = h.up.tasks ++ started n kind id left ∷ [] }))
Starts h kind id r b = (start_refusal h kind ≡ Some r) × (b ≡ h.state)
