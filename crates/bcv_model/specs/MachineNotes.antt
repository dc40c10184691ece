-- The notes around a publication that is no upload, and what is kept behind them.
use Rattle.std.specs.Prelude.{ℕ, ◌+◌, List, [], ◌∷◌, Some, None}
use Rattle.bcv_base.specs.declared.id.Id16.{Id16}
use Rattle.bcv_model.specs.MachineState.{State, Here, Client, KeptState, Pending, Task, Up, with_client, without, without_task}

-- what a note of so many bytes adds to those noted
abbrev pub noted_by : ℕ → ℕ
noted_by n = 5 + n

-- an intent has 18 bytes, and is noted before the first put alone
abbrev pub intent_bytes : List ℕ → ℕ
intent_bytes [] = noted_by 18
intent_bytes (n ∷ ns) = 0

abbrev pub done_bytes : ℕ
done_bytes = noted_by 25

abbrev pub void_bytes : ℕ
void_bytes = noted_by 17

-- no publication is pending any more
abbrev pub settled : KeptState → KeptState
settled k = record k { pending = None }

-- a publication is pending under the id
abbrev pub pending : KeptState → Id16 → KeptState
pending k id = record k { pending = Some (record { id = id; upload = None }) }

-- what the client has while it is up, without the task
abbrev pub up_without : Here → Task → Up
up_without h task = record h.up { tasks = without_task task.number h.up.tasks }

-- the client behind a put that failed: the publication is pending, and the task has ended
abbrev pub pending_client : Here → Task → Id16 → Client
pending_client h task id =
    record h.client { noted = h.client.noted + intent_bytes task.refused; kept = pending h.client.kept id; up = Some (up_without h task) }

-- the client behind a put after which no further one is tried: intent and void are noted, and the task has ended
abbrev pub voided_client : Here → Task → Client
voided_client h task =
    record h.client { noted = h.client.noted + intent_bytes task.refused + void_bytes; kept = settled h.client.kept; up = Some (up_without h task) }

-- a task ends before its put: where an earlier put noted the intent, the void is noted
abbrev pub ended : Here → Task → List ℕ → State
ended h task [] = without h task.number
ended h task (n ∷ ns) = with_client h (record h.client { noted = h.client.noted + void_bytes; kept = settled h.client.kept; up = Some (up_without h task) })
