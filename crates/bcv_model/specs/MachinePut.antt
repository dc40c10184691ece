-- The manifest's put of a publishing task, with the notes around it.
use Rattle.std.specs.Prelude.{◌≡◌, ℕ, ◌+◌, ◌<◌, Bool, true, false, [], ◌∷◌, ◌++◌, length, Option, Some, None}
use Rattle.bcv_base.specs.declared.id.Id16.{Id16}
use Rattle.bcv_base.specs.declared.outcome.Outcome.{Outcome}
use Rattle.bcv_base.specs.declared.outcome.Outcome.TheVariants as outcome
use Rattle.bcv_base.specs.Version.{Version}
use Rattle.bcv_base.specs.Edits as edits
use Rattle.bcv_model.specs.declared.reply.Reply.{Reply}
use Rattle.bcv_model.specs.declared.reply.Reply.TheVariants as reply
use Rattle.bcv_model.specs.MachineNotes.{intent_bytes, done_bytes, settled, pending, up_without, pending_client, voided_client}
use Rattle.bcv_model.specs.MachineState.{State, Here, Client, Task, Kind, Creating, Making, Copying, Removing, with_client, with_task, known_at, version_at}

-- ---- what is published

-- an edit makes a version of the last one
abbrev pub IsEdited : State → edits.Edit → Id16 → Version → Type 0
IsEdited a e id v = (last : Version) × (version_at a (length a.versions) ≡ Some last) × (v ≡ edits.edited last e id a.moment)

-- the version that a task's put makes: a create makes the first, an edit makes one of the last
abbrev pub Makes : State → Kind → Id16 → Version → Type 0
Makes a (Creating block retention) id v = (a.versions ≡ []) × (v ≡ edits.created id a.moment)
Makes a (Making d page_size pages) id v = IsEdited a (edits.New d page_size pages) id v
Makes a (Copying from to) id v = IsEdited a (edits.Copy from to) id v
Makes a (Removing name) id v = IsEdited a (edits.Remove name) id v
Makes a _ id v = ⊥

-- the block size and the retention after it, which a create gives
abbrev pub block_after : State → Kind → ℕ
block_after a (Creating block retention) = block
block_after a _ = a.block

abbrev pub retention_after : State → Kind → ℕ
retention_after a (Creating block retention) = retention
retention_after a _ = a.retention

-- what the client has after its publication: the task has ended, and it knows the version as after a poll
abbrev pub published_client : Here → Task → Version → Client
published_client h task v =
    record h.client {
      noted = h.client.noted + intent_bytes task.refused + done_bytes;
      kept = settled h.client.kept;
      up = Some (record (up_without h task) { known = known_at h.client.kept (length h.state.versions + 1) v.dbs });
    }

-- ---- where another version came in between

abbrev pub creates : Kind → Bool
creates (Creating block retention) = true
creates _ = false

-- the client after a refused put that is tried again: the manifest is read anew
abbrev pub refused_client : Here → Task → Id16 → ℕ → Client
refused_client h task id read =
    record h.client {
      noted = h.client.noted + intent_bytes task.refused;
      kept = pending h.client.kept id;
      up = Some (record h.up { tasks = with_task (record task { left = 2; read = None; refused = task.refused ++ read ∷ [] }) h.up.tasks });
    }

-- ---- the put

-- done: where the version read is still the last one, the put appends the next; else it is refused: a create finds the
-- container, and an edit is tried again, up to the eighth time. Failed: nothing is appended, and the publication is pending
abbrev pub Puts : Here → Task → Id16 → ℕ → Outcome → Option ℕ → Reply → State → Type 0
Puts h task id read outcome.Ok (Some k) (reply.Done n) b =
    (v : Version) × (read ≡ length h.state.versions) × (k ≡ length h.state.versions + 1) × (n ≡ length h.state.versions + 1) × Makes h.state task.kind id v
    × (b ≡ record (with_client h (published_client h task v)) {
      versions = h.state.versions ++ v ∷ [];
      block = block_after h.state task.kind;
      retention = retention_after h.state task.kind;
    })
Puts h task id read outcome.Ok None reply.Exists b =
    (creates task.kind ≡ true) × (read < length h.state.versions) × (b ≡ with_client h (voided_client h task))
Puts h task id read outcome.Ok None (reply.Working left) b =
    (creates task.kind ≡ false) × (read < length h.state.versions) × (length task.refused < 7) × (left ≡ 2) × (b ≡ with_client h (refused_client h task id read))
Puts h task id read outcome.Ok None (reply.Contended numbers) b =
    (creates task.kind ≡ false) × (read < length h.state.versions) × (length task.refused ≡ 7) × (numbers ≡ task.refused ++ read ∷ []) × (b ≡ with_client h (voided_client h task))
Puts h task id read outcome.Fail None (reply.Unknown i) b = (i ≡ id) × (b ≡ with_client h (pending_client h task id))
Puts h task id read _ _ _ b = ⊥
