-- How a task starts: under the least free number, where fewer than 16 run.
use Rattle.std.specs.Prelude.{◌≡◌, ℕ, true, false, List, [], ◌∷◌, ◌++◌, length, Some, nat_le}
use Rattle.bcv_model.specs.declared.reply.Reply.{Reply}
use Rattle.bcv_model.specs.declared.reply.Reply.TheVariants as reply
use Rattle.bcv_slots.specs.declared.Slot.{Slot}
use Rattle.bcv_slots.specs.Numbered.{least_free, numbers_of}
use Rattle.bcv_client.specs.declared.client.Client.{Client}
use Rattle.bcv_client.specs.declared.job.Job.{Job}

-- but for the tasks nothing has changed
pub record OnlyTasks {D : Type 0} {g : _} (old new : Client D g) : Type 0 where
  pub id : new.id ≡ old.id
  pub ledger : new.ledger ≡ old.ledger
  pub seen : new.seen ≡ old.seen
  pub latest : new.latest ≡ old.latest
  pub txns : new.txns ≡ old.txns
  pub taken : new.taken ≡ old.taken

-- the task is the last one, under the least free number; or 16 run, or memory was missing
abbrev pub StartsLast : List (Slot Job) → List (Slot Job) → Job → ℕ → Reply → Type 0
StartsLast old new j left (reply.Task n k) =
    (nat_le 16 (length old) ≡ false) × (least_free (numbers_of old) ≡ Some n) × (k ≡ left)
    × (new ≡ old ++ record { number = n; item = j } ∷ [])
StartsLast old new j left reply.TooMany = (nat_le 16 (length old) ≡ true) × (new ≡ old)
StartsLast old new j left reply.NoMemory = new ≡ old
StartsLast old new j left _ = ⊥

pub record StartsTask {D : Type 0} {g : _} (old new : Client D g) (j : Job) (left : ℕ) (r : Reply) : Type 0 where
  pub only : OnlyTasks old new
  pub tasks : StartsLast old.tasks.items new.tasks.items j left r
