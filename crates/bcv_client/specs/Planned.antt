-- What is planned to strike the disk of a client: nothing else of it changes, and the machine's client has it set.
use Rattle.std.specs.Prelude.{◌≡◌, ℕ, true, List}
use Rattle.bcv_base.specs.declared.log.Entry.{Entry}
use Rattle.bcv_clientlog.specs.LogParts.{log_disk}
use Rattle.bcv_clientlog.specs.Noting.{LogPlans}
use Rattle.bcv_clientstate.specs.SeenClient.{Free}
use Rattle.bcv_disk.specs.DiskShown.{DiskShown, Trouble}
use Rattle.bcv_machine.specs.State as m
use Rattle.bcv_client.specs.Events.{StandsOver, client_side}
use Rattle.bcv_client.specs.declared.client.Client.{Client}

-- the troubles of the disk
abbrev pub trouble_of : {D : Type 0} {g : _} → (D → DiskShown) → Client D g → Trouble
trouble_of shown c = (shown (log_disk c.ledger.log)).trouble

-- but for what is planned of the disk nothing has changed
pub record OnlyPlans {D : Type 0} {g : _} (shown : D → DiskShown) (old new : Client D g) (planned : Trouble) : Type 0 where
  pub log : LogPlans shown old.ledger.log new.ledger.log planned
  pub databases : new.ledger.databases ≡ old.ledger.databases
  pub id : new.id ≡ old.id
  pub seen : new.seen ≡ old.seen
  pub latest : new.latest ≡ old.latest
  pub txns : new.txns ≡ old.txns
  pub tasks : new.tasks ≡ old.tasks
  pub taken : new.taken ≡ old.taken

-- wherever the client stood it stands, with a fuse or a failure set, and the machine sets it
abbrev pub SetsOver : {D : Type 0} {g : _} → (D → DiskShown) → (Free → Free) → (m.Side → m.Side → Type 0) → Client D g → Client D g → Type 0
SetsOver shown set Goes old new =
    (moment : ℕ) (log : List Entry) (f : Free) → StandsOver shown old log f
    → StandsOver shown new log (set f) × Goes (client_side moment log old f) (client_side moment log new (set f))

abbrev pub with_fuse : Free → Free
with_fuse f = record f { fused = true }

abbrev pub with_failure : Free → Free
with_failure f = record f { failing = true }
