-- What a call says: it is one event of the machine, for every log that the client fits.
use Rattle.std.specs.Prelude.{◌≡◌, ℕ, true, List}
use Rattle.std.specs.List.{AllByRecursion}
use Rattle.bcv_base.specs.declared.log.Entry.{Entry}
use Rattle.bcv_base.specs.History.{Item, history_of}
use Rattle.bcv_clientlaws.specs.OtherParts.{Includes}
use Rattle.bcv_clientstate.specs.Fits.{Fits, FitsSeen}
use Rattle.bcv_clientstate.specs.Journaled.{Journaled}
use Rattle.bcv_clientstate.specs.SeenClient.{Free, seen_up, side_of}
use Rattle.bcv_dbmap.specs.Sound.{IsSoundLog}
use Rattle.bcv_disk.specs.DiskShown.{DiskShown}
use Rattle.bcv_machine.specs.State as m
use Rattle.bcv_model.specs.declared.reply.Reply.{Reply}
use Rattle.bcv_model.specs.declared.reply.Reply.TheVariants as reply
use Rattle.bcv_publisher.specs.WorkStep.{seen_before}
use Rattle.bcv_slots.specs.declared.Slot.{Slot}
use Rattle.bcv_tasks.specs.State.{publish_of}
use Rattle.bcv_client.specs.CallNames.{flight_names}
use Rattle.bcv_client.specs.ClientParts.{entries_of, parts_of}
use Rattle.bcv_client.specs.declared.client.Client.{Client}
use Rattle.bcv_client.specs.declared.job.Job.{Job}
use Rattle.bcv_client.specs.declared.job.Job.TheVariants as job

-- ---- what a client stands for

-- what a publication read before refused puts lies in the log
abbrev pub SawItsReads : List Item → Job → Type 0
SawItsReads past (job.Fetch access txn page) = Unit {0}
SawItsReads past job.Poll = Unit {0}
SawItsReads past (job.Publish set taken t) = FitsSeen past (seen_before (publish_of t))
SawItsReads past job.Resolve = Unit {0}

-- a client stands over a sound log: it fits the log, and its journal holds what it keeps; what is no function of client and log
-- is free but for the slots
pub record StandsOver {D : Type 0} {g : _} (shown : D → DiskShown) (c : Client D g) (log : List Entry) (f : Free) : Type 0 where
  pub sound : IsSoundLog log
  pub fits : Fits (parts_of c) (entries_of c) log
  pub saw : AllByRecursion (λ (s : Slot Job). SawItsReads (history_of log) s.item) c.tasks.items
  pub journaled : Journaled shown c.ledger.log c.ledger.databases.kept f
  pub slots : f.slots ≡ c.txns.slots

-- the machine's side of a client at a moment, and what it has while it is up
abbrev pub client_side : {D : Type 0} {g : _} → ℕ → List Entry → Client D g → Free → m.Side
client_side moment log c f = side_of moment (history_of log) (parts_of c) f

abbrev pub client_up : {D : Type 0} {g : _} → List Entry → Client D g → m.Up
client_up log c = seen_up (history_of log) (parts_of c)

-- ---- calls without a request

-- the reply is none of the machine's: memory, a name or a moment was missing
abbrev pub IsNoEvent : Reply → Type 0
IsNoEvent reply.NoMemory = Unit {0}
IsNoEvent reply.NamesFault = Unit {0}
IsNoEvent _ = ⊥

-- the machine goes from the one side to the other; or nothing has happened
pub record GoesBy {D : Type 0} {g : _} (Goes : m.Side → m.Up → m.Side → Type 0) (old new : Client D g) (moment : ℕ) (log : List Entry)
    (f free : Free) (r : Reply) : Type 0 where
  pub event : (IsNoEvent r → ⊥) → Goes (client_side moment log old f) (client_up log old) (client_side moment log new free)
  pub still : IsNoEvent r → client_side moment log new free ≡ client_side moment log old f

-- a call that notes nothing: wherever the client stood it stands, and the machine goes so
pub record LocallyOver {D : Type 0} {g : _} (shown : D → DiskShown) (Goes : m.Side → m.Up → m.Side → Type 0) (old new : Client D g)
    (moment : ℕ) (log : List Entry) (f : Free) (r : Reply) : Type 0 where
  pub stands : StandsOver shown new log f
  pub goes : GoesBy Goes old new moment log f f r

abbrev pub Locally : {D : Type 0} {g : _} → (D → DiskShown) → (m.Side → m.Up → m.Side → Type 0) → Client D g → Client D g → Reply → Type 0
Locally shown Goes old new r =
    (moment : ℕ) (log : List Entry) (f : Free) → StandsOver shown old log f → LocallyOver shown Goes old new moment log f r

-- ---- calls that note something

-- a fault of the disk is answered where a failure is armed
abbrev pub IsArmed : Reply → Free → Type 0
IsArmed reply.DiskFault f = f.failing ≡ true
IsArmed r f = Unit {0}

-- wherever the client stood it stands, with what was noted, no intent is in flight that was not, and the machine goes so
pub record NotesOver {D : Type 0} {g : _} (shown : D → DiskShown) (Goes : m.Side → m.Up → m.Side → Type 0) (old new : Client D g)
    (moment : ℕ) (log : List Entry) (f : Free) (r : Reply) : Type 0 where
  pub free : Free
  pub stands : StandsOver shown new log free
  pub flight : Includes (flight_names f.flight) (flight_names free.flight)
  pub goes : GoesBy Goes old new moment log f free r

abbrev pub Noting : {D : Type 0} {g : _} → (D → DiskShown) → (m.Side → m.Up → m.Side → Type 0) → Client D g → Client D g → Reply → Type 0
Noting shown Goes old new r =
    (moment : ℕ) (log : List Entry) (f : Free) → StandsOver shown old log f → IsArmed r f → NotesOver shown Goes old new moment log f r
