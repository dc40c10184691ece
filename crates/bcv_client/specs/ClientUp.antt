-- How a client comes up from its disk, and how it goes down.
use Rattle.std.specs.Prelude.{◌≡◌, ◌+◌, ◌≤◌, ℕ, List, [], None, is_some}
use Rattle.bcv_base.specs.declared.id.Id16.{Id16}
use Rattle.bcv_base.specs.declared.log.Entry.{Entry}
use Rattle.bcv_base.specs.History.{Item, history_of}
use Rattle.bcv_clientlog.specs.LogParts.{LoadsAs}
use Rattle.bcv_clientstate.specs.Journaled.{most_of}
use Rattle.bcv_clientstate.specs.SeenClient.{Free, seen_client}
use Rattle.bcv_clientstate.specs.SeenKept.{seen_kept}
use Rattle.bcv_clientstate.specs.UpSides.{risen_free, risen_parts}
use Rattle.bcv_databases.specs.Table.{table_of}
use Rattle.bcv_dbmap.specs.Sound.{IsSoundLog}
use Rattle.bcv_disk.specs.DiskShown.{DiskShown, DiskTold}
use Rattle.bcv_machine.specs.CrashAndUp.{ComesUp, Crashes, MayBeLeft}
use Rattle.bcv_machine.specs.State as m
use Rattle.bcv_model.specs.declared.kept.Kept.{Kept}
use Rattle.bcv_model.specs.declared.note.Note.TheVariants as note
use Rattle.bcv_model.specs.declared.reply.Reply.TheVariants as reply
use Rattle.bcv_model.specs.Notes.{after_note, nothing_kept}
use Rattle.bcv_risen.specs.RisenSides.{IsDown, new_free, side_down}
use Rattle.bcv_risen.specs.declared.risen.Risen.{Risen}
use Rattle.bcv_risen.specs.declared.risen.Risen.TheVariants as risen
use Rattle.bcv_risen.specs.declared.risen.RiseFault.{RiseFault}
use Rattle.bcv_risen.specs.declared.risen.RiseFault.TheVariants as fault
use Rattle.bcv_transaction.specs.Open.{Open}
use Rattle.bcv_client.specs.CallNames.{LeavesFit}
use Rattle.bcv_client.specs.ClientParts.{entries_of, parts_of}
use Rattle.bcv_client.specs.Events.{StandsOver, client_side}
use Rattle.bcv_client.specs.InForm.{InForm}
use Rattle.bcv_client.specs.declared.client.Client.{Client}
use Rattle.bcv_client.specs.declared.rising.Up.{Up}
use Rattle.bcv_client.specs.declared.rising.Up.TheVariants as up

-- ---- over any disk

-- a client that came up, by its ledger, its id and what it has seen
abbrev pub risen_of : {D : Type 0} {g : _} → Up D g → Risen D g
risen_of (up.Ready c) = risen.Ready c.ledger c.id c.seen
risen_of (up.Refused disk why) = risen.Refused disk why

-- beside those it has nothing yet: no transaction, no task and no cache; and it is in form
pub record StartsEmpty {D : Type 0} {g : _} (slots : ℕ) (c : Client D g) : Type 0 where
  pub form : InForm c
  pub txns : c.txns ≡ (let o : Open = record { slots = slots; cache = None; txns = [] } in o)
  pub tasks : c.tasks.items ≡ []
  pub taken : c.taken ≡ 0
  pub parts : parts_of c ≡ risen_parts c.id c.ledger.databases.kept c.seen
  pub entries : entries_of c ≡ []

abbrev pub EmptyIfUp : {D : Type 0} {g : _} → ℕ → Up D g → Type 0
EmptyIfUp slots (up.Ready c) = StartsEmpty slots c
EmptyIfUp slots (up.Refused disk why) = Unit {0}

-- ---- a client that crashed

-- it is up again: it has the id that it had, keeps what the machine says may be left, stands over the log, which what a crash
-- leaves of it fits, and the machine takes its coming up with the table of its databases
pub record IsBack {D : Type 0} {g : _} (shown : D → DiskShown) (log : List Entry) (id : Id16) (k : Kept) (f : Free) (c : Client D g) : Type 0 where
  pub same : c.id ≡ id
  pub left : MayBeLeft (seen_kept k) f.flight (seen_kept c.ledger.databases.kept)
  pub stands : StandsOver shown c log (risen_free f)
  pub leaves : LeavesFit shown c log
  pub comes_up : (moment : ℕ) → ComesUp (side_down moment (history_of log) k f)
      (reply.UpAgain (table_of c.ledger.databases) (is_some c.ledger.databases.kept.pending))
      (client_side moment log c (risen_free f))

-- or it is down still, after a fault of the disk or out of memory
abbrev pub DownStill : {D : Type 0} → (D → DiskShown) → List Entry → Id16 → Kept → Free → D → RiseFault → Type 0
DownStill shown log id k f disk (fault.NotJournal place) = ⊥
DownStill shown log id k f disk fault.DiskFault = IsDown (shown disk) log id k f
DownStill shown log id k f disk fault.NamesFault = ⊥
DownStill shown log id k f disk fault.NoMemory = IsDown (shown disk) log id k f

abbrev pub BackOrDown : {D : Type 0} {g : _} → (D → DiskShown) → List Entry → Id16 → Kept → Free → Up D g → Type 0
BackOrDown shown log id k f (up.Ready c) = IsBack shown log id k f c
BackOrDown shown log id k f (up.Refused disk why) = DownStill shown log id k f disk why

-- so does each client come up that is down over a sound log and has these slots
abbrev pub ComesBack : {D : Type 0} {g : _} → DiskTold → (D → DiskShown) → D → ℕ → Up D g → Type 0
ComesBack told shown disk slots result =
    told.tells → (log : List Entry) (id : Id16) (k : Kept) (f : Free) → IsSoundLog log → IsDown (shown disk) log id k f
    → f.slots ≡ slots → BackOrDown shown log id k f result

-- ---- a client that comes up for the first time

-- it keeps its id alone, stands over every sound log, which what a crash leaves of it fits, and is the machine's new client
pub record IsNewlyUp {D : Type 0} {g : _} (shown : D → DiskShown) (slots most : ℕ) (c : Client D g) : Type 0 where
  pub kept : c.ledger.databases.kept ≡ after_note nothing_kept (note.Me c.id)
  pub stands : (log : List Entry) (f : Free) → IsSoundLog log → f.slots ≡ slots → f.flight ≡ None
      → most + 44 ≤ most_of f → StandsOver shown c log f
  pub leaves : (log : List Entry) → IsSoundLog log → LeavesFit shown c log
  pub is_new : (past : List Item) → seen_client past (parts_of c) (new_free slots) ≡ m.new_client slots

-- or the disk, the source of names or memory failed: its disk's file is a log
abbrev pub NotUpYet : RiseFault → Type 0
NotUpYet (fault.NotJournal place) = ⊥
NotUpYet _ = Unit {0}

abbrev pub NewlyUpOrNot : {D : Type 0} {g : _} → (D → DiskShown) → ℕ → ℕ → Up D g → Type 0
NewlyUpOrNot shown slots most (up.Ready c) = IsNewlyUp shown slots most c
NewlyUpOrNot shown slots most (up.Refused disk why) = NotUpYet why

-- so does a client come up whose disk has no note yet
abbrev pub ComesNew : {D : Type 0} {g : _} → DiskTold → (D → DiskShown) → D → ℕ → Up D g → Type 0
ComesNew told shown disk slots result =
    told.tells → (most : ℕ) → LoadsAs (shown disk).seen nothing_kept most → NewlyUpOrNot shown slots most result

-- ---- down

-- a client that stood over a log is down, and the machine takes that as a crash
pub record GoesDown {D : Type 0} {g : _} (shown : D → DiskShown) (c : Client D g) (disk : D) (log : List Entry) (f : Free) : Type 0 where
  pub is_down : IsDown (shown disk) log c.id c.ledger.databases.kept f
  pub crashes : (moment : ℕ) → Crashes (client_side moment log c f) reply.Crashed
      (side_down moment (history_of log) c.ledger.databases.kept f)

-- whatever note is in flight, where what a crash may leave of it fits the log
abbrev pub LeavesDown : {D : Type 0} {g : _} → (D → DiskShown) → Client D g → D → Type 0
LeavesDown shown c disk =
    (log : List Entry) (f : Free) → StandsOver shown c log f → LeavesFit shown c log → GoesDown shown c disk log f
