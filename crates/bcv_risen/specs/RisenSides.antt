-- A client that comes up, in the machine's words: one that crashed, and one that comes up for the first time.
use Rattle.std.specs.Prelude.{◌≡◌, ◌+◌, ◌≤◌, ℕ, false, List, [], None, is_some}
use Rattle.bcv_base.specs.declared.id.Id16.{Id16}
use Rattle.bcv_base.specs.declared.log.Entry.{Entry}
use Rattle.bcv_base.specs.declared.seen.Seen.{Seen}
use Rattle.bcv_base.specs.History.{Item, history_of}
use Rattle.bcv_base.specs.Ids.{IsId}
use Rattle.bcv_clientlaws.specs.OtherParts.{FitsKept}
use Rattle.bcv_clientlog.specs.LogParts.{LoadsAs}
use Rattle.bcv_clientstate.specs.Fits.{Fits}
use Rattle.bcv_clientstate.specs.Journaled.{HoldsKept, Journaled, most_of}
use Rattle.bcv_clientstate.specs.KeptLaws.{IsOrdered}
use Rattle.bcv_clientstate.specs.SeenClient.{Free, seen_client, side_of}
use Rattle.bcv_clientstate.specs.SeenContainer.{container_of}
use Rattle.bcv_clientstate.specs.SeenKept.{seen_kept}
use Rattle.bcv_clientstate.specs.UpSides.{risen_free, risen_parts}
use Rattle.bcv_databases.specs.Table.{table_of}
use Rattle.bcv_dbmap.specs.Sound.{IsSoundLog}
use Rattle.bcv_disk.specs.DiskShown.{DiskShown, DiskTold}
use Rattle.bcv_ledger.specs.declared.ledger.Ledger.{Ledger}
use Rattle.bcv_machine.specs.CrashAndUp.{ComesUp, MayBeLeft}
use Rattle.bcv_machine.specs.State as m
use Rattle.bcv_model.specs.declared.kept.Kept.{Kept}
use Rattle.bcv_model.specs.declared.note.Note.TheVariants as note
use Rattle.bcv_model.specs.declared.reply.Reply.TheVariants as reply
use Rattle.bcv_model.specs.Notes.{after_note, nothing_kept}
use Rattle.bcv_risen.specs.declared.risen.Risen.{Risen}
use Rattle.bcv_risen.specs.declared.risen.Risen.TheVariants as risen
use Rattle.bcv_risen.specs.declared.risen.RiseFault.TheVariants as fault

-- ---- a client that crashed

-- a client that is down, as the machine sees it
abbrev pub client_down : Kept → Free → m.Client
client_down k f =
    record { slots = f.slots; fused = f.fused; failing = f.failing; noted = f.noted; kept = seen_kept k; flight = f.flight; up = None }

abbrev pub side_down : ℕ → List Item → Kept → Free → m.Side
side_down moment past k f = record { container = container_of moment past; client = client_down k f }

-- a client of this id is down: each image that a crash may leave of its disk holds what it kept, with or without the note in
-- flight, and what the image loads as fits the log
pub record IsDown (disk : DiskShown) (log : List Entry) (id : Id16) (k : Kept) (f : Free) : Type 0 where
  pub is_id : IsId id
  pub ordered : IsOrdered k
  pub holds : (image : List ℕ) → disk.may_leave image → HoldsKept image k (most_of f) f.flight
  pub fits : (image : List ℕ) → disk.may_leave image → (left : Kept) (most : ℕ) → LoadsAs image left most → FitsKept log id left []

-- it is up again: it has the id that it had, keeps what the machine says may be left, fits the log, and the machine takes its
-- coming up with the table of its databases
pub record IsUpAgain {D : Type 0} {g : _} (shown : D → DiskShown) (log : List Entry) (id : Id16) (k : Kept) (f : Free) (l : Ledger D g) (own : Id16) (seen : Seen) : Type 0 where
  pub same : own ≡ id
  pub left : MayBeLeft (seen_kept k) f.flight (seen_kept l.databases.kept)
  pub fits : Fits (risen_parts own l.databases.kept seen) [] log
  pub journaled : Journaled shown l.log l.databases.kept (risen_free f)
  pub comes_up : (moment : ℕ) → ComesUp (side_down moment (history_of log) k f)
      (reply.UpAgain (table_of l.databases) (is_some l.databases.kept.pending))
      (side_of moment (history_of log) (risen_parts own l.databases.kept seen) (risen_free f))

-- or it is down still; its log is never refused, and no name is drawn for it
abbrev pub RisenAgain : {D : Type 0} {g : _} → (D → DiskShown) → List Entry → Id16 → Kept → Free → Risen D g → Type 0
RisenAgain shown log id k f (risen.Ready l own seen) = IsUpAgain shown log id k f l own seen
RisenAgain shown log id k f (risen.Refused disk (fault.NotJournal place)) = ⊥
RisenAgain shown log id k f (risen.Refused disk fault.DiskFault) = IsDown (shown disk) log id k f
RisenAgain shown log id k f (risen.Refused disk fault.NamesFault) = ⊥
RisenAgain shown log id k f (risen.Refused disk fault.NoMemory) = IsDown (shown disk) log id k f

-- each client that is down over a sound log comes up so
abbrev pub RisesAgain : {D : Type 0} {g : _} → DiskTold → (D → DiskShown) → D → Risen D g → Type 0
RisesAgain told shown disk result =
    told.tells → (log : List Entry) (id : Id16) (k : Kept) (f : Free) → IsSoundLog log → IsDown (shown disk) log id k f
    → RisenAgain shown log id k f result

-- ---- a client that comes up for the first time

-- what a new client has beside its parts: its id is noted
abbrev pub new_free : ℕ → Free
new_free slots = record { slots = slots; fused = false; failing = false; noted = 22; flight = None }

-- it keeps its id alone, fits every log, and is the machine's new client
pub record IsUpFirst {D : Type 0} {g : _} (shown : D → DiskShown) (most : ℕ) (l : Ledger D g) (id : Id16) (seen : Seen) : Type 0 where
  pub kept : l.databases.kept ≡ after_note nothing_kept (note.Me id)
  pub fits : (log : List Entry) → Fits (risen_parts id l.databases.kept seen) [] log
  pub journaled : (f : Free) → f.flight ≡ None → most + 44 ≤ most_of f → Journaled shown l.log l.databases.kept f
  pub is_new : (past : List Item) (slots : ℕ) → seen_client past (risen_parts id l.databases.kept seen) (new_free slots) ≡ m.new_client slots

abbrev pub RisenFirst : {D : Type 0} {g : _} → (D → DiskShown) → ℕ → Risen D g → Type 0
RisenFirst shown most (risen.Ready l id seen) = IsUpFirst shown most l id seen
RisenFirst shown most (risen.Refused disk (fault.NotJournal place)) = ⊥
RisenFirst shown most (risen.Refused disk _) = Unit {0}

-- a client whose disk has no note yet comes up so
abbrev pub RisesFirst : {D : Type 0} {g : _} → DiskTold → (D → DiskShown) → D → Risen D g → Type 0
RisesFirst told shown disk result = told.tells → (most : ℕ) → LoadsAs (shown disk).seen nothing_kept most → RisenFirst shown most result
