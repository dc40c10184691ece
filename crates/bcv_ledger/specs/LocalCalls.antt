-- Commits and reverts: calls that a client makes without the store.
use Rattle.std.specs.Prelude.{◌≡◌, ◌≢◌, ℕ, Bool, true, false, List, Option, Some, None}
use Rattle.bcv_base.specs.declared.log.Entry.{Entry}
use Rattle.bcv_base.specs.History.{Item, history_of}
use Rattle.bcv_base.specs.Image.{Writes}
use Rattle.bcv_base.specs.Keyed.{keyed, with_keyed, without_keyed}
use Rattle.bcv_cache.specs.Entry as cache
use Rattle.bcv_databases.specs.Catalog.{Catalog, known_name}
use Rattle.bcv_databases.specs.Changes as changes
use Rattle.bcv_databases.specs.Changes.{Adds, base_of, commit_note}
use Rattle.bcv_dbmap.specs.Sound.{IsSoundLog}
use Rattle.bcv_disk.specs.DiskShown.{DiskShown, DiskTold}
use Rattle.bcv_journal.specs.declared.fault.Noted.{Noted}
use Rattle.bcv_journal.specs.declared.fault.Noted.TheVariants as noted
use Rattle.bcv_machine.specs.LocalWriting as machine
use Rattle.bcv_machine.specs.State as m
use Rattle.bcv_model.specs.declared.ask.Commit.{Commit}
use Rattle.bcv_model.specs.declared.kept.Local.{Local}
use Rattle.bcv_model.specs.declared.note.Note.{Note}
use Rattle.bcv_model.specs.declared.note.Note.TheVariants as note
use Rattle.bcv_model.specs.declared.reply.Reply.{Reply}
use Rattle.bcv_model.specs.declared.reply.Reply.TheVariants as reply
use Rattle.bcv_model.specs.Commits.{writes_of}
use Rattle.bcv_model.specs.Notes.{kept_name}
use Rattle.bcv_clientstate.specs.Fits.{Fits}
use Rattle.bcv_clientstate.specs.Journaled.{Journaled}
use Rattle.bcv_clientstate.specs.PartRefusals.{commit_reason_in, revert_reason_in, runs_publication}
use Rattle.bcv_clientstate.specs.Parts.{Parts, with_ledger}
use Rattle.bcv_clientstate.specs.SeenClient.{Free, seen_up, side_of}
use Rattle.bcv_ledger.specs.LedgerNotes.{parts_in}
use Rattle.bcv_ledger.specs.NoteEnds.{NoteEnds}
use Rattle.bcv_ledger.specs.declared.ledger.Ledger.{Ledger}

-- ---- what is answered

-- the fault that a reply is
abbrev pub fault_of : Reply → Option Reply
fault_of reply.Fine = None
fault_of r = Some r

-- the reply to a call whose note ended so
abbrev pub noted_reply : Noted → Reply
noted_reply noted.Done = reply.Fine
noted_reply noted.JournalFull = reply.JournalFull
noted_reply noted.DiskFault = reply.DiskFault
noted_reply noted.Closed = reply.Closed
noted_reply noted.NoMemory = reply.NoMemory

-- ---- the databases

-- where the note stands the commit is added, or the commits are given up, and else nothing changes
abbrev pub AddsWhere : Bool → Catalog → Catalog → List ℕ → Commit → Type 0
AddsWhere true old new db c = Adds old new db c
AddsWhere false old new db c = new ≡ old

abbrev pub RevertsWhere : Bool → Catalog → Catalog → List ℕ → Type 0
RevertsWhere true old new db = changes.Reverts old new db
RevertsWhere false old new db = new ≡ old

-- nothing has changed
pub record IsUnmoved {D : Type 0} {g : _} (old new : Ledger D g) : Type 0 where
  pub log : new.log ≡ old.log
  pub databases : new.databases ≡ old.databases

-- ---- commit

-- a commit that is not refused is noted: the first one of a known database, or one more
pub record CommitNotes {D : Type 0} {g : _} (told : DiskTold) (shown : D → DiskShown) (old new : Ledger D g) (db : List ℕ) (c : Commit) (r : Reply) : Type 0 where
  pub note : Note
  pub is_note : commit_note old.databases db c ≡ Some note
  pub ends : NoteEnds told shown old new note (without_keyed known_name db old.databases.known) (fault_of r)

abbrev pub CommitsFrom : {D : Type 0} {g : _} → DiskTold → (D → DiskShown) → Ledger D g → Ledger D g → List ℕ → Commit → Reply → Option Reply → Type 0
CommitsFrom told shown old new db c r None = CommitNotes told shown old new db c r
CommitsFrom told shown old new db c r (Some why) = (r ≡ why) × IsUnmoved old new

-- over every disk: the first reason that holds is answered, and the ledger is as it was; else the commit is noted
abbrev pub LedgerCommits : {D : Type 0} {g : _} → DiskTold → (D → DiskShown) → Ledger D g → Ledger D g → List ℕ → Commit → Reply → Type 0
LedgerCommits told shown old new db c r = CommitsFrom told shown old new db c r (commit_reason_in (parts_in old) db (writes_of c))

-- ---- revert

-- a revert that is not refused is noted, and the base is known again
pub record RevertNotes {D : Type 0} {g : _} (told : DiskTold) (shown : D → DiskShown) (old new : Ledger D g) (db : List ℕ) (r : Reply) : Type 0 where
  pub local : Local
  pub is_local : keyed kept_name db old.databases.kept.locals ≡ Some local
  pub ends : NoteEnds told shown old new (note.Revert db) (with_keyed known_name (base_of local) old.databases.known) (fault_of r)

abbrev pub RevertsFrom : {D : Type 0} {g : _} → DiskTold → (D → DiskShown) → Ledger D g → Ledger D g → List ℕ → Reply → Option Reply → Type 0
RevertsFrom told shown old new db r None = RevertNotes told shown old new db r
RevertsFrom told shown old new db r (Some why) = (r ≡ why) × IsUnmoved old new

abbrev pub LedgerReverts : {D : Type 0} {g : _} → DiskTold → (D → DiskShown) → Ledger D g → Ledger D g → Bool → List ℕ → Reply → Type 0
LedgerReverts told shown old new busy db r = RevertsFrom told shown old new db r (revert_reason_in (parts_in old) busy db)

-- ---- in the machine's words

-- a fault of the disk is answered where a failure is armed
abbrev pub IsArmed : Reply → Free → Type 0
IsArmed reply.DiskFault f = f.failing ≡ true
IsArmed r f = Unit {0}

-- a client over a sound log has this ledger, and its journal holds what it keeps
pub record HasLedger {D : Type 0} {g : _} (shown : D → DiskShown) (l : Ledger D g) (p : Parts) (entries : List cache.Entry) (log : List Entry) (f : Free) : Type 0 where
  pub sound : IsSoundLog log
  pub fits : Fits (with_ledger (parts_in l) p) entries log
  pub journaled : Journaled shown l.log l.databases.kept f

-- the journal holds what is kept after the call, and the machine goes from the client's side before it to that after it
pub record LocalSteps {D : Type 0} {g : _} (shown : D → DiskShown) (old new : Ledger D g) (p : Parts) (moment : ℕ) (past : List Item) (f : Free) (Goes : m.Side → m.Up → m.Side → Type 0) : Type 0 where
  pub free : Free
  pub journaled : Journaled shown new.log new.databases.kept free
  pub goes : Goes (side_of moment past (with_ledger (parts_in old) p) f) (seen_up past (with_ledger (parts_in old) p)) (side_of moment past (with_ledger (parts_in new) p) free)

-- a commit is the machine's, for each client that has the ledger
abbrev pub CommitSteps : {D : Type 0} {g : _} → (D → DiskShown) → Ledger D g → Ledger D g → List ℕ → Writes → Reply → Type 0
CommitSteps shown old new db w r =
    (moment : ℕ) (log : List Entry) (entries : List cache.Entry) (p : Parts) (f : Free) → HasLedger shown old p entries log f → IsArmed r f → r ≢ reply.NoMemory
    → LocalSteps shown old new p moment (history_of log) f (λ s u t. machine.Commits s u db w r t)

-- and so is a revert, where a publication runs as is said
abbrev pub RevertSteps : {D : Type 0} {g : _} → (D → DiskShown) → Ledger D g → Ledger D g → Bool → List ℕ → Reply → Type 0
RevertSteps shown old new busy db r =
    (moment : ℕ) (log : List Entry) (entries : List cache.Entry) (p : Parts) (f : Free) → HasLedger shown old p entries log f → busy ≡ runs_publication p → IsArmed r f → r ≢ reply.NoMemory
    → LocalSteps shown old new p moment (history_of log) f (λ s u t. machine.Reverts s u db r t)
