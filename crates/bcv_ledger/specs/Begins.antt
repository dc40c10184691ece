-- How a publication begins: its intent is noted, where it is not pending yet.
use Rattle.std.specs.Prelude.{◌≡◌, ◌+◌, ◌*◌, ◌^◌, ◌<◌, true, [], ◌∷◌, length, Option, Some, None, is_some}
use Rattle.bcv_clientlog.specs.declared.log.ClientLog.{ClientLog}
use Rattle.bcv_clientlog.specs.LogParts.{Holds, LoadsUpTo, is_shut, log_area, log_disk, log_tail}
use Rattle.bcv_databases.specs.Sound.{KeepsViews}
use Rattle.bcv_disk.specs.Crash.{LeavesOnly}
use Rattle.bcv_disk.specs.DiskCalls.{DiskFails}
use Rattle.bcv_disk.specs.DiskShown.{DiskShown, DiskTold}
use Rattle.bcv_machine.specs.State as m
use Rattle.bcv_model.specs.declared.kept.Kept.{Kept}
use Rattle.bcv_model.specs.declared.kept.PendingPub.{PendingPub}
use Rattle.bcv_model.specs.declared.note.Note.TheVariants as note
use Rattle.bcv_model.specs.declared.reply.Reply.{Reply}
use Rattle.bcv_model.specs.declared.reply.Reply.TheVariants as reply
use Rattle.bcv_model.specs.NoteRules.{MayStand}
use Rattle.bcv_model.specs.Notes.{note_size, note_text}
use Rattle.bcv_clientstate.specs.Journaled.{Journaled, free_failed, free_noted}
use Rattle.bcv_clientstate.specs.SeenClient.{Free}
use Rattle.bcv_clientstate.specs.SeenKept.{seen_pending}
use Rattle.bcv_ledger.specs.LedgerNotes.{CountsNote}
use Rattle.bcv_ledger.specs.NoteEnds.{IsNoteFault, ShutAfter}
use Rattle.bcv_ledger.specs.declared.ledger.Ledger.{Ledger}

-- nothing is pending, or this is
abbrev pub WaitsFor : Option PendingPub → PendingPub → Type 0
WaitsFor None x = Unit {0}
WaitsFor (Some p) x = p ≡ x

-- the client's free parts once the intent stands: it is noted where nothing was pending
abbrev pub free_intended : Option PendingPub → PendingPub → Free → Free
free_intended None x f = free_noted (note_size (note.Intent x)) f
free_intended (Some p) x f = f

-- and where the disk failed at it
abbrev pub free_untried : PendingPub → Free → Free
free_untried x f = free_failed (note_size (note.Intent x)) (m.Intending (seen_pending x)) f

-- what is kept: the publication is pending, where no fault is answered
abbrev pub kept_begun : Option Reply → Kept → PendingPub → Kept
kept_begun None k x = record k { pending = Some x }
kept_begun (Some fault) k x = k

-- in the machine's words, with what was pending before; a fault comes only where nothing was
abbrev pub BeginGoes : {D : Type 0} {g : _} → (D → DiskShown) → ClientLog D g → Kept → Option PendingPub → PendingPub → Free → Option Reply → Type 0
BeginGoes shown log kept before x f None = Journaled shown log kept (free_intended before x f)
BeginGoes shown log kept before x f (Some reply.JournalFull) = (before ≡ None) × Journaled shown log kept f × (2 ^ 31 < 2 * f.noted + 87 + note_size (note.Intent x))
BeginGoes shown log kept before x f (Some reply.DiskFault) = (before ≡ None) × Journaled shown log kept (free_untried x f)
BeginGoes shown log kept before x f (Some reply.NoMemory) = (before ≡ None) × Journaled shown log kept f
BeginGoes shown log kept before x f (Some _) = ⊥

-- the intent may stand, where nothing is pending
abbrev pub MayBegin : Kept → PendingPub → Type 0
MayBegin k x = k.pending ≡ None → MayStand k (note.Intent x)

pub record Begins {D : Type 0} {g : _} (told : DiskTold) (shown : D → DiskShown) (old new : Ledger D g) (x : PendingPub) (fault : Option Reply) : Type 0 where
  pub kept : new.databases.kept ≡ kept_begun fault old.databases.kept x
  pub known : new.databases.known ≡ old.databases.known
  pub views : KeepsViews old.databases.sets new.databases.sets
  -- nothing is done where it is pending already
  pub before : is_some old.databases.kept.pending ≡ true → new ≡ old
  pub answers : IsNoteFault fault
  pub shut : ShutAfter fault (is_shut new.log)
  pub fails : DiskFails told (shown (log_disk old.log)) (shown (log_disk new.log)) (fault ≡ Some reply.DiskFault)
  pub full : fault ≡ Some reply.JournalFull → 2 ^ 31 < log_tail new.log + 70 + length (note_text (note.Intent x))
  -- a crash at any moment of the call leaves what was kept, or that with the intent
  pub any_moment : told.tells → Holds shown old.log old.databases.kept → MayBegin old.databases.kept x
      → LeavesOnly (shown (log_disk old.log)) (shown (log_disk new.log)) (LoadsUpTo old.databases.kept (log_tail old.log + log_area old.log) (note.Intent x ∷ []))
  pub counts : told.tells → told.troubled → fault ≡ None → old.databases.kept.pending ≡ None → Holds shown old.log old.databases.kept → MayBegin old.databases.kept x
      → CountsNote shown old.log new.log old.databases.kept (note.Intent x)
  pub goes : told.tells → MayBegin old.databases.kept x → (f : Free) → Journaled shown old.log old.databases.kept f
      → BeginGoes shown new.log new.databases.kept old.databases.kept.pending x f fault
