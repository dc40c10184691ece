-- How a call ends that notes something: its note stands, or a fault is answered.
use Rattle.std.specs.Prelude.{◌≡◌, ◌+◌, ◌*◌, ◌^◌, ◌<◌, ℕ, Bool, true, false, List, [], ◌∷◌, length, Option, Some, None}
use Rattle.bcv_base.specs.declared.id.Id16.{Id16}
use Rattle.bcv_base.specs.Keyed.{with_made}
use Rattle.bcv_clientlog.specs.declared.log.ClientLog.{ClientLog}
use Rattle.bcv_clientlog.specs.LogParts.{Holds, LoadsUpTo, is_shut, log_area, log_disk, log_tail}
use Rattle.bcv_clientlog.specs.Noting.{spare_after}
use Rattle.bcv_databases.specs.Catalog.{known_name}
use Rattle.bcv_databases.specs.Changes.{known_left}
use Rattle.bcv_databases.specs.Sound.{KeepsViews}
use Rattle.bcv_databases.specs.declared.known.Known.{Known}
use Rattle.bcv_disk.specs.Crash.{LeavesOnly}
use Rattle.bcv_disk.specs.DiskCalls.{DiskFails}
use Rattle.bcv_disk.specs.DiskShown.{DiskShown, DiskTold}
use Rattle.bcv_journal.specs.declared.fault.Noted.{Noted}
use Rattle.bcv_journal.specs.declared.fault.Noted.TheVariants.{Done, JournalFull, DiskFault, Closed, NoMemory}
use Rattle.bcv_machine.specs.State as m
use Rattle.bcv_model.specs.declared.kept.Kept.{Kept}
use Rattle.bcv_model.specs.declared.note.Note.{Note}
use Rattle.bcv_model.specs.declared.note.Note.TheVariants as note
use Rattle.bcv_model.specs.declared.reply.Reply.{Reply}
use Rattle.bcv_model.specs.declared.reply.Reply.TheVariants as reply
use Rattle.bcv_model.specs.NoteRules.{MayStand}
use Rattle.bcv_model.specs.Notes.{after_note, note_size, note_text}
use Rattle.bcv_clientstate.specs.Journaled.{Journaled, free_failed, free_noted}
use Rattle.bcv_clientstate.specs.SeenClient.{Free}
use Rattle.bcv_clientstate.specs.SeenKept.{seen_note}
use Rattle.bcv_ledger.specs.LedgerNotes.{CountsNote}
use Rattle.bcv_ledger.specs.declared.ledger.Ledger.{Ledger}

-- ---- what is answered

-- the fault that a note answers, where it does not stand
abbrev pub noted_fault : Noted → Option Reply
noted_fault Done = None
noted_fault JournalFull = Some reply.JournalFull
noted_fault DiskFault = Some reply.DiskFault
noted_fault Closed = Some reply.Closed
noted_fault NoMemory = Some reply.NoMemory

-- what a note of an open log may answer
abbrev pub IsNoteFault : Option Reply → Type 0
IsNoteFault None = Unit {0}
IsNoteFault (Some reply.JournalFull) = Unit {0}
IsNoteFault (Some reply.DiskFault) = Unit {0}
IsNoteFault (Some reply.NoMemory) = Unit {0}
IsNoteFault (Some _) = ⊥

-- the journal is closed exactly after a fault of the disk
abbrev pub ShutAfter : Option Reply → Bool → Type 0
ShutAfter (Some reply.DiskFault) shut = shut ≡ true
ShutAfter _ shut = shut ≡ false

-- ---- what stands afterwards

-- what is kept: the note counts where no fault is answered
abbrev pub kept_ended : Option Reply → Kept → Note → Kept
kept_ended None k x = after_note k x
kept_ended (Some fault) k x = k

-- the known databases: these where no fault is answered, else those of before
abbrev pub known_ended : Option Reply → List Known → List Known → List Known
known_ended None before after = after
known_ended (Some fault) before after = before

-- the known databases once the pending publication was found to be made: with that of an upload, where no commits are left
abbrev pub known_found : Kept → Id16 → ℕ → List Known → List Known
known_found k id number known = with_made known_name (known_left number (after_note k (note.Done id number)).locals k.pending) known

-- in the machine's words: the client's log and its free parts by what is answered
abbrev pub EndGoes : {D : Type 0} {g : _} → (D → DiskShown) → ClientLog D g → Kept → Free → Note → m.Note → Option Reply → Type 0
EndGoes shown log kept f x y None = Journaled shown log kept (free_noted (note_size x) f)
EndGoes shown log kept f x y (Some reply.JournalFull) = Journaled shown log kept f × (2 ^ 31 < 2 * f.noted + 87 + note_size x)
EndGoes shown log kept f x y (Some reply.DiskFault) = Journaled shown log kept (free_failed (note_size x) y f)
EndGoes shown log kept f x y (Some reply.NoMemory) = Journaled shown log kept f
EndGoes shown log kept f x y (Some _) = ⊥

-- ---- the whole

-- a call over an open log notes this, and where the note stands these databases without commits are known
pub record NoteEnds {D : Type 0} {g : _} (told : DiskTold) (shown : D → DiskShown) (old new : Ledger D g) (x : Note) (known : List Known) (fault : Option Reply) : Type 0 where
  pub kept : new.databases.kept ≡ kept_ended fault old.databases.kept x
  pub knows : new.databases.known ≡ known_ended fault old.databases.known known
  pub views : KeepsViews old.databases.sets new.databases.sets
  pub answers : IsNoteFault fault
  pub shut : ShutAfter fault (is_shut new.log)
  pub fails : DiskFails told (shown (log_disk old.log)) (shown (log_disk new.log)) (fault ≡ Some reply.DiskFault)
  -- the note, its gate and what stays free would pass the limit of a file, and only then is it full
  pub full : fault ≡ Some reply.JournalFull → 2 ^ 31 < log_tail new.log + 6 + length (note_text x) + spare_after x
  -- a crash at any moment of the call leaves what was kept, or that with the note
  pub any_moment : told.tells → Holds shown old.log old.databases.kept → MayStand old.databases.kept x
      → LeavesOnly (shown (log_disk old.log)) (shown (log_disk new.log)) (LoadsUpTo old.databases.kept (log_tail old.log + log_area old.log) (x ∷ []))
  pub counts : told.tells → told.troubled → fault ≡ None → Holds shown old.log old.databases.kept → MayStand old.databases.kept x
      → CountsNote shown old.log new.log old.databases.kept x
  pub goes : told.tells → MayStand old.databases.kept x → (f : Free) → Journaled shown old.log old.databases.kept f
      → (y : m.Note) → seen_note old.databases.kept x ≡ Some y → EndGoes shown new.log new.databases.kept f x y fault
