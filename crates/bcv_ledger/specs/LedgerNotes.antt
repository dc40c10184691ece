-- What a note does to a ledger: to its log, and to what it keeps in memory.
use Rattle.std.specs.Prelude.{◌≡◌, ◌⊎◌, ◌+◌, ℕ, Bool, true, false, List, [], ◌∷◌, Some}
use Rattle.bcv_clientlog.specs.declared.log.ClientLog.{ClientLog}
use Rattle.bcv_clientlog.specs.Compaction.{Compacts}
use Rattle.bcv_clientlog.specs.LogParts.{Holds, LoadsUpTo, is_shut, log_area, log_disk, log_start, log_tail, size_kept}
use Rattle.bcv_clientlog.specs.Noting.{NoteLeaves}
use Rattle.bcv_databases.specs.Catalog.{Catalog}
use Rattle.bcv_databases.specs.Changes.{Ends, Polls, Resolves}
use Rattle.bcv_databases.specs.declared.known.Known.{Known}
use Rattle.bcv_disk.specs.Crash.{LeavesOnly}
use Rattle.bcv_disk.specs.DiskShown.{DiskShown, DiskTold}
use Rattle.bcv_disk.specs.Troubles.{counted}
use Rattle.bcv_journal.specs.declared.fault.Noted.{Noted}
use Rattle.bcv_journal.specs.declared.fault.Noted.TheVariants.{Done}
use Rattle.bcv_machine.specs.State as m
use Rattle.bcv_model.specs.declared.kept.Kept.{Kept}
use Rattle.bcv_model.specs.declared.note.Note.{Note}
use Rattle.bcv_model.specs.declared.note.Note.TheVariants as note
use Rattle.bcv_model.specs.NoteRules.{MayStand}
use Rattle.bcv_model.specs.Notes.{note_size}
use Rattle.bcv_clientstate.specs.Journaled.{Journaled, NoteGoes}
use Rattle.bcv_clientstate.specs.Parts.{LedgerParts}
use Rattle.bcv_clientstate.specs.SeenClient.{Free}
use Rattle.bcv_clientstate.specs.SeenKept.{seen_note}
use Rattle.bcv_ledger.specs.declared.ledger.Ledger.{Ledger}

abbrev pub stands : Noted → Bool
stands Done = true
stands _ = false

-- what a ledger has of a client's parts
abbrev pub parts_in : {D : Type 0} {g : _} → Ledger D g → LedgerParts
parts_in l = record { closed = is_shut l.log; kept = l.databases.kept; known = l.databases.known }

-- ---- the log

-- the calls of the disk that a note takes which stands, over notes from start to tail: four, or nine where these are
-- written anew first, which they never are before the client's id or the end of a publication
abbrev pub FourOrNine : ℕ → ℕ → ℕ → ℕ → ℕ → Type 0
FourOrNine start tail size more calls = (Compacts start tail size more × (calls ≡ 9)) ⊎ ((Compacts start tail size more → ⊥) × (calls ≡ 4))

abbrev pub TakesCalls : Note → ℕ → ℕ → ℕ → ℕ → Type 0
TakesCalls (note.Me id) start tail size calls = calls ≡ 4
TakesCalls (note.Done id number) start tail size calls = calls ≡ 4
TakesCalls (note.Void id) start tail size calls = calls ≡ 4
TakesCalls x start tail size calls = FourOrNine start tail size (note_size x) calls

-- so many calls of the disk were made for a note that stands
pub record CountsNote {D : Type 0} {g : _} (shown : D → DiskShown) (old new : ClientLog D g) (k : Kept) (x : Note) : Type 0 where
  pub calls : ℕ
  pub takes : TakesCalls x (log_start old) (log_tail old) (size_kept k) calls
  pub counts : (shown (log_disk new)).trouble.calls ≡ counted (shown (log_disk old)).trouble.calls calls

-- a note is tried of a log whose notes come to this
pub record NoteTried {D : Type 0} {g : _} (told : DiskTold) (shown : D → DiskShown) (old new : ClientLog D g) (k : Kept) (x : Note) (result : Noted) : Type 0 where
  pub leaves : NoteLeaves told shown old new x result
  -- a crash at any moment of the call leaves what was kept, or that with the note
  pub any_moment : told.tells → Holds shown old k → MayStand k x
      → LeavesOnly (shown (log_disk old)) (shown (log_disk new)) (LoadsUpTo k (log_tail old + log_area old) (x ∷ []))
  pub counts : told.tells → told.troubled → result ≡ Done → Holds shown old k → MayStand k x → CountsNote shown old new k x
  -- in the machine's words
  pub goes : told.tells → is_shut old ≡ false → MayStand k x → (f : Free) → Journaled shown old k f
      → (y : m.Note) → seen_note k x ≡ Some y → NoteGoes shown new k f x y result

-- ---- the databases

-- where the note stands they change as it says, and else not at all
abbrev pub EndsWhere : Bool → Catalog → Catalog → Note → Type 0
EndsWhere true old new x = Ends old new x
EndsWhere false old new x = new ≡ old

-- and the databases of a manifest are known, or the one that an upload published
abbrev pub PollsWhere : Bool → Catalog → Catalog → List Known → Type 0
PollsWhere true old new found = Polls old new found
PollsWhere false old new found = new ≡ old

abbrev pub ResolvesWhere : Bool → Catalog → Catalog → ℕ → Type 0
ResolvesWhere true old new number = Resolves old new number
ResolvesWhere false old new number = new ≡ old

-- ---- the ledger

-- a note is tried: what is kept is what is kept after it, exactly where it stands
pub record LedgerNotes {D : Type 0} {g : _} (told : DiskTold) (shown : D → DiskShown) (old new : Ledger D g) (x : Note) (result : Noted) : Type 0 where
  pub tried : NoteTried told shown old.log new.log old.databases.kept x result
  pub databases : EndsWhere (stands result) old.databases new.databases x
