-- What a client that comes up promises, over any disk and any source of names, and over a disk that tells.
use Rattle.std.specs.Prelude.{◌≡◌, ◌⊎◌, ◌+◌, ◌≤◌, ℕ, false, List, [], Option, None, Some}
use Rattle.bcv_base.specs.declared.id.Id16.{Id16}
use Rattle.bcv_base.specs.declared.names.Draw.TheVariants as draw
use Rattle.bcv_base.specs.declared.seen.Seen.{Seen}
use Rattle.bcv_base.specs.Drawn.{Draws, NamesShown}
use Rattle.bcv_base.specs.Ids.{IsId}
use Rattle.bcv_clientlog.specs.LogLoads.{IsNoLog, IsOldOrSame}
use Rattle.bcv_clientlog.specs.LogParts.{Holds, LoadsAs, is_shut, log_area, log_disk, log_tail}
use Rattle.bcv_disk.specs.Crash.{LeavesOnly, Only}
use Rattle.bcv_disk.specs.DiskCalls.{DiskFails}
use Rattle.bcv_disk.specs.DiskShown.{DiskShown, DiskTold}
use Rattle.bcv_disk.specs.Troubles.{counted}
use Rattle.bcv_journal.specs.Loaded.{load_calls}
use Rattle.bcv_journal.specs.declared.fault.JournalFault.{JournalFault}
use Rattle.bcv_journal.specs.declared.fault.JournalFault.TheVariants as journal
use Rattle.bcv_ledger.specs.Rests.{LedgerRests}
use Rattle.bcv_ledger.specs.declared.ledger.Ledger.{Ledger}
use Rattle.bcv_model.specs.declared.kept.Kept.{Kept}
use Rattle.bcv_model.specs.declared.note.Note.{Note}
use Rattle.bcv_model.specs.declared.note.Note.TheVariants as note
use Rattle.bcv_model.specs.NoteRules.{Folds, HasRoom}
use Rattle.bcv_model.specs.Notes.{after_note, nothing_kept}
use Rattle.bcv_risen.specs.SeenBases.{seen_in}
use Rattle.bcv_risen.specs.declared.risen.Risen.{Risen}
use Rattle.bcv_risen.specs.declared.risen.Risen.TheVariants as risen
use Rattle.bcv_risen.specs.declared.risen.RiseFault.{RiseFault}
use Rattle.bcv_risen.specs.declared.risen.RiseFault.TheVariants as fault

-- the fault of a load as one of coming up
abbrev pub fault_as : JournalFault → RiseFault
fault_as (journal.NotJournal place) = fault.NotJournal place
fault_as journal.DiskFault = fault.DiskFault
fault_as journal.NoMemory = fault.NoMemory

-- the disk of the client that is up, or the one that came back
abbrev pub risen_disk : {D : Type 0} {g : _} → Risen D g → D
risen_disk (risen.Ready l id seen) = log_disk l.log
risen_disk (risen.Refused disk why) = disk

-- ---- the id

-- what was left has the id, and no name is drawn; or nothing was left, and the id is drawn and kept
abbrev pub IsNamed : NamesShown → NamesShown → Kept → Id16 → Kept → Type 0
IsNamed old new left id kept =
    ((left.me ≡ Some id) × (kept ≡ left) × (new ≡ old))
    ⊎ ((left ≡ nothing_kept) × (kept ≡ after_note nothing_kept (note.Me id)) × Draws old new (draw.Drawn id))

-- no name is drawn; or one is, where the bytes load as nothing
abbrev pub MayDraw : DiskTold → List ℕ → NamesShown → NamesShown → Type 0
MayDraw told bytes old new =
    (new ≡ old) ⊎ ((id : Id16) × Draws old new (draw.Drawn id) × (told.tells → (most : ℕ) × LoadsAs bytes nothing_kept most))

-- how many bytes its note adds to the tail and the notes' bytes together, and how many calls of the disk it takes
abbrev pub name_bytes : Option Id16 → ℕ
name_bytes None = 44
name_bytes (Some id) = 0

abbrev pub name_calls : Option Id16 → ℕ
name_calls None = 4
name_calls (Some id) = 0

-- ---- the client is up

-- what its disk had left, with its id, and nothing else
pub record IsUp {D : Type 0} {g : _} (told : DiskTold) (shown : D → DiskShown) (disk : D) (old new : NamesShown) (l : Ledger D g) (id : Id16) (seen : Seen) : Type 0 where
  -- what was left is what some notes come to
  pub left : Kept
  pub notes : List Note
  pub folds : Folds nothing_kept notes left
  pub named : IsNamed old new left id l.databases.kept
  pub me : l.databases.kept.me ≡ Some id
  pub is_id : IsId id
  pub known : l.databases.known ≡ []
  pub sees : seen ≡ seen_in l.databases.kept
  pub is_open : is_shut l.log ≡ false
  pub room : HasRoom l.databases.kept (log_tail l.log)
  pub rests : LedgerRests shown l
  -- it is what the bytes load as, and they load as nothing else
  pub found : told.tells → (most : ℕ) × LoadsAs (shown disk).seen left most
  pub only : told.tells → (k : Kept) (most : ℕ) → LoadsAs (shown disk).seen k most → (left ≡ k) × (log_tail l.log + log_area l.log ≤ most + name_bytes left.me)
  pub holds : told.tells → Holds shown l.log l.databases.kept
  pub calls : told.tells → told.troubled
      → (shown (log_disk l.log)).trouble.calls ≡ counted (shown disk).trouble.calls (load_calls (shown disk).seen + name_calls left.me)

-- ---- it is refused

-- the bytes are no log, and nothing else; or the disk failed, or the source of names, or memory was missing
abbrev pub RiseRefused : {D : Type 0} → DiskTold → (D → DiskShown) → List ℕ → NamesShown → NamesShown → D → RiseFault → Type 0
RiseRefused told shown bytes old new disk (fault.NotJournal place) =
    (new ≡ old) × (told.tells → IsNoLog bytes place × ((shown disk).seen ≡ bytes) × Only bytes (shown disk).may_leave
    × ((k : Kept) (most : ℕ) → LoadsAs bytes k most → ⊥))
RiseRefused told shown bytes old new disk fault.DiskFault = MayDraw told bytes old new
RiseRefused told shown bytes old new disk fault.NamesFault = Draws old new draw.Failed × (told.tells → (most : ℕ) × LoadsAs bytes nothing_kept most)
RiseRefused told shown bytes old new disk fault.NoMemory = MayDraw told bytes old new

-- ---- the whole

abbrev pub RiseEnds : {D : Type 0} {g : _} → DiskTold → (D → DiskShown) → D → NamesShown → NamesShown → Risen D g → Type 0
RiseEnds told shown disk old new (risen.Ready l id seen) = IsUp told shown disk old new l id seen
RiseEnds told shown disk old new (risen.Refused back why) = RiseRefused told shown (shown disk).seen old new back why

abbrev pub RiseFails : {D : Type 0} {g : _} → Risen D g → Type 0
RiseFails (risen.Ready l id seen) = ⊥
RiseFails (risen.Refused disk why) = why ≡ fault.DiskFault

-- the bytes load as nothing, and the image as the id that was drawn
abbrev pub HasNewId : List ℕ → NamesShown → NamesShown → List ℕ → Type 0
HasNewId bytes old new image =
    (id : Id16) × IsId id × Draws old new (draw.Drawn id)
    × ((k : Kept) (most : ℕ) → LoadsAs bytes k most → (k ≡ nothing_kept) × LoadsAs image (after_note nothing_kept (note.Me id)) (most + 44))

-- the image was possible before, or loads as the file does, or as that with the id that was drawn
abbrev pub IsOldOrNamed : DiskShown → NamesShown → NamesShown → List ℕ → Type 0
IsOldOrNamed before old new image = IsOldOrSame before image ⊎ HasNewId before.seen old new image

-- a client comes up from a disk
pub record Rises {D : Type 0} {g : _} (told : DiskTold) (shown : D → DiskShown) (disk : D) (old new : NamesShown) (result : Risen D g) : Type 0 where
  pub ends : RiseEnds told shown disk old new result
  pub fails : DiskFails told (shown disk) (shown (risen_disk result)) (RiseFails result)
  pub any_moment : told.tells → LeavesOnly (shown disk) (shown (risen_disk result)) (IsOldOrNamed (shown disk) old new)
