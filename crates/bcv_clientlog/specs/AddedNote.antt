-- What the private calls of a log promise of its journal.
use Rattle.std.specs.Prelude.{◌≡◌, ◌≢◌, ◌⊎◌, ◌↔◌, ℕ, ◌+◌, ◌-◌, ◌*◌, ◌^◌, ◌<◌, ◌≤◌, Bool, true, false, List, Result, Ok, Err, IsSome, Vec, length}
use Rattle.std.specs.declared.alloc.Global.{Global}
use Rattle.std.specs.declared.alloc.AllocError.{AllocError}
use Rattle.bcv_disk.specs.Crash.{LeavesOnly}
use Rattle.bcv_disk.specs.DiskShown.{DiskShown, DiskTold}
use Rattle.bcv_disk.specs.DiskCalls.{DiskFails}
use Rattle.bcv_disk.specs.Troubles.{counted}
use Rattle.bcv_journal.specs.JournalCalls.{JournalAppends}
use Rattle.bcv_journal.specs.Parts.{HasItems, disk_of, is_closed, start_at, tail_at}
use Rattle.bcv_journal.specs.declared.fault.Noted.{Noted}
use Rattle.bcv_journal.specs.declared.fault.Noted.TheVariants.{Done, JournalFull, DiskFault, Closed, NoMemory}
use Rattle.bcv_journal.specs.declared.journal.Journal.{Journal}
use Rattle.bcv_model.specs.declared.kept.Kept.{Kept}
use Rattle.bcv_model.specs.NoteRules.{HasRoom}
use Rattle.bcv_notes.specs.KeptBy.{AreNotes}
use Rattle.bcv_notes.specs.KeptNotes.{kept_notes, notes_size}
use Rattle.bcv_clientlog.specs.Compaction.{MovesTo}
use Rattle.bcv_clientlog.specs.LogParts.{LoadsAs}

-- the text of a note, or no memory for it
abbrev pub Text : Type 0
Text = Result (Vec ℕ Global) AllocError

-- nothing was tried: the journal is closed, or there was no memory
abbrev pub IsUntried : {D : Type 0} {g : _} → Journal D g → Journal D g → Noted → Type 0
IsUntried old new result = (new ≡ old) × (((result ≡ Closed) × (is_closed old ≡ true)) ⊎ ((result ≡ NoMemory) × (is_closed old ≡ false)))

-- a text is added
abbrev pub AddsText : {D : Type 0} {g : _} → DiskTold → (D → DiskShown) → Journal D g → Journal D g → Text → ℕ → Noted → Type 0
AddsText told shown old new (Ok v) spare result = JournalAppends told shown old new v.items spare result
AddsText told shown old new (Err e) spare result = IsUntried old new result

-- the tail and the bytes of the items together
abbrev pub reach : {D : Type 0} {g : _} → Journal D g → ℕ
reach journal = tail_at journal + (tail_at journal - start_at journal)

-- a compaction before a text of so many bytes, of a journal whose items are notes that come to this
pub record CompactTells {D : Type 0} {g : _} (told : DiskTold) (shown : D → DiskShown) (old new : Journal D g) (k : Kept) (more : ℕ) (result : Noted) : Type 0 where
  pub any_moment : LeavesOnly (shown (disk_of old)) (shown (disk_of new)) (λ image. LoadsAs image k (reach old))
  pub items : List (List ℕ)
  pub are : AreNotes items k
  pub has : (result ≡ Done) ⊎ (result ≡ NoMemory) → HasItems shown new items
  pub calls : ℕ
  pub moves : result ≡ Done → MovesTo (start_at old) (tail_at old) (notes_size (kept_notes k)) more (start_at new) (tail_at new) calls
  -- four calls more make so many in all
  pub counts : told.troubled → result ≡ Done → counted (shown (disk_of new)).trouble.calls 4 ≡ counted (shown (disk_of old)).trouble.calls calls

-- where it is known, more than half of the items' bytes stays
abbrev pub IsDenseWhere : {D : Type 0} {g : _} → Bool → Journal D g → Kept → Type 0
IsDenseWhere known journal k = known ≡ true → tail_at journal - start_at journal < 2 * (notes_size (kept_notes k) + 1)

-- a compaction before a text of so many bytes, where there is one: Done in each case; none is known to be due where
-- it is dense
pub record JournalCompacts {D : Type 0} {g : _} (told : DiskTold) (shown : D → DiskShown) (old new : Journal D g) (k : Kept) (dense : Bool) (more : ℕ) (result : Noted) : Type 0 where
  pub not_closed : result ≢ Closed
  pub not_full : result ≢ JournalFull
  pub fails : DiskFails told (shown (disk_of old)) (shown (disk_of new)) (result ≡ DiskFault)
  pub shuts : (is_closed new ≡ true) ↔ (result ≡ DiskFault)
  pub room : (tail_at new ≤ tail_at old) ⊎ (tail_at new + 65 ≤ 2 ^ 31)
  pub within : reach new ≤ reach old
  pub stays : result ≢ Done → (start_at new ≡ start_at old) × (tail_at new ≡ tail_at old)
  pub tells : told.tells → (items : List (List ℕ)) → HasItems shown old items → AreNotes items k → IsSome k.me → HasRoom k (tail_at old) → IsDenseWhere dense old k → CompactTells told shown old new k more result

-- after a compaction that ended so the text is added, or not
abbrev pub AddsAfter : {D : Type 0} {g : _} → DiskTold → (D → DiskShown) → Journal D g → Journal D g → List ℕ → Noted → Noted → Type 0
AddsAfter told shown mid new bytes Done result = JournalAppends told shown mid new bytes 64 result
AddsAfter told shown mid new bytes DiskFault result = (new ≡ mid) × (result ≡ DiskFault)
AddsAfter told shown mid new bytes NoMemory result = (new ≡ mid) × (result ≡ NoMemory)
AddsAfter told shown mid new bytes JournalFull result = ⊥
AddsAfter told shown mid new bytes Closed result = ⊥

-- a compaction, and then the text
pub record CompactsThen {D : Type 0} {g : _} (told : DiskTold) (shown : D → DiskShown) (old new : Journal D g) (k : Kept) (dense : Bool) (bytes : List ℕ) (result : Noted) : Type 0 where
  pub is_open : is_closed old ≡ false
  pub mid : Journal D g
  pub first : Noted
  pub compacted : JournalCompacts told shown old mid k dense (length bytes) first
  pub added : AddsAfter told shown mid new bytes first result

-- a text is added, after a compaction
abbrev pub CompactsText : {D : Type 0} {g : _} → DiskTold → (D → DiskShown) → Journal D g → Journal D g → Kept → Bool → Text → Noted → Type 0
CompactsText told shown old new k dense (Ok v) result = IsUntried old new result ⊎ CompactsThen told shown old new k dense v.items result
CompactsText told shown old new k dense (Err e) result = IsUntried old new result
