-- How a client that keeps nothing gets its id, and how a client is up with an id.
use Rattle.std.specs.Prelude.{◌≡◌, ◌⊎◌, []}
use Rattle.bcv_base.specs.declared.id.Id16.{Id16}
use Rattle.bcv_base.specs.declared.names.Draw.TheVariants as draw
use Rattle.bcv_base.specs.declared.seen.Seen.{Seen}
use Rattle.bcv_base.specs.Drawn.{Draws, NamesShown}
use Rattle.bcv_base.specs.Ids.{IsId}
use Rattle.bcv_clientlog.specs.declared.log.ClientLog.{ClientLog}
use Rattle.bcv_clientlog.specs.LogParts.{log_disk}
use Rattle.bcv_clientlog.specs.Noting.{LogNotes}
use Rattle.bcv_disk.specs.DiskShown.{DiskShown, DiskTold}
use Rattle.bcv_journal.specs.declared.fault.Noted.{Noted}
use Rattle.bcv_journal.specs.declared.fault.Noted.TheVariants as noted
use Rattle.bcv_ledger.specs.Rests.{LedgerRests}
use Rattle.bcv_ledger.specs.declared.ledger.Ledger.{Ledger}
use Rattle.bcv_model.specs.declared.note.Note.TheVariants as note
use Rattle.bcv_model.specs.Notes.{after_note, nothing_kept}
use Rattle.bcv_risen.specs.SeenBases.{seen_in}
use Rattle.bcv_risen.specs.declared.risen.Risen.{Risen}
use Rattle.bcv_risen.specs.declared.risen.Risen.TheVariants as risen
use Rattle.bcv_risen.specs.declared.risen.RiseFault.TheVariants as fault

-- a client at rest is up, with what its ledger says
pub record IsUpAs {D : Type 0} {g : _} (shown : D → DiskShown) (l m : Ledger D g) (id other : Id16) (seen : Seen) : Type 0 where
  pub ledger : m ≡ l
  pub same : other ≡ id
  pub is_id : IsId id
  pub sees : seen ≡ seen_in l.databases.kept
  pub rests : LedgerRests shown l

abbrev pub IsUpWith : {D : Type 0} {g : _} → (D → DiskShown) → Ledger D g → Id16 → Risen D g → Type 0
IsUpWith shown l id (risen.Ready m other seen) = IsUpAs shown l m id other seen
IsUpWith shown l id (risen.Refused disk why) = ⊥

-- an id was drawn, and its note was tried of the log, or memory was missing before
pub record NameTried {D : Type 0} {g : _} (told : DiskTold) (shown : D → DiskShown) (before after : ClientLog D g) (old new : NamesShown) (id : Id16) (result : Noted) : Type 0 where
  pub is_id : IsId id
  pub draws : Draws old new (draw.Drawn id)
  pub notes : ((result ≡ noted.NoMemory) × (after ≡ before)) ⊎ LogNotes told shown before after (note.Me id) result

-- the note of the id stands, and nothing else is kept or known
pub record IsNamedAs {D : Type 0} {g : _} (told : DiskTold) (shown : D → DiskShown) (l m : Ledger D g) (old new : NamesShown) (id : Id16) (seen : Seen) : Type 0 where
  pub tried : NameTried told shown l.log m.log old new id noted.Done
  pub kept : m.databases.kept ≡ after_note nothing_kept (note.Me id)
  pub known : m.databases.known ≡ []
  pub sees : seen ≡ seen_in m.databases.kept
  pub rests : LedgerRests shown m

-- the id was not noted, and the disk is back
pub record FailsToName {D : Type 0} {g : _} (told : DiskTold) (shown : D → DiskShown) (l : Ledger D g) (old new : NamesShown) (disk : D) (result : Noted) : Type 0 where
  pub id : Id16
  pub after : ClientLog D g
  pub tried : NameTried told shown l.log after old new id result
  pub disk_is : disk ≡ log_disk after

-- a client that keeps nothing gets an id
abbrev pub NamesClient : {D : Type 0} {g : _} → DiskTold → (D → DiskShown) → Ledger D g → NamesShown → NamesShown → Risen D g → Type 0
NamesClient told shown l old new (risen.Ready m id seen) = IsNamedAs told shown l m old new id seen
NamesClient told shown l old new (risen.Refused disk (fault.NotJournal place)) = ⊥
NamesClient told shown l old new (risen.Refused disk fault.DiskFault) = FailsToName told shown l old new disk noted.DiskFault
NamesClient told shown l old new (risen.Refused disk fault.NamesFault) = (disk ≡ log_disk l.log) × Draws old new draw.Failed
NamesClient told shown l old new (risen.Refused disk fault.NoMemory) = FailsToName told shown l old new disk noted.NoMemory
