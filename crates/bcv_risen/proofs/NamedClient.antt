-- A client that keeps nothing got its id, or did not.
use Rattle.std.proofs.Common.{◌≡◌, ◌≢◌, ◌⊎◌, inl, inr, false, [], sym, subst}
use Rattle.bcv_base.specs.declared.id.Id16.{Id16}
use Rattle.bcv_base.specs.declared.names.Draw.TheVariants as draw
use Rattle.bcv_base.specs.Drawn.{Draws, NamesShown}
use Rattle.bcv_base.specs.Ids.{IsId}
use Rattle.bcv_clientlog.specs.LogParts.{is_shut, log_disk}
use Rattle.bcv_clientlog.specs.Noting.{LogNotes}
use Rattle.bcv_disk.specs.DiskShown.{DiskShown, DiskTold}
use Rattle.bcv_journal.specs.declared.fault.Noted.{Noted}
use Rattle.bcv_journal.specs.declared.fault.Noted.TheVariants as noted
use Rattle.bcv_ledger.specs.LedgerLoads.{NotesMe}
use Rattle.bcv_ledger.specs.declared.ledger.Ledger.{Ledger}
use Rattle.bcv_model.specs.declared.note.Note.TheVariants as note
use Rattle.bcv_model.specs.Notes.{after_note, nothing_kept}
use Rattle.bcv_risen.specs.Naming.{FailsToName, IsNamedAs, IsUpWith, NameTried, NamesClient}
use Rattle.bcv_risen.specs.declared.risen.Risen.{Risen}
use Rattle.bcv_risen.specs.declared.risen.Risen.TheVariants as risen

module _ {D : Type 0} {g : _} (told : DiskTold) (shown : D → DiskShown) (l after : Ledger D g) (id : Id16) where
  -- a log with room for an id is not full, and an open one is not closed
  pub never : (result : Noted) → is_shut l.log ≡ false → result ≢ noted.JournalFull → NotesMe told shown l after id result → (result ≡ noted.JournalFull) ⊎ (result ≡ noted.Closed) → ⊥
  never result is_open fits said (inl full) = fits full
  never result is_open fits (inl same) (inr closed) = cc (same.0, closed)
  never result is_open fits (inr tried) (inr closed) = let shut = tried.notes.leaves.closed.0 closed in cc (shut, is_open)

  module _ (old new : NamesShown) (is_id : IsId id) (draws : Draws old new (draw.Drawn id)) where
    tried_as : (result : Noted) → NotesMe told shown l after id result → ((result ≡ noted.NoMemory) × (after.log ≡ l.log)) ⊎ LogNotes told shown l.log after.log (note.Me id) result
    tried_as result (inl same) = inl (same.0, same.1.log)
    tried_as result (inr tried) = inr tried.notes

    name_tried : (result : Noted) → NotesMe told shown l after id result → NameTried told shown l.log after.log old new id result
    name_tried result said = record { is_id = is_id; draws = draws; notes = tried_as result said }

    pub fails_to_name : (result : Noted) (back : D) → back ≡ log_disk after.log → NotesMe told shown l after id result → FailsToName told shown l old new back result
    fails_to_name result back is said = record { id = id; after = after.log; tried = name_tried result said; disk_is = is }

    named_by : NotesMe told shown l after id noted.Done → (after.databases.kept ≡ after_note nothing_kept (note.Me id)) × (after.databases.known ≡ [])
    named_by (inl same) = absurd (cc (same.0))
    named_by (inr tried) = tried.databases

    pub named_up : NotesMe told shown l after id noted.Done → (result : Risen D g) → IsUpWith shown after id result → NamesClient told shown l old new result
    named_up said (risen.Ready m own seen) up =
        let here : IsNamedAs told shown l after old new id seen =
        record { tried = name_tried noted.Done said; kept = (named_by said).0; known = (named_by said).1; sees = up.sees; rests = up.rests } in
        let there : IsNamedAs told shown l after old new own seen = subst (λ (i : Id16). IsNamedAs told shown l after old new i seen) (sym up.same) here in
        subst (λ (x : Ledger D g). IsNamedAs told shown l x old new own seen) (sym up.ledger) there
    named_up said (risen.Refused back why) up = absurd up
