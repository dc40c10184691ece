-- The databases after a publication that was found to be made.
use Rattle.std.proofs.Common.{◌≡◌, ◌∙◌, ℕ, List, ap, subst, sym}
use Rattle.bcv_base.specs.declared.id.Id16.{Id16}
use Rattle.bcv_base.specs.Keyed.{with_made}
use Rattle.bcv_databases.specs.Catalog.{Catalog, known_name}
use Rattle.bcv_databases.specs.Changes.{known_left}
use Rattle.bcv_databases.specs.Sound.{IsSame, KeepsViews}
use Rattle.bcv_databases.specs.declared.known.Known.{Known}
use Rattle.bcv_journal.specs.declared.fault.Noted.{Noted}
use Rattle.bcv_journal.specs.declared.fault.Noted.TheVariants.{Done, JournalFull, DiskFault, Closed, NoMemory}
use Rattle.bcv_model.specs.declared.kept.Kept.{Kept}
use Rattle.bcv_model.specs.declared.note.Note.TheVariants as note
use Rattle.bcv_model.specs.Notes.{after_note}
use Rattle.bcv_ledger.specs.LedgerNotes.{ResolvesWhere, stands}
use Rattle.bcv_ledger.specs.NoteEnds.{kept_ended, known_ended, noted_fault}
use Rattle.bcv_ledger.proofs.NotesEnded.{views_then}

-- once memory was taken, and then the note stood or not
module _ (id : Id16) (number : ℕ) (old mid new : Catalog) (same : IsSame old mid) where
  abbrev then : Kept → List Known → List Known
  then k known = with_made known_name (known_left number (after_note k (note.Done id number)).locals k.pending) known

  pub kept_resolved : (result : Noted) → ResolvesWhere (stands result) mid new number → new.kept ≡ kept_ended (noted_fault result) old.kept (note.Done id number)
  kept_resolved Done is = is.kept id ∙ ap (λ (k : Kept). after_note k (note.Done id number)) same.kept
  kept_resolved JournalFull is = ap (λ (c : Catalog). c.kept) is ∙ same.kept
  kept_resolved DiskFault is = ap (λ (c : Catalog). c.kept) is ∙ same.kept
  kept_resolved Closed is = ap (λ (c : Catalog). c.kept) is ∙ same.kept
  kept_resolved NoMemory is = ap (λ (c : Catalog). c.kept) is ∙ same.kept

  pub known_resolved : (result : Noted) → ResolvesWhere (stands result) mid new number → new.known ≡ known_ended (noted_fault result) old.known (then old.kept old.known)
  known_resolved Done is =
      is.known
      ∙ ap (λ (k : Kept). with_made known_name (known_left number k.locals mid.kept.pending) mid.known) (is.kept id)
      ∙ ap (λ (k : Kept). then k mid.known) same.kept
      ∙ ap (then old.kept) same.known
  known_resolved JournalFull is = ap (λ (c : Catalog). c.known) is ∙ same.known
  known_resolved DiskFault is = ap (λ (c : Catalog). c.known) is ∙ same.known
  known_resolved Closed is = ap (λ (c : Catalog). c.known) is ∙ same.known
  known_resolved NoMemory is = ap (λ (c : Catalog). c.known) is ∙ same.known

  pub views_resolved : (result : Noted) → ResolvesWhere (stands result) mid new number → KeepsViews old.sets new.sets
  views_resolved Done is = views_then old.sets mid.sets new.sets same.views is.views
  views_resolved JournalFull is = subst (λ (c : Catalog). KeepsViews old.sets c.sets) (sym is) same.views
  views_resolved DiskFault is = subst (λ (c : Catalog). KeepsViews old.sets c.sets) (sym is) same.views
  views_resolved Closed is = subst (λ (c : Catalog). KeepsViews old.sets c.sets) (sym is) same.views
  views_resolved NoMemory is = subst (λ (c : Catalog). KeepsViews old.sets c.sets) (sym is) same.views
