-- The databases that a manifest makes known, in the words of what a client stands for.
use Rattle.std.proofs.Common.{◌≡◌, ◌∙◌, ℕ, Bool, true, false, cond, List, [], ◌∷◌, map, filter, refl, subst, sym, ap}
use Rattle.bcv_base.specs.declared.manifest.DbEntry.{DbEntry}
use Rattle.bcv_base.specs.declared.manifest.Manifest.{Manifest}
use Rattle.bcv_base.specs.ManifestRules.{Ascends, IsAbove, db_name}
use Rattle.bcv_databases.specs.Catalog.{Catalog, known_name}
use Rattle.bcv_databases.specs.Changes as changes
use Rattle.bcv_databases.specs.Sound.{KeepsViews}
use Rattle.bcv_databases.specs.declared.known.Known.{Known}
use Rattle.bcv_journal.specs.declared.fault.Noted.{Noted}
use Rattle.bcv_journal.specs.declared.fault.Noted.TheVariants.{Done, JournalFull, DiskFault, Closed, NoMemory}
use Rattle.bcv_model.specs.declared.kept.Kept.{Kept}
use Rattle.bcv_model.specs.declared.note.Note.{Note}
use Rattle.bcv_model.specs.Notes.{after_note}
use Rattle.bcv_clientstate.specs.KnownLaws.{has_none, known_in, known_of}
use Rattle.bcv_ledger.specs.LedgerNotes.{PollsWhere, stands}
use Rattle.bcv_ledger.specs.NoteEnds.{kept_ended, known_ended, noted_fault}

-- ---- the same databases

known_among : (k : Kept) (m : Manifest) (ds : List DbEntry) → changes.known_at k (map (known_in m) ds) ≡ map (known_in m) (filter (has_none k) ds)
known_among k m [] = refl
known_among k m (d ∷ ds) = step (has_none k d) (known_among k m ds)
  where
    step : (b : Bool) → changes.known_at k (map (known_in m) ds) ≡ map (known_in m) (filter (has_none k) ds)
        → cond b (known_in m d ∷ changes.known_at k (map (known_in m) ds)) (changes.known_at k (map (known_in m) ds)) ≡ map (known_in m) (cond b (d ∷ filter (has_none k) ds) (filter (has_none k) ds))
    step true e = ap (λ (xs : List Known). known_in m d ∷ xs) e
    step false e = e

pub known_at_is : (k : Kept) (m : Manifest) → changes.known_at k (changes.known_in m) ≡ known_of k m
known_at_is k m = known_among k m m.dbs

-- ---- in order

above_in : (m : Manifest) (name : List ℕ) (ds : List DbEntry) → IsAbove db_name name ds → IsAbove known_name name (map (known_in m) ds)
above_in m name [] above = tt
above_in m name (d ∷ ds) above = (above.0, above_in m name ds above.1)

pub ascends_in : (m : Manifest) (ds : List DbEntry) → Ascends db_name ds → Ascends known_name (map (known_in m) ds)
ascends_in m [] asc = tt
ascends_in m (d ∷ ds) asc = (above_in m d.name ds asc.0, ascends_in m ds asc.1)

-- ---- after the note of a publication

module _ (x : Note) (m : Manifest) (old mid new : Catalog) (found : List Known) (are : found ≡ changes.known_in m) where
  pub kept_polled : (result : Noted) → mid.kept ≡ kept_ended (noted_fault result) old.kept x → PollsWhere (stands result) mid new found → new.kept ≡ kept_ended (noted_fault result) old.kept x
  kept_polled Done kept polls = polls.kept ∙ kept
  kept_polled JournalFull kept polls = ap (λ (c : Catalog). c.kept) polls ∙ kept
  kept_polled DiskFault kept polls = ap (λ (c : Catalog). c.kept) polls ∙ kept
  kept_polled Closed kept polls = ap (λ (c : Catalog). c.kept) polls ∙ kept
  kept_polled NoMemory kept polls = ap (λ (c : Catalog). c.kept) polls ∙ kept

  pub known_polled : (result : Noted) → mid.kept ≡ kept_ended (noted_fault result) old.kept x → mid.known ≡ old.known → PollsWhere (stands result) mid new found
      → new.known ≡ known_ended (noted_fault result) old.known (known_of (after_note old.kept x) m)
  known_polled Done kept known polls =
      polls.known ∙ ap (λ (k : Kept). changes.known_at k found) kept ∙ ap (changes.known_at (after_note old.kept x)) are ∙ known_at_is (after_note old.kept x) m
  known_polled JournalFull kept known polls = ap (λ (c : Catalog). c.known) polls ∙ known
  known_polled DiskFault kept known polls = ap (λ (c : Catalog). c.known) polls ∙ known
  known_polled Closed kept known polls = ap (λ (c : Catalog). c.known) polls ∙ known
  known_polled NoMemory kept known polls = ap (λ (c : Catalog). c.known) polls ∙ known

  pub views_polled : (result : Noted) → KeepsViews old.sets mid.sets → PollsWhere (stands result) mid new found → KeepsViews old.sets new.sets
  views_polled Done views polls = subst (KeepsViews old.sets) (sym polls.sets) views
  views_polled JournalFull views polls = subst (λ (c : Catalog). KeepsViews old.sets c.sets) (sym polls) views
  views_polled DiskFault views polls = subst (λ (c : Catalog). KeepsViews old.sets c.sets) (sym polls) views
  views_polled Closed views polls = subst (λ (c : Catalog). KeepsViews old.sets c.sets) (sym polls) views
  views_polled NoMemory views polls = subst (λ (c : Catalog). KeepsViews old.sets c.sets) (sym polls) views
