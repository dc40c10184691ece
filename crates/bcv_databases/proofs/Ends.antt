-- What a caller sees of a change, over what stands in memory.
use Rattle.std.proofs.Common.{◌≡◌, subst}
use Rattle.bcv_model.specs.declared.note.Note.{Note}
use Rattle.bcv_model.specs.Notes.{after_note}
use Rattle.bcv_databases.specs.Catalog.{Catalog}
use Rattle.bcv_databases.specs.Changes.{Ends}
use Rattle.bcv_databases.specs.Sound.{IsSame, KeepsViews}

pub ends_over : (old mid new : Catalog) (note : Note) → mid ≡ old → new.kept ≡ after_note mid.kept note → new.known ≡ mid.known → KeepsViews mid.sets new.sets → Ends old new note
ends_over old mid new note is kept known views = subst (λ (c : Catalog). Ends c new note) is (record { kept = kept; known = known; views = views })

pub same_over : (old mid new : Catalog) → mid ≡ old → new.kept ≡ mid.kept → new.known ≡ mid.known → KeepsViews mid.sets new.sets → IsSame old new
same_over old mid new is kept known views = subst (λ (c : Catalog). IsSame c new) is (record { kept = kept; known = known; views = views })
