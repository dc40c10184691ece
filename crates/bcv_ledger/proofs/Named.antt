-- The first note of a new log.
use Rattle.std.proofs.Common.{◌≡◌, ◌∙◌, Bool, true, false, None, is_some, ap}
use Rattle.bcv_base.specs.declared.id.Id16.{Id16}
use Rattle.bcv_databases.specs.Catalog.{Catalog}
use Rattle.bcv_databases.specs.Sound.{AreLoaded}
use Rattle.bcv_model.specs.declared.kept.Kept.{Kept}
use Rattle.bcv_model.specs.declared.note.Note.TheVariants as note
use Rattle.bcv_model.specs.Notes.{after_note, nothing_kept}
use Rattle.bcv_ledger.specs.LedgerLoads.{NamedWhere}

pub me_is_loaded : (id : Id16) → AreLoaded (after_note nothing_kept (note.Me id))
me_is_loaded id = record { order = tt; each = tt; pending = tt }

-- nothing is pending, whether the note stands or not
free_after : (stands : Bool) (old new : Catalog) (id : Id16) → old.kept ≡ nothing_kept → NamedWhere stands old new id → new.kept.pending ≡ None
free_after true old new id was is = ap (λ (k : Kept). k.pending) is.0
free_after false old new id was is = ap (λ (c : Catalog). c.kept.pending) is ∙ ap (λ (k : Kept). k.pending) was

pub waits_not : (stands b : Bool) (old new : Catalog) (id : Id16) → old.kept ≡ nothing_kept → NamedWhere stands old new id → is_some new.kept.pending ≡ true → b ≡ true
waits_not stands b old new id was is some = let none : is_some new.kept.pending ≡ false = ap is_some (free_after stands old new id was is) in absurd (cc)
