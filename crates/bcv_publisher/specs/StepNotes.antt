-- What a step notes, and what a crash at any moment of it leaves.
use Rattle.std.specs.Prelude.{◌≡◌, List, [], ◌∷◌, Option, Some, None}
use Rattle.bcv_base.specs.declared.id.Id16.{Id16}
use Rattle.bcv_clientlog.specs.declared.log.ClientLog.{ClientLog}
use Rattle.bcv_clientlog.specs.LogParts.{LoadsUpTo, log_disk}
use Rattle.bcv_disk.specs.Crash.{LeavesOnly}
use Rattle.bcv_disk.specs.DiskShown.{DiskShown}
use Rattle.bcv_model.specs.declared.kept.Kept.{Kept}
use Rattle.bcv_model.specs.declared.kept.PendingPub.{PendingPub}
use Rattle.bcv_model.specs.declared.note.Note.{Note}
use Rattle.bcv_model.specs.declared.note.Note.TheVariants as note
use Rattle.bcv_clientstate.specs.Journaled.{Journaled, most_of}
use Rattle.bcv_clientstate.specs.SeenClient.{Free}

-- ---- the notes

-- the note ends the publication of an id
abbrev pub EndsPending : Id16 → Note → Type 0
EndsPending id (note.Done i number) = i ≡ id
EndsPending id (note.Void i) = i ≡ id
EndsPending id _ = ⊥

-- no note, or one that ends it
abbrev pub EndsOnce : Id16 → List Note → Type 0
EndsOnce id [] = Unit {0}
EndsOnce id (y ∷ []) = EndsPending id y
EndsOnce id (y ∷ z ∷ zs) = ⊥

-- of a publication where this is pending: its intent, where nothing is, and then no note, or one that ends it
abbrev pub NotesPublication : Option PendingPub → PendingPub → List Note → Type 0
NotesPublication None x [] = Unit {0}
NotesPublication None x (y ∷ ys) = (y ≡ note.Intent x) × EndsOnce x.id ys
NotesPublication (Some p) x ys = EndsOnce x.id ys

-- ---- a crash

-- a crash at any moment of a call leaves what was kept, or that with the first of these notes, with two of them, and so on
abbrev pub LeavesNotes : {D : Type 0} {g : _} → (D → DiskShown) → ClientLog D g → ClientLog D g → Kept → List Note → Type 0
LeavesNotes shown old new k notes =
    (f : Free) → Journaled shown old k f
    → LeavesOnly (shown (log_disk old)) (shown (log_disk new)) (LoadsUpTo k (most_of f) notes)
