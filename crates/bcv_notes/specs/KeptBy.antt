-- What the items of a log come to.
use Rattle.std.specs.Prelude.{◌≡◌, ℕ, List, ◌∷◌, map, take, drop, None, Vec}
use Rattle.std.specs.declared.alloc.Global.{Global}
use Rattle.bcv_model.specs.declared.kept.Kept.{Kept}
use Rattle.bcv_model.specs.declared.note.Note.{Note}
use Rattle.bcv_model.specs.NoteRules.{Folds}
use Rattle.bcv_model.specs.Notes.{nothing_kept, note_text}
use Rattle.bcv_notes.specs.Reading.{IsNoteAt}
use Rattle.bcv_notes.specs.declared.keeping.Fold.{Fold}
use Rattle.bcv_notes.specs.declared.keeping.Fold.TheVariants as fold

-- the bytes of each vector
abbrev pub items_of : List (Vec ℕ Global) → List (List ℕ)
items_of vectors = map (λ (v : Vec ℕ Global). v.items) vectors

-- the items are notes, each of which may stand where it stands, and this is kept after them
pub record AreNotes (items : List (List ℕ)) (k : Kept) : Type 0 where
  pub notes : List Note
  pub texts : items ≡ map note_text notes
  pub folds : Folds nothing_kept notes k

-- the first so many items are notes, and the next one is none that may stand after them
pub record StopsAt (items : List (List ℕ)) (i : ℕ) : Type 0 where
  pub kept : Kept
  pub before : AreNotes (take i items) kept
  pub item : List ℕ
  pub rest : List (List ℕ)
  pub next : drop i items ≡ item ∷ rest
  pub refused : IsNoteAt kept item None

-- what is kept, or the number of the first item that is refused
abbrev pub IsFoldOf : List (List ℕ) → Fold → Type 0
IsFoldOf items (fold.Kept k) = AreNotes items k
IsFoldOf items (fold.Stops i) = StopsAt items i

-- ---- a law

-- items come to one thing: what is kept, or the number of the first one that is refused
abbrev pub FoldsOnce : Type 0
FoldsOnce = (items : List (List ℕ)) (a b : Kept) → AreNotes items a → AreNotes items b → a ≡ b
