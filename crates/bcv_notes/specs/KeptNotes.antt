-- The fewest notes that come to what is kept: those that a client's log is written anew with.
use Rattle.std.specs.Prelude.{◌≡◌, ℕ, ◌+◌, ◌≤◌, List, [], ◌∷◌, ◌++◌, length, map, Option, Some, None}
use Rattle.std.specs.List.{flat_map}
use Rattle.bcv_base.specs.declared.id.Id16.{Id16}
use Rattle.bcv_model.specs.declared.ask.Commit.{Commit}
use Rattle.bcv_model.specs.declared.kept.Kept.{Kept}
use Rattle.bcv_model.specs.declared.kept.Local.{Local}
use Rattle.bcv_model.specs.declared.kept.PendingPub.{PendingPub}
use Rattle.bcv_model.specs.declared.note.Note.{Note}
use Rattle.bcv_model.specs.declared.note.Note.TheVariants.{Me, First, Committed, Intent, Done, Void, Revert}
use Rattle.bcv_model.specs.NoteRules.{Folds, MayStand}
use Rattle.bcv_model.specs.Notes.{after_note, note_size, note_text, nothing_kept}
use Rattle.bcv_notes.specs.KeptBy.{AreNotes}

-- the notes of further commits of a database
abbrev pub committed_notes : List ℕ → List Commit → List Note
committed_notes db [] = []
committed_notes db (c ∷ cs) = Committed db c ∷ committed_notes db cs

-- the notes of a database with these commits
abbrev pub first_notes : Local → List Commit → List Note
first_notes l [] = []
first_notes l (c ∷ cs) = First l.entry l.number l.block c ∷ committed_notes l.entry.name cs

-- the notes of a database: the first commit with the base, and the others
abbrev pub local_notes : Local → List Note
local_notes l = first_notes l l.commits

abbrev pub me_notes : Option Id16 → List Note
me_notes None = []
me_notes (Some id) = Me id ∷ []

abbrev pub intent_notes : Option PendingPub → List Note
intent_notes None = []
intent_notes (Some p) = Intent p ∷ []

-- the client's id, the databases ascending by name, and the pending publication
abbrev pub kept_notes : Kept → List Note
kept_notes k = me_notes k.me ++ (flat_map local_notes k.locals ++ intent_notes k.pending)

-- how many bytes items take in a file: each 5 more than its own
abbrev pub items_size : List (List ℕ) → ℕ
items_size [] = 0
items_size (i ∷ is) = 5 + length i + items_size is

-- how many bytes notes take in a file
abbrev pub notes_size : List Note → ℕ
notes_size [] = 0
notes_size (x ∷ xs) = 5 + note_size x + notes_size xs

-- the note stays among the fewest, until a publication ends or commits are given up
abbrev pub IsLasting : Note → Type 0
IsLasting (Me id) = ⊥
IsLasting (First entry number block c) = Unit {0}
IsLasting (Committed db c) = Unit {0}
IsLasting (Intent p) = Unit {0}
IsLasting (Done id number) = ⊥
IsLasting (Void id) = ⊥
IsLasting (Revert db) = ⊥

-- ---- laws

-- what a log comes to, its fewest notes come to again
abbrev pub KeptAgain : Type 0
KeptAgain = (items : List (List ℕ)) (k : Kept) → AreNotes items k → Folds nothing_kept (kept_notes k) k

-- notes that fold take as many bytes as their sizes say
abbrev pub SizesAdd : Type 0
SizesAdd = (k end : Kept) (xs : List Note) → Folds k xs end → items_size (map note_text xs) ≡ notes_size xs

-- a note that stays makes the fewest notes longer by itself at least
abbrev pub SizeGrows : Type 0
SizeGrows = (k : Kept) (x : Note) → MayStand k x → IsLasting x → notes_size (kept_notes k) + 5 + note_size x ≤ notes_size (kept_notes (after_note k x))
