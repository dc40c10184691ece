-- How many bytes the fewest notes take that come to what is kept.
use Rattle.std.proofs.Common.{◌≡◌, ℕ, ◌+◌, ◌-◌, ◌*◌, ◌^◌, ◌<◌, ◌≤◌, min, List, [], ◌∷◌, ◌++◌, length, map, refl, sym, ◌∙◌, ap, arith, append_assoc, Vec, Global}
use Rattle.std.specs.List.{flat_map}
use Rattle.bcv_base.specs.Image.{Page}
use Rattle.bcv_model.specs.declared.ask.Commit.{Commit}
use Rattle.bcv_model.specs.declared.kept.Kept.{Kept}
use Rattle.bcv_model.specs.declared.kept.Local.{Local}
use Rattle.bcv_model.specs.declared.note.Note.{Note}
use Rattle.bcv_model.specs.declared.note.Note.TheVariants.{First}
use Rattle.bcv_model.specs.Notes.{after_note, note_text, pages_size}
use Rattle.bcv_notes.specs.KeptBy.{items_of}
use Rattle.bcv_notes.specs.KeptNotes.{SizesAdd, committed_notes, first_notes, intent_notes, kept_notes, local_notes, me_notes, notes_size}
use Rattle.bcv_notes.proofs.NoteSizes.{note_len}

-- a sum that is walked to the end
pub ended : {A : Type 0} (f : List A → ℕ) (rest : List A) (size all : ℕ) → f [] ≡ 0 → length rest ≡ 0 → size < 2 ^ 64 → min (size + f rest) (2 ^ 64 - 1) ≡ min all (2 ^ 64 - 1) → size ≡ min all (2 ^ 64 - 1)
ended f [] size all none empty small is = omega (arith, none, small, is)
ended f (x ∷ xs) size all none empty small is = absurd (omega (arith, empty))

pub notes_append : (xs ys : List Note) → notes_size (xs ++ ys) ≡ notes_size xs + notes_size ys
notes_append [] ys = omega arith
notes_append (x ∷ xs) ys = omega (arith, notes_append xs ys)

pub texts_append : (xs ys : List Note) → map note_text (xs ++ ys) ≡ map note_text xs ++ map note_text ys
texts_append [] ys = refl
texts_append (x ∷ xs) ys = ap (λ (l : List (List ℕ)). note_text x ∷ l) (texts_append xs ys)

pub locals_more : (rest : List Local) (l : Local) (after : List Local) → rest ≡ l ∷ after → notes_size (flat_map local_notes rest) ≡ notes_size (local_notes l) + notes_size (flat_map local_notes after)
locals_more rest l after is = ap (λ (ls : List Local). notes_size (flat_map local_notes ls)) is ∙ notes_append (local_notes l) (flat_map local_notes after)

pub texts_more : (rest : List Local) (l : Local) (after : List Local) → rest ≡ l ∷ after → map note_text (flat_map local_notes rest) ≡ map note_text (local_notes l) ++ map note_text (flat_map local_notes after)
texts_more rest l after is = ap (λ (ls : List Local). map note_text (flat_map local_notes ls)) is ∙ texts_append (local_notes l) (flat_map local_notes after)

-- pages take at least four bytes each
pub few_pages : (ps : List (ℕ × Page)) → 4 * length ps ≤ pages_size ps
few_pages [] = omega arith
few_pages (p ∷ ps) = omega (arith, few_pages ps)

pub few_committed : (db : List ℕ) (rest : List Commit) (c : Commit) (after : List Commit) → rest ≡ c ∷ after → notes_size (committed_notes db rest) < 2 ^ 32 → length c.pages < 2 ^ 32
few_committed db rest c after is small = omega (arith, few_pages c.pages, ap (λ (cs : List Commit). notes_size (committed_notes db cs)) is, small)

pub few_first : (l : Local) (c : Commit) (after : List Commit) → l.commits ≡ c ∷ after → notes_size (local_notes l) < 2 ^ 32 → length c.pages < 2 ^ 32
few_first l c after is small = omega (arith, few_pages c.pages, ap (λ (cs : List Commit). notes_size (first_notes l cs)) is, small)

-- the three parts
pub kept_parts : (k : Kept) → notes_size (kept_notes k) ≡ notes_size (me_notes k.me) + (notes_size (flat_map local_notes k.locals) + notes_size (intent_notes k.pending))
kept_parts k =
    omega (arith, notes_append (me_notes k.me) (flat_map local_notes k.locals ++ intent_notes k.pending), notes_append (flat_map local_notes k.locals) (intent_notes k.pending))

pub sizes_add : SizesAdd
sizes_add k end [] folds = refl
sizes_add k end (x ∷ xs) folds = omega (arith, note_len k x folds.0, sizes_add (after_note k x) end xs folds.1)

-- one database more was written
pub locals_step : (before mid texts : List (List ℕ)) (rest : List Local) (l : Local) (after : List Local) → rest ≡ l ∷ after → mid ≡ before ++ map note_text (local_notes l) → before ++ map note_text (flat_map local_notes rest) ≡ texts
    → mid ++ map note_text (flat_map local_notes after) ≡ texts
locals_step before mid texts rest l after is pushed so_far =
    let later = map note_text (flat_map local_notes after) in
    ap (λ (x : List (List ℕ)). x ++ later) pushed ∙ append_assoc before (map note_text (local_notes l)) later ∙ ap (λ (x : List (List ℕ)). before ++ x) (sym (texts_more rest l after is)) ∙ so_far

-- one text more was pushed
pub items_push : (old : List (Vec ℕ Global)) (v : Vec ℕ Global) → items_of (old ++ v ∷ []) ≡ items_of old ++ v.items ∷ []
items_push [] v = refl
items_push (w ∷ old) v = ap (λ (l : List (List ℕ)). w.items ∷ l) (items_push old v)

-- the first commit was written, and then the others
pub first_step : (before mid : List (Vec ℕ Global)) (v : Vec ℕ Global) (new : List (List ℕ)) (l : Local) (c : Commit) (after : List Commit) → l.commits ≡ c ∷ after → mid ≡ before ++ v ∷ [] → v.items ≡ note_text (First l.entry l.number l.block c)
    → new ≡ items_of mid ++ map note_text (committed_notes l.entry.name after) → new ≡ items_of before ++ map note_text (local_notes l)
first_step before mid v new l c after is pushed text later =
    later ∙ ap (λ (x : List (List ℕ)). x ++ map note_text (committed_notes l.entry.name after)) (ap items_of pushed ∙ items_push before v ∙ ap (λ (t : List ℕ). items_of before ++ t ∷ []) text)
    ∙ append_assoc (items_of before) (note_text (First l.entry l.number l.block c) ∷ []) (map note_text (committed_notes l.entry.name after))
    ∙ ap (λ (cs : List Commit). items_of before ++ map note_text (first_notes l cs)) (sym is)
