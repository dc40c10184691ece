-- One more note, and that items fold in one way.
use Rattle.std.proofs.Common.{◌≡◌, ◌∙◌, ℕ, zero, suc, ◌+◌, ◌<◌, List, [], ◌∷◌, ◌++◌, map, take, drop, length, get_or, refl, sym, ap, subst, arith, None, Vec, Global}
use Rattle.std.specs.Prelude.{Some}
use Rattle.std.proofs.lemmas.List.{take_more, drop_more}
use Rattle.bcv_model.specs.declared.kept.Kept.{Kept}
use Rattle.bcv_model.specs.declared.note.Note.{Note}
use Rattle.bcv_model.specs.NoteRules.{Folds, MayStand}
use Rattle.bcv_model.specs.Notes.{nothing_kept, after_note, note_text}
use Rattle.bcv_notes.specs.KeptBy.{AreNotes, StopsAt, FoldsOnce, items_of}
use Rattle.bcv_notes.specs.Reading.{IsNoteAt}
use Rattle.bcv_notes.proofs.ReadNotes.{texts_differ}

pub folds_then : (k mid : Kept) (notes : List Note) (x : Note) → Folds k notes mid → MayStand mid x → Folds k (notes ++ x ∷ []) (after_note mid x)
folds_then k mid [] x is may = subst (λ (c : Kept). MayStand c x × (after_note mid x ≡ after_note c x)) is (may, refl)
folds_then k mid (y ∷ ys) x h may = (h.0, folds_then (after_note k y) mid ys x h.1 may)

map_more : (notes : List Note) (x : Note) → map note_text (notes ++ x ∷ []) ≡ map note_text notes ++ note_text x ∷ []
map_more [] x = refl
map_more (y ∷ ys) x = ap (λ (l : List (List ℕ)). note_text y ∷ l) (map_more ys x)

-- one more item that is a note
pub notes_then : (items : List (List ℕ)) (k : Kept) (item : List ℕ) (x : Note) → AreNotes items k → MayStand k x → item ≡ note_text x → AreNotes (items ++ item ∷ []) (after_note k x)
notes_then items k item x are may is = record {
  notes = are.notes ++ x ∷ [];
  texts = ap (λ (l : List (List ℕ)). l ++ item ∷ []) are.texts ∙ ap (λ (t : List ℕ). map note_text are.notes ++ t ∷ []) is ∙ sym (map_more are.notes x);
  folds = folds_then nothing_kept k are.notes x are.folds may;
}

folds_one : (k : Kept) (xs ys : List Note) (a b : Kept) → map note_text xs ≡ map note_text ys → Folds k xs a → Folds k ys b → a ≡ b
folds_one k [] [] a b same h g = h ∙ sym g
folds_one k [] (y ∷ ys) a b same h g = absurd cc
folds_one k (x ∷ xs) [] a b same h g = absurd cc
folds_one k (x ∷ xs) (y ∷ ys) a b same h g =
    let is : x ≡ y = texts_differ k x y h.0 g.0 (cc same) in
    let later : map note_text xs ≡ map note_text ys = cc same in
    folds_one (after_note k x) xs ys a b later h.1 (subst (λ (z : Note). Folds (after_note k z) ys b) (sym is) g.1)

pub fold_once : FoldsOnce
fold_once items a b x y = folds_one nothing_kept x.notes y.notes a b (sym x.texts ∙ y.texts) x.folds y.folds

-- the item at a place
got : (vs : List (Vec ℕ Global)) (i : ℕ) (v : Vec ℕ Global) → v ≡ get_or vs i v → get_or (items_of vs) i v.items ≡ v.items
got [] i v is = refl
got (w ∷ ws) zero v is = ap (λ (z : Vec ℕ Global). z.items) (sym is)
got (w ∷ ws) (suc i) v is = got ws i v is

same_len : (vs : List (Vec ℕ Global)) → length (items_of vs) ≡ length vs
same_len [] = refl
same_len (v ∷ vs) = ap suc (same_len vs)

-- one more item of the list is a note
pub more : (vs : List (Vec ℕ Global)) (i : ℕ) (v : Vec ℕ Global) (k : Kept) (x : Note) → i < length vs → v ≡ get_or vs i v → AreNotes (take i (items_of vs)) k → IsNoteAt k v.items (Some x) → AreNotes (take (i + 1) (items_of vs)) (after_note k x)
more vs i v k x lt is are note =
    let lt2 : i < length (items_of vs) = omega (arith, lt, same_len vs) in
    let one : take (i + 1) (items_of vs) ≡ take i (items_of vs) ++ v.items ∷ [] = take_more (items_of vs) i v.items lt2 ∙ ap (λ (t : List ℕ). take i (items_of vs) ++ t ∷ []) (got vs i v is) in
    subst (λ (l : List (List ℕ)). AreNotes l (after_note k x)) (sym one) (notes_then (take i (items_of vs)) k v.items x are note.0 note.1)

-- the next item is refused
pub stops : (vs : List (Vec ℕ Global)) (i : ℕ) (v : Vec ℕ Global) (k : Kept) → i < length vs → v ≡ get_or vs i v → AreNotes (take i (items_of vs)) k → IsNoteAt k v.items None → StopsAt (items_of vs) i
stops vs i v k lt is are refused =
    let lt2 : i < length (items_of vs) = omega (arith, lt, same_len vs) in
    record {
      kept = k;
      before = are;
      item = v.items;
      rest = drop (i + 1) (items_of vs);
      next = drop_more (items_of vs) i v.items lt2 ∙ ap (λ (t : List ℕ). t ∷ drop (i + 1) (items_of vs)) (got vs i v is);
      refused = refused;
    }
