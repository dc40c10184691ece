-- The fewest notes of what is kept fold to it.
use Rattle.std.proofs.Common.{◌≡◌, ◌∙◌, ℕ, ◌<◌, Bool, true, cond, List, [], ◌∷◌, ◌++◌, length, Option, Some, None, refl, sym, ap, subst, arith, append_assoc, append-nil}
use Rattle.std.specs.Prelude.{IfSome}
use Rattle.std.specs.List.{AllByRecursion, flat_map}
use Rattle.std.specs.Str.{bytes_eq}
use Rattle.bcv_base.specs.declared.id.Id16.{Id16}
use Rattle.bcv_base.specs.Ids.{IsId}
use Rattle.bcv_base.specs.Keyed.{comes_before, keyed, with_keyed}
use Rattle.bcv_base.specs.ManifestRules.{Ascends, IsAbove}
use Rattle.bcv_dbmap.proofs.Keys.{before_back, before_other, key_same, keyed_here, keyed_there, with_later}
use Rattle.bcv_model.specs.declared.ask.Commit.{Commit}
use Rattle.bcv_model.specs.declared.kept.Kept.{Kept}
use Rattle.bcv_model.specs.declared.kept.Local.{Local}
use Rattle.bcv_model.specs.declared.kept.PendingPub.{PendingPub}
use Rattle.bcv_model.specs.declared.kept.Uploading.{Uploading}
use Rattle.bcv_model.specs.declared.note.Note.{Note}
use Rattle.bcv_model.specs.declared.note.Note.TheVariants.{First, Committed}
use Rattle.bcv_model.specs.NoteRules.{FitsDatabase, Folds, MayUpload}
use Rattle.bcv_model.specs.Notes.{after_note, kept_name, nothing_kept, with_local_commit}
use Rattle.bcv_notes.specs.KeptNotes.{KeptAgain, committed_notes, first_notes, intent_notes, kept_notes, local_notes}
use Rattle.bcv_notes.proofs.WellKept.{IsWell, IsWellLocal, grown, upload_as, well_kept}

folds_append : (k mid end : Kept) (xs ys : List Note) → Folds k xs mid → Folds mid ys end → Folds k (xs ++ ys) end
folds_append k mid end [] ys first then = subst (λ (j : Kept). Folds j ys end) first then
folds_append k mid end (x ∷ xs) ys first then = (first.0, folds_append (after_note k x) mid end xs ys first.1 then)

-- ---- a list that ends in one database

-- its name comes after all before it
above_end : (k : List ℕ) (before : List Local) (l : Local) → IsAbove kept_name k (before ++ l ∷ []) → comes_before k (kept_name l) ≡ true
above_end k [] l above = above.0
above_end k (x ∷ xs) l above = above_end k xs l above.1

new_name : (before : List Local) (l : Local) → Ascends kept_name (before ++ l ∷ []) → keyed kept_name (kept_name l) before ≡ None
new_name [] l asc = refl
new_name (x ∷ xs) l asc = keyed_there kept_name (kept_name l) x xs (before_other (kept_name x) (kept_name l) (above_end (kept_name x) xs l asc.0)) ∙ new_name xs l asc.1

put_last : (before : List Local) (l m : Local) → kept_name m ≡ kept_name l → Ascends kept_name (before ++ l ∷ []) → with_keyed kept_name m before ≡ before ++ m ∷ []
put_last [] l m same asc = refl
put_last (x ∷ xs) l m same asc =
    let later : comes_before (kept_name x) (kept_name m) ≡ true = ap (comes_before (kept_name x)) same ∙ above_end (kept_name x) xs l asc.0 in
    with_later kept_name m x xs (before_other (kept_name x) (kept_name m) later) (before_back (kept_name x) (kept_name m) later) ∙ ap (λ (ls : List Local). x ∷ ls) (put_last xs l m same asc.1)

found_last : (before : List Local) (l m : Local) → kept_name m ≡ kept_name l → Ascends kept_name (before ++ l ∷ []) → keyed kept_name (kept_name l) (before ++ m ∷ []) ≡ Some m
found_last [] l m same asc = keyed_here kept_name (kept_name l) m [] (ap (λ (n : List ℕ). bytes_eq n (kept_name l)) same ∙ key_same (kept_name l))
found_last (x ∷ xs) l m same asc =
    keyed_there kept_name (kept_name l) x (xs ++ m ∷ []) (before_other (kept_name x) (kept_name l) (above_end (kept_name x) xs l asc.0)) ∙ found_last xs l m same asc.1

grown_last : (before : List Local) (l m : Local) (c : Commit) → kept_name m ≡ kept_name l → Ascends kept_name (before ++ l ∷ []) → with_local_commit (kept_name l) c (before ++ m ∷ []) ≡ before ++ grown c m ∷ []
grown_last [] l m c same asc = ap (λ (b : Bool). cond b (grown c m ∷ []) (m ∷ [])) (ap (λ (n : List ℕ). bytes_eq n (kept_name l)) same ∙ key_same (kept_name l))
grown_last (x ∷ xs) l m c same asc =
    ap (λ (b : Bool). cond b (grown c x ∷ (xs ++ m ∷ [])) (x ∷ with_local_commit (kept_name l) c (xs ++ m ∷ []))) (before_other (kept_name x) (kept_name l) (above_end (kept_name x) xs l asc.0))
    ∙ ap (λ (ls : List Local). x ∷ ls) (grown_last xs l m c same asc.1)

-- ---- the notes of the databases

abbrev having : Id16 → List Local → Kept
having id ls = record { me = Some id; locals = ls; pending = None }

-- a database with other commits
abbrev given : Local → List Commit → Local
given l cs = record l { commits = cs }

module _ (id : Id16) (before : List Local) (l : Local) (asc : Ascends kept_name (before ++ l ∷ [])) (w : IsWellLocal l) where
  fold_commits : (made cs : List Commit) → AllByRecursion (FitsDatabase l.block l.entry.page_size) cs → Folds (having id (before ++ given l made ∷ [])) (committed_notes l.entry.name cs) (having id (before ++ given l (made ++ cs) ∷ []))
  fold_commits made [] fits = ap (λ (x : List Commit). having id (before ++ given l x ∷ [])) (append-nil made)
  fold_commits made (c ∷ cs) fits =
      let next : Kept = after_note (having id (before ++ given l made ∷ [])) (Committed l.entry.name c) in
      let next_is : having id (before ++ given l (made ++ c ∷ []) ∷ []) ≡ next = ap (having id) (sym (grown_last before l (given l made) c refl asc)) in
      let end_is : having id (before ++ given l ((made ++ c ∷ []) ++ cs) ∷ []) ≡ having id (before ++ given l (made ++ c ∷ cs) ∷ []) = ap (λ (x : List Commit). having id (before ++ given l x ∷ [])) (append_assoc made (c ∷ []) cs) in (
        record { named = refl; is_db = w.is_entry.name; local = given l made; is_local = found_last before l (given l made) refl asc; fits = fits.0 },
        subst (λ (j : Kept). Folds next (committed_notes l.entry.name cs) j) end_is (subst (λ (j : Kept). Folds j (committed_notes l.entry.name cs) (having id (before ++ given l ((made ++ c ∷ []) ++ cs) ∷ []))) next_is (fold_commits (made ++ c ∷ []) cs fits.1)),
      )

  fold_local : (cs : List Commit) → 0 < length cs → AllByRecursion (FitsDatabase l.block l.entry.page_size) cs → AllByRecursion (λ (m : Local). m.block ≡ l.block) before → Folds (having id before) (first_notes l cs) (having id (before ++ given l cs ∷ []))
  fold_local [] some fits alike = absurd (omega (arith, some))
  fold_local (c ∷ cs) some fits alike =
      let next : Kept = after_note (having id before) (First l.entry l.number l.block c) in
      let next_is : having id (before ++ given l (c ∷ []) ∷ []) ≡ next = ap (having id) (sym (put_last before l (given l (c ∷ [])) refl asc)) in (
        record { named = refl; is_block = w.is_block; is_number = w.is_number; is_entry = w.is_entry; is_new = new_name before l asc; alike = alike; fits = fits.0 },
        subst (λ (j : Kept). Folds j (committed_notes l.entry.name cs) (having id (before ++ given l (c ∷ cs) ∷ []))) next_is (fold_commits (c ∷ []) cs fits.1),
      )

-- a front of an ascending list
front_ascends : (before : List Local) (l : Local) (ls : List Local) → Ascends kept_name (before ++ l ∷ ls) → Ascends kept_name (before ++ l ∷ [])
front_ascends [] l ls asc = (tt, tt)
front_ascends (x ∷ xs) l ls asc = (front_above xs asc.0, front_ascends xs l ls asc.1)
  where
    front_above : (ys : List Local) → IsAbove kept_name (kept_name x) (ys ++ l ∷ ls) → IsAbove kept_name (kept_name x) (ys ++ l ∷ [])
    front_above [] above = (above.0, tt)
    front_above (y ∷ ys) above = (above.0, front_above ys above.1)

all_front : {A : Type 0} (P : A → Type 0) (xs ys : List A) → AllByRecursion P (xs ++ ys) → AllByRecursion P xs
all_front P [] ys all = tt
all_front P (x ∷ xs) ys all = (all.0, all_front P xs ys all.1)

all_back : {A : Type 0} (P : A → Type 0) (xs ys : List A) → AllByRecursion P (xs ++ ys) → AllByRecursion P ys
all_back P [] ys all = all
all_back P (x ∷ xs) ys all = all_back P xs ys all.1

same_blocks : (a b : ℕ) (ls : List Local) → a ≡ b → AllByRecursion (λ (m : Local). m.block ≡ a) ls → AllByRecursion (λ (m : Local). m.block ≡ b) ls
same_blocks a b ls same all = subst (λ (n : ℕ). AllByRecursion (λ (m : Local). m.block ≡ n) ls) same all

fold_locals : (id : Id16) (block : ℕ) (before rest : List Local) → Ascends kept_name (before ++ rest) → AllByRecursion IsWellLocal rest → AllByRecursion (λ (m : Local). m.block ≡ block) (before ++ rest)
    → Folds (having id before) (flat_map local_notes rest) (having id (before ++ rest))
fold_locals id block before [] asc each alike = ap (having id) (append-nil before)
fold_locals id block before (l ∷ ls) asc each alike =
    let joined : (before ++ l ∷ []) ++ ls ≡ before ++ l ∷ ls = append_assoc before (l ∷ []) ls in
    let at : l.block ≡ block = (all_back (λ (m : Local). m.block ≡ block) before (l ∷ ls) alike).0 in
    folds_append (having id before) (having id (before ++ l ∷ [])) (having id (before ++ l ∷ ls)) (local_notes l) (flat_map local_notes ls)
    (fold_local id before l (front_ascends before l ls asc) each.0 l.commits each.0.some each.0.fits (same_blocks block l.block before (sym at) (all_front (λ (m : Local). m.block ≡ block) before (l ∷ ls) alike)))
    (subst (λ (x : List Local). Folds (having id (before ++ l ∷ [])) (flat_map local_notes ls) (having id x)) joined
    (fold_locals id block (before ++ l ∷ []) ls (subst (Ascends kept_name) (sym joined) asc) each.1 (subst (AllByRecursion (λ (m : Local). m.block ≡ block)) (sym joined) alike)))

-- ---- all of them

fold_intent : (id : Id16) (ls : List Local) (o : Option PendingPub) → IfSome o (λ p. IsId p.id × IfSome p.upload (MayUpload (record { me = Some id; locals = ls; pending = o })))
    → Folds (having id ls) (intent_notes o) (record { me = Some id; locals = ls; pending = o })
fold_intent id ls None waits = refl
fold_intent id ls (Some p) waits = (record { named = refl; is_id = waits.0; free = refl; upload = upload p.upload waits.1 }, refl)
  where
    upload : (o : Option Uploading) → IfSome o (MayUpload (record { me = Some id; locals = ls; pending = Some p })) → IfSome o (MayUpload (having id ls))
    upload None m = tt
    upload (Some u) m = upload_as (record { me = Some id; locals = ls; pending = Some p }) (having id ls) u m refl

refold : (me : Option Id16) (ls : List Local) (o : Option PendingPub) → IsWell (record { me = me; locals = ls; pending = o }) → Folds nothing_kept (kept_notes (record { me = me; locals = ls; pending = o })) (record { me = me; locals = ls; pending = o })
refold None ls o w =
    let none : (ls ≡ []) × (o ≡ None) = w.named refl in
    subst (λ (x : List Local). Folds nothing_kept (kept_notes (record { me = None; locals = x; pending = o })) (record { me = None; locals = x; pending = o })) (sym none.0)
    (subst (λ (x : Option PendingPub). Folds nothing_kept (kept_notes (record { me = None; locals = []; pending = x })) (record { me = None; locals = []; pending = x })) (sym none.1) refl)
refold (Some id) ls o w =
    ((refl, w.is_me), folds_append (having id []) (having id ls) (record { me = Some id; locals = ls; pending = o }) (flat_map local_notes ls) (intent_notes o) (fold_locals id w.block [] ls w.ascends w.each w.alike) (fold_intent id ls o w.waits))

pub kept_again : KeptAgain
kept_again items k are = refold k.me k.locals k.pending (well_kept k are.notes are.folds)
