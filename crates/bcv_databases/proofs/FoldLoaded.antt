-- What the notes of a client's log come to may be loaded.
use Rattle.std.proofs.Common.{◌≡◌, ◌∙◌, ℕ, zero, suc, Bool, true, ◌&&◌, List, [], ◌∷◌, ◌++◌, length, length-append, length-drop, map, drop, refl, sym, ap, subst, arith, Option, Some, None, inl, inr}
use Rattle.std.specs.Prelude.{IfSome}
use Rattle.std.specs.List.{list_all}
use Rattle.std.proofs.lemmas.Bool.{and_parts, cases_lt}
use Rattle.std.proofs.lemmas.Option.{same_Some}
use Rattle.bcv_base.specs.Image.{Writes}
use Rattle.bcv_base.specs.Keyed.{keyed, with_keyed, without_keyed}
use Rattle.bcv_base.specs.Views.{is_commit}
use Rattle.bcv_dbmap.proofs.Keys.{all_found, all_with, all_without, ascends_with, ascends_without, keyed_at, keyed_key, keyed_other}
use Rattle.bcv_model.specs.declared.ask.Commit.{Commit}
use Rattle.bcv_model.specs.declared.kept.Kept.{Kept}
use Rattle.bcv_model.specs.declared.kept.Local.{Local}
use Rattle.bcv_model.specs.declared.kept.PendingPub.{PendingPub}
use Rattle.bcv_model.specs.declared.kept.Uploading.{Uploading}
use Rattle.bcv_model.specs.declared.note.Note.{Note}
use Rattle.bcv_model.specs.declared.note.Note.TheVariants.{Me, First, Committed, Intent, Done, Void, Revert}
use Rattle.bcv_model.specs.Commits.{writes_of}
use Rattle.bcv_model.specs.NoteRules.{Folds, MayStand, MayUpload}
use Rattle.bcv_model.specs.Notes.{after_note, kept_name, kept_published, nothing_kept, with_published}
use Rattle.bcv_databases.specs.LoadedLaw.{FoldsAreLoaded}
use Rattle.bcv_databases.specs.Sound.{AreLoaded, CanEnd, CanUpload, IsLoaded}
use Rattle.bcv_databases.proofs.OneChanged.{SameLocals, ends_one}
use Rattle.bcv_databases.proofs.Replaced.{replaced_with, with_more}
use Rattle.bcv_databases.proofs.UploadEnds.{after, uploaded_all, uploaded_some}

-- ---- commits

all_push : (test : Writes → Bool) (cs : List Commit) (c : Commit) → list_all test (map writes_of cs) ≡ true → test (writes_of c) ≡ true → list_all test (map writes_of (cs ++ c ∷ [])) ≡ true
all_push test [] c all one = ap (λ (b : Bool). b && true) one
all_push test (x ∷ xs) c all one =
    let parts = and_parts (test (writes_of x)) (list_all test (map writes_of xs)) all in
    ap (λ (b : Bool). b && list_all test (map writes_of (xs ++ c ∷ []))) parts.0 ∙ all_push test xs c parts.1 one

all_drop : (test : Writes → Bool) (n : ℕ) (cs : List Commit) → list_all test (map writes_of cs) ≡ true → list_all test (map writes_of (drop n cs)) ≡ true
all_drop test zero cs all = all
all_drop test (suc n) [] all = refl
all_drop test (suc n) (x ∷ xs) all = all_drop test n xs (and_parts (test (writes_of x)) (list_all test (map writes_of xs)) all).1

-- ---- one database changed

module _ (k : Kept) (a : AreLoaded k) where
  -- one of its name, loaded, in the place of another one or none, whose uploads it may be
  put_loaded : (m : Local) (p : Option PendingPub) → IsLoaded m → CanEnd (with_keyed kept_name m k.locals) p → AreLoaded (record { me = k.me; locals = with_keyed kept_name m k.locals; pending = p })
  put_loaded m p is ends = record { order = ascends_with kept_name m k.locals a.order; each = all_with kept_name IsLoaded m k.locals is a.each; pending = ends }

  taken_loaded : (db : List ℕ) → AreLoaded (record { me = k.me; locals = without_keyed kept_name db k.locals; pending = None })
  taken_loaded db = record { order = ascends_without kept_name db k.locals a.order; each = all_without kept_name IsLoaded db k.locals a.each; pending = tt }

  others_stay : (m : Local) → SameLocals (kept_name m) k.locals (with_keyed kept_name m k.locals) [] [] [] []
  others_stay m b other = keyed_other kept_name m b k.locals other

  first_loaded : (m : Local) → keyed kept_name (kept_name m) k.locals ≡ None → IsLoaded m → AreLoaded (record { me = k.me; locals = with_keyed kept_name m k.locals; pending = k.pending })
  first_loaded m none is =
      put_loaded m k.pending is
      (ends_one (kept_name m) k.locals (with_keyed kept_name m k.locals) [] [] [] [] (others_stay m) (λ l found. let both : Some l ≡ None = sym found ∙ none in absurd cc) k.pending a.pending)

  more_loaded : (l : Local) (c : Commit) → keyed kept_name (kept_name l) k.locals ≡ Some l → is_commit l.entry.page_size (writes_of c) ≡ true
      → AreLoaded (record { me = k.me; locals = with_keyed kept_name (with_more c l) k.locals; pending = k.pending })
  more_loaded l c found fits =
      let m : Local = with_more c l in
      let is : IsLoaded l = all_found kept_name IsLoaded (kept_name l) k.locals l a.each found in
      put_loaded m k.pending
      (record { some = omega (arith, length-append l.commits (c ∷ [])); commits = all_push (is_commit l.entry.page_size) l.commits c is.commits fits })
      (ends_one (kept_name m) k.locals (with_keyed kept_name m k.locals) [] [] [] [] (others_stay m)
      (λ x found_x. (m, keyed_at kept_name m k.locals, ap (λ (y : Local). y.entry.page_size) (same_Some x l (sym found_x ∙ found)))) k.pending a.pending)

  uploaded_loaded : (number : ℕ) (u : Uploading) → CanUpload k.locals u → AreLoaded (record { me = k.me; locals = with_published number (Some u) k.locals; pending = None })
  uploaded_loaded number u can = elim (cases_lt u.count (length can.local.commits)) [
    | inl lt ↦
        let is : IsLoaded can.local = all_found kept_name IsLoaded u.entry.name k.locals can.local a.each can.is_local in
        let all = all_drop (is_commit can.local.entry.page_size) u.count can.local.commits is.commits in
        subst (λ (ls : List Local). AreLoaded (record { me = k.me; locals = ls; pending = None })) (sym (uploaded_some number u k.locals can.local a.order can.is_local lt))
        (put_loaded (after number u can.local) None
        (record { some = omega (arith, lt, length-drop u.count can.local.commits); commits = ap (λ (n : ℕ). list_all (is_commit n) (map writes_of (drop u.count can.local.commits))) can.size ∙ all }) tt)
    | inr le ↦
        subst (λ (ls : List Local). AreLoaded (record { me = k.me; locals = ls; pending = None })) (sym (uploaded_all number u k.locals can.local a.order can.is_local le)) (taken_loaded u.entry.name)
  ]

  published_by : (number : ℕ) (o : Option Uploading) → IfSome o (CanUpload k.locals) → AreLoaded (record { me = k.me; locals = with_published number o k.locals; pending = None })
  published_by number None can = record { order = a.order; each = a.each; pending = tt }
  published_by number (Some u) can = uploaded_loaded number u can

  done_by : (number : ℕ) (p : Option PendingPub) → CanEnd k.locals p → AreLoaded (kept_published number k p)
  done_by number None can = a
  done_by number (Some p) can = published_by number p.upload can

  upload_by : (o : Option Uploading) → IfSome o (MayUpload k) → IfSome o (CanUpload k.locals)
  upload_by None may = tt
  upload_by (Some u) may = record { local = may.local; is_local = may.is_local; size = may.same_page_size }

  note_loaded : (x : Note) → MayStand k x → AreLoaded (after_note k x)
  note_loaded (Me id) may = record { order = a.order; each = a.each; pending = a.pending }
  note_loaded (First entry number block commit) may =
      first_loaded (record { entry = entry; number = number; block = block; commits = commit ∷ [] }) may.is_new
      (record { some = omega arith; commits = ap (λ (b : Bool). b && true) may.fits.pages })
  note_loaded (Committed db commit) may =
      let name : kept_name may.local ≡ db = keyed_key kept_name db k.locals may.local may.is_local in
      let found : keyed kept_name (kept_name may.local) k.locals ≡ Some may.local = ap (λ (n : List ℕ). keyed kept_name n k.locals) name ∙ may.is_local in
      subst (λ (ls : List Local). AreLoaded (record { me = k.me; locals = ls; pending = k.pending }))
      (sym (replaced_with (λ (x : Local). with_more commit x ∷ []) db k.locals may.local (with_more commit may.local) a.order may.is_local refl name))
      (more_loaded may.local commit found may.fits.pages)
  note_loaded (Intent p) may = record { order = a.order; each = a.each; pending = upload_by p.upload may.upload }
  note_loaded (Done id number) may = done_by number k.pending a.pending
  note_loaded (Void id) may = record { order = a.order; each = a.each; pending = tt }
  note_loaded (Revert db) may =
      subst (λ (p : Option PendingPub). AreLoaded (record { me = k.me; locals = without_keyed kept_name db k.locals; pending = p })) (sym may.free) (taken_loaded db)

all_loaded : (notes : List Note) (k end : Kept) → AreLoaded k → Folds k notes end → AreLoaded end
all_loaded [] k end a folds = subst AreLoaded (sym folds) a
all_loaded (x ∷ xs) k end a folds = all_loaded xs (after_note k x) end (note_loaded k a x folds.0) folds.1

pub folds_loaded : FoldsAreLoaded
folds_loaded notes k folds = all_loaded notes nothing_kept k (record { order = tt; each = tt; pending = tt }) folds
