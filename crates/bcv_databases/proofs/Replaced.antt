-- A database that is replaced in a list that ascends by name.
use Rattle.std.proofs.Common.{◌≡◌, ◌∙◌, ℕ, zero, suc, ◌<◌, Bool, true, false, cond, List, [], ◌∷◌, ◌++◌, length, get_or, set, refl, sym, ap, subst, arith, Some, None}
use Rattle.std.specs.Prelude.{slice_get}
use Rattle.std.specs.Str.{bytes_eq}
use Rattle.std.proofs.lemmas.Option.{same_Some}
use Rattle.bcv_base.specs.Keyed.{comes_before, keyed, with_keyed, without_keyed}
use Rattle.bcv_base.specs.ManifestRules.{Ascends, IsAbove}
use Rattle.bcv_dbmap.proofs.Keys.{above_found, above_none, before_back, by_test, keyed_here, keyed_key, keyed_there, same_key, with_later, with_over, without_here, without_there}
use Rattle.bcv_model.specs.declared.ask.Commit.{Commit}
use Rattle.bcv_model.specs.declared.kept.Local.{Local}
use Rattle.bcv_model.specs.Notes.{kept_name, replaced_local, with_local_commit}
use Rattle.bcv_databases.specs.NamedLists.{IsThere}
use Rattle.bcv_databases.proofs.Places.{without_none}

pub item_read : {A : Type 0} (xs : List A) (i : ℕ) (x : A) → i < length xs → x ≡ get_or xs i x → slice_get xs i ≡ Some x
item_read [] i x lt is = absurd (omega (arith, lt))
item_read (y ∷ ys) zero x lt is = ap Some (sym is)
item_read (y ∷ ys) (suc i) x lt is = item_read ys i x (omega (arith, lt)) is

module _ (change : Local → List Local) (db : List ℕ) where
  replaced_here : (x : Local) (xs : List Local) → bytes_eq (kept_name x) db ≡ true → replaced_local change db (x ∷ xs) ≡ change x ++ xs
  replaced_here x xs e = ap (λ (b : Bool). cond b (change x ++ xs) (x ∷ replaced_local change db xs)) e

  replaced_there : (x : Local) (xs : List Local) → bytes_eq (kept_name x) db ≡ false → replaced_local change db (x ∷ xs) ≡ x ∷ replaced_local change db xs
  replaced_there x xs e = ap (λ (b : Bool). cond b (change x ++ xs) (x ∷ replaced_local change db xs)) e

  -- where no database has the name
  pub replaced_none : (ls : List Local) → keyed kept_name db ls ≡ None → replaced_local change db ls ≡ ls
  replaced_none [] none = refl
  replaced_none (x ∷ xs) none =
      by_test (bytes_eq (kept_name x) db)
      (λ e. let found : Some x ≡ None = sym (keyed_here kept_name db x xs e) ∙ none in absurd cc)
      (λ e. replaced_there x xs e ∙ ap (λ (l : List Local). x ∷ l) (replaced_none xs (sym (keyed_there kept_name db x xs e) ∙ none)))

  -- where one of its name takes its place
  pub replaced_with : (ls : List Local) (l m : Local) → Ascends kept_name ls → keyed kept_name db ls ≡ Some l → change l ≡ m ∷ [] → kept_name m ≡ db
      → replaced_local change db ls ≡ with_keyed kept_name m ls
  replaced_with [] l m asc found is name = absurd cc
  replaced_with (x ∷ xs) l m asc found is name =
      by_test (bytes_eq (kept_name x) db)
      (λ e.
      let same : x ≡ l = same_Some x l (sym (keyed_here kept_name db x xs e) ∙ found) in
      replaced_here x xs e ∙ ap (λ (z : Local). change z ++ xs) same ∙ ap (λ (z : List Local). z ++ xs) is
      ∙ sym (with_over kept_name m x xs (ap (bytes_eq (kept_name x)) name ∙ e)))
      (λ e.
      let later : keyed kept_name db xs ≡ Some l = sym (keyed_there kept_name db x xs e) ∙ found in
      let before : comes_before (kept_name x) db ≡ true = above_found kept_name (kept_name x) db xs l asc.0 later in
      replaced_there x xs e ∙ ap (λ (z : List Local). x ∷ z) (replaced_with xs l m asc.1 later is name)
      ∙ sym (with_later kept_name m x xs (ap (bytes_eq (kept_name x)) name ∙ e) (ap (λ (k : List ℕ). comes_before k (kept_name x)) name ∙ before_back (kept_name x) db before)))

  -- where nothing takes its place
  pub replaced_gone : (ls : List Local) (l : Local) → Ascends kept_name ls → keyed kept_name db ls ≡ Some l → change l ≡ [] → replaced_local change db ls ≡ without_keyed kept_name db ls
  replaced_gone [] l asc found is = absurd cc
  replaced_gone (x ∷ xs) l asc found is =
      by_test (bytes_eq (kept_name x) db)
      (λ e.
      let same : x ≡ l = same_Some x l (sym (keyed_here kept_name db x xs e) ∙ found) in
      replaced_here x xs e ∙ ap (λ (z : Local). change z ++ xs) same ∙ ap (λ (z : List Local). z ++ xs) is
      ∙ sym (without_here kept_name db x xs e ∙ without_none kept_name db xs (above_none kept_name db xs (subst (λ (k : List ℕ). IsAbove kept_name k xs) (same_key (kept_name x) db e) asc.0))))
      (λ e. replaced_there x xs e ∙ ap (λ (z : List Local). x ∷ z) (replaced_gone xs l asc.1 (sym (keyed_there kept_name db x xs e) ∙ found) is) ∙ sym (without_there kept_name db x xs e))

-- the database at its place
pub found_there : (db : List ℕ) (ls : List Local) (i : ℕ) (l : Local) → IsThere kept_name db ls i → l ≡ get_or ls i l → keyed kept_name db ls ≡ Some l
found_there db ls i l there is = there.found ∙ item_read ls i l there.inside is

-- one more commit of it
abbrev pub with_more : Commit → Local → Local
with_more c l = record l { commits = l.commits ++ c ∷ [] }

pub more_there : (db : List ℕ) (c : Commit) (ls : List Local) (i : ℕ) (l m : Local) → Ascends kept_name ls → IsThere kept_name db ls i → l ≡ get_or ls i l → m ≡ with_more c l
    → set ls i m ≡ with_local_commit db c ls
more_there db c ls i l m asc there is made =
    let found : keyed kept_name db ls ≡ Some l = found_there db ls i l there is in
    let name : kept_name l ≡ db = keyed_key kept_name db ls l found in
    ap (set ls i) made ∙ sym (there.over (with_more c l) name) ∙ sym (replaced_with (λ (x : Local). with_more c x ∷ []) db ls l (with_more c l) asc found refl name)
