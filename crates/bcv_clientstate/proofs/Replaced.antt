-- In databases that ascend by name, a change of the first one of a name is a put or a removal.
use Rattle.std.proofs.Common.{◌≡◌, ◌∙◌, ℕ, Bool, true, false, cond, List, [], ◌∷◌, ◌++◌, Some, None, refl, sym, ap}
use Rattle.std.proofs.lemmas.Option.{same_Some}
use Rattle.std.specs.Str.{bytes_eq}
use Rattle.bcv_base.specs.Keyed.{comes_before, keyed, with_keyed, without_keyed}
use Rattle.bcv_base.specs.ManifestRules.{Ascends}
use Rattle.bcv_model.specs.declared.kept.Local.{Local}
use Rattle.bcv_model.specs.Notes.{kept_name, replaced_local}
use Rattle.bcv_dbmap.proofs.Keys.{by_test, same_key, keyed_here, keyed_there, with_over, with_later, without_here, without_there, above_none, above_found, before_back}

pub some_none : (x : Local) → Some x ≡ None → ⊥
some_none x e = cc

-- one step of a change
pub changed_here : (change : Local → List Local) (db : List ℕ) (x : Local) (xs : List Local) → bytes_eq (kept_name x) db ≡ true → replaced_local change db (x ∷ xs) ≡ change x ++ xs
changed_here change db x xs e = ap (λ (b : Bool). cond b (change x ++ xs) (x ∷ replaced_local change db xs)) e

pub changed_there : (change : Local → List Local) (db : List ℕ) (x : Local) (xs : List Local) → bytes_eq (kept_name x) db ≡ false → replaced_local change db (x ∷ xs) ≡ x ∷ replaced_local change db xs
changed_there change db x xs e = ap (λ (b : Bool). cond b (change x ++ xs) (x ∷ replaced_local change db xs)) e

-- nothing is taken out or changed where there is nothing
pub without_none : (db : List ℕ) (ls : List Local) → keyed kept_name db ls ≡ None → without_keyed kept_name db ls ≡ ls
without_none db [] e = refl
without_none db (x ∷ xs) e =
    by_test (bytes_eq (kept_name x) db)
    (λ t. absurd (some_none x (sym (keyed_here kept_name db x xs t) ∙ e)))
    (λ t. without_there kept_name db x xs t ∙ ap (λ (ys : List Local). x ∷ ys) (without_none db xs (sym (keyed_there kept_name db x xs t) ∙ e)))

pub replaced_none : (change : Local → List Local) (db : List ℕ) (ls : List Local) → keyed kept_name db ls ≡ None → replaced_local change db ls ≡ ls
replaced_none change db [] e = refl
replaced_none change db (x ∷ xs) e =
    by_test (bytes_eq (kept_name x) db)
    (λ t. absurd (some_none x (sym (keyed_here kept_name db x xs t) ∙ e)))
    (λ t. changed_there change db x xs t ∙ ap (λ (ys : List Local). x ∷ ys) (replaced_none change db xs (sym (keyed_there kept_name db x xs t) ∙ e)))

-- another one in its place
pub replaced_with : (change : Local → List Local) (db : List ℕ) (ls : List Local) (l next : Local)
    → Ascends kept_name ls → keyed kept_name db ls ≡ Some l → kept_name next ≡ db → change l ≡ next ∷ [] → replaced_local change db ls ≡ with_keyed kept_name next ls
replaced_with change db [] l next asc e named to = absurd cc
replaced_with change db (x ∷ xs) l next asc e named to =
    by_test (bytes_eq (kept_name x) db)
    (λ t. changed_here change db x xs t
    ∙ ap (λ (y : Local). change y ++ xs) (same_Some x l (sym (keyed_here kept_name db x xs t) ∙ e))
    ∙ ap (λ (ys : List Local). ys ++ xs) to
    ∙ sym (with_over kept_name next x xs (ap (λ (k : List ℕ). bytes_eq (kept_name x) k) named ∙ t)))
    (λ t. changed_there change db x xs t
    ∙ ap (λ (ys : List Local). x ∷ ys) (replaced_with change db xs l next asc.1 (sym (keyed_there kept_name db x xs t) ∙ e) named to)
    ∙ sym (with_later kept_name next x xs (ap (λ (k : List ℕ). bytes_eq (kept_name x) k) named ∙ t)
    (ap (λ (k : List ℕ). comes_before k (kept_name x)) named
    ∙ before_back (kept_name x) db (above_found kept_name (kept_name x) db xs l asc.0 (sym (keyed_there kept_name db x xs t) ∙ e)))))

-- none in its place
pub replaced_without : (change : Local → List Local) (db : List ℕ) (ls : List Local) (l : Local)
    → Ascends kept_name ls → keyed kept_name db ls ≡ Some l → change l ≡ [] → replaced_local change db ls ≡ without_keyed kept_name db ls
replaced_without change db [] l asc e to = absurd cc
replaced_without change db (x ∷ xs) l asc e to =
    by_test (bytes_eq (kept_name x) db)
    (λ t. changed_here change db x xs t
    ∙ ap (λ (y : Local). change y ++ xs) (same_Some x l (sym (keyed_here kept_name db x xs t) ∙ e))
    ∙ ap (λ (ys : List Local). ys ++ xs) to
    ∙ sym (without_here kept_name db x xs t
    ∙ without_none db xs (ap (λ (k : List ℕ). keyed kept_name k xs) (sym (same_key (kept_name x) db t)) ∙ above_none kept_name (kept_name x) xs asc.0)))
    (λ t. changed_there change db x xs t
    ∙ ap (λ (ys : List Local). x ∷ ys) (replaced_without change db xs l asc.1 (sym (keyed_there kept_name db x xs t) ∙ e) to)
    ∙ sym (without_there kept_name db x xs t))
