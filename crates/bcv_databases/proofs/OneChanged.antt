-- What holds of the databases, after one of them changed.
use Rattle.std.proofs.Common.{◌≡◌, ◌∙◌, ℕ, false, List, [], ◌∷◌, refl, sym, ap, subst, Option, Some, None}
use Rattle.std.specs.Prelude.{IfSome}
use Rattle.std.specs.List.{AllByRecursion}
use Rattle.std.specs.Str.{bytes_eq}
use Rattle.bcv_base.specs.Keyed.{keyed}
use Rattle.bcv_dbmap.proofs.Keys.{by_test, same_key}
use Rattle.bcv_model.specs.declared.kept.Local.{Local}
use Rattle.bcv_model.specs.declared.kept.PendingPub.{PendingPub}
use Rattle.bcv_model.specs.declared.kept.Uploading.{Uploading}
use Rattle.bcv_model.specs.Notes.{kept_name}
use Rattle.bcv_pages.specs.Held.{Held}
use Rattle.bcv_databases.specs.Catalog.{known_name, set_at, use_name}
use Rattle.bcv_databases.specs.Sound.{AreApart, CanEnd, CanUpload, HasSet}
use Rattle.bcv_databases.specs.declared.known.Known.{Known}
use Rattle.bcv_databases.specs.declared.set_use.SetUse.{SetUse}

pub if_found : {A : Type 0} (P : A → Type 0) (o : Option A) → ((x : A) → o ≡ Some x → P x) → IfSome o P
if_found P None f = tt
if_found P (Some x) f = f x refl

all_map : {A : Type 0} (P Q : A → Type 0) (xs : List A) → ((x : A) → P x → Q x) → AllByRecursion P xs → AllByRecursion Q xs
all_map P Q [] f all = tt
all_map P Q (x ∷ xs) f all = (f x all.0, all_map P Q xs f all.1)

-- a set that stays serves its database
pub has_moved : (old new : List (Option Held)) (o : Option Local) (u : Option SetUse) → IfSome u (λ v. set_at new v.set ≡ set_at old v.set) → HasSet old o u → HasSet new o u
has_moved old new None None same has = tt
has_moved old new None (Some v) same has = absurd has
has_moved old new (Some l) None same has = absurd has
has_moved old new (Some l) (Some v) same has = (has.0, same ∙ has.1, has.2)

-- one database of a name: before with these databases, uses and sets, and after
module _ (db : List ℕ) (ls ms : List Local) (us vs : List SetUse) (old new : List (Option Held)) where
  abbrev pub SameLocals : Type 0
  SameLocals = (a : List ℕ) → bytes_eq db a ≡ false → keyed kept_name a ms ≡ keyed kept_name a ls

  abbrev pub SameUses : Type 0
  SameUses = (a : List ℕ) → bytes_eq db a ≡ false → keyed use_name a vs ≡ keyed use_name a us

  abbrev pub SameSets : Type 0
  SameSets = (a : List ℕ) (u : SetUse) → bytes_eq db a ≡ false → keyed use_name a us ≡ Some u → set_at new u.set ≡ set_at old u.set

  -- each database has its set
  pub held_one : SameLocals → SameUses → SameSets → HasSet new (keyed kept_name db ms) (keyed use_name db vs)
      → ((a : List ℕ) → HasSet old (keyed kept_name a ls) (keyed use_name a us))
      → (a : List ℕ) → HasSet new (keyed kept_name a ms) (keyed use_name a vs)
  held_one locals uses sets here held a =
      by_test (bytes_eq db a)
      (λ e. subst (λ (k : List ℕ). HasSet new (keyed kept_name k ms) (keyed use_name k vs)) (same_key db a e) here)
      (λ e.
      let moved = if_found (λ (v : SetUse). set_at new v.set ≡ set_at old v.set) (keyed use_name a us) (λ v found. sets a v e found) in
      let base : HasSet new (keyed kept_name a ls) (keyed use_name a us) = has_moved old new (keyed kept_name a ls) (keyed use_name a us) moved (held a) in
      let one : HasSet new (keyed kept_name a ms) (keyed use_name a us) = subst (λ (o : Option Local). HasSet new o (keyed use_name a us)) (sym (locals a e)) base in
      subst (λ (o : Option SetUse). HasSet new (keyed kept_name a ms) o) (sym (uses a e)) one)

  -- no set serves two
  pub apart_one : SameUses → ((u v : SetUse) (a : List ℕ) → keyed use_name db vs ≡ Some u → bytes_eq db a ≡ false → keyed use_name a us ≡ Some v → u.set ≡ v.set → ⊥)
      → AreApart us → AreApart vs
  apart_one uses clash apart a b u v ua vb same =
      by_test (bytes_eq db a)
      (λ ea. by_test (bytes_eq db b)
      (λ eb. sym (same_key db a ea) ∙ same_key db b eb)
      (λ eb. absurd (clash u v b (ap (λ (k : List ℕ). keyed use_name k vs) (same_key db a ea) ∙ ua) eb (sym (uses b eb) ∙ vb) same)))
      (λ ea. by_test (bytes_eq db b)
      (λ eb. absurd (clash v u a (ap (λ (k : List ℕ). keyed use_name k vs) (same_key db b eb) ∙ vb) ea (sym (uses a ea) ∙ ua) (sym same)))
      (λ eb. apart a b u v (sym (uses a ea) ∙ ua) (sym (uses b eb) ∙ vb) same))

  -- a known database that is another one has no commits still
  pub without_one : SameLocals → (ks : List Known) → AllByRecursion (λ k. bytes_eq db (known_name k) ≡ false) ks
      → AllByRecursion (λ k. keyed kept_name (known_name k) ls ≡ None) ks → AllByRecursion (λ k. keyed kept_name (known_name k) ms ≡ None) ks
  without_one locals [] others none = tt
  without_one locals (k ∷ ks) others none = (locals (known_name k) others.0 ∙ none.0, without_one locals ks others.1 none.1)

  -- an upload is that of a database that stays, or of this one
  upload_one : SameLocals → ((l : Local) → keyed kept_name db ls ≡ Some l → (m : Local) × (keyed kept_name db ms ≡ Some m) × (l.entry.page_size ≡ m.entry.page_size))
      → (u : Uploading) → CanUpload ls u → CanUpload ms u
  upload_one locals here u can =
      let name = u.entry.name in
      by_test (bytes_eq db name)
      (λ e.
      let at : keyed kept_name db ls ≡ Some can.local = ap (λ (k : List ℕ). keyed kept_name k ls) (same_key db name e) ∙ can.is_local in
      let m = here can.local at in
      record { local = m.0; is_local = ap (λ (k : List ℕ). keyed kept_name k ms) (sym (same_key db name e)) ∙ m.1; size = can.size ∙ m.2 })
      (λ e. record { local = can.local; is_local = locals name e ∙ can.is_local; size = can.size })

  uploads_one : SameLocals → ((l : Local) → keyed kept_name db ls ≡ Some l → (m : Local) × (keyed kept_name db ms ≡ Some m) × (l.entry.page_size ≡ m.entry.page_size))
      → (o : Option Uploading) → IfSome o (CanUpload ls) → IfSome o (CanUpload ms)
  uploads_one locals here None can = tt
  uploads_one locals here (Some u) can = upload_one locals here u can

  pub ends_one : SameLocals → ((l : Local) → keyed kept_name db ls ≡ Some l → (m : Local) × (keyed kept_name db ms ≡ Some m) × (l.entry.page_size ≡ m.entry.page_size))
      → (p : Option PendingPub) → CanEnd ls p → CanEnd ms p
  ends_one locals here None can = tt
  ends_one locals here (Some p) can = uploads_one locals here p.upload can

-- known databases without commits are other ones than a database with commits
pub known_others : (db : List ℕ) (ls : List Local) (l : Local) (ks : List Known) → keyed kept_name db ls ≡ Some l → AllByRecursion (λ k. keyed kept_name (known_name k) ls ≡ None) ks
    → AllByRecursion (λ k. bytes_eq db (known_name k) ≡ false) ks
known_others db ls l ks found none =
    all_map (λ (k : Known). keyed kept_name (known_name k) ls ≡ None) (λ (k : Known). bytes_eq db (known_name k) ≡ false) ks
    (λ k none_k. by_test (bytes_eq db (known_name k))
    (λ e. let both : Some l ≡ None = sym found ∙ ap (λ (n : List ℕ). keyed kept_name n ls) (same_key db (known_name k) e) ∙ none_k in absurd cc)
    (λ e. e)) none
