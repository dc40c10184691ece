-- The databases after a poll.
use Rattle.std.proofs.Common.{◌≡◌, ℕ, Bool, true, false, not, cond, List, [], ◌∷◌, refl, sym, ap, subst, Option, Some, None, is_some}
use Rattle.std.specs.List.{AllByRecursion, filter}
use Rattle.bcv_base.specs.Keyed.{keyed}
use Rattle.bcv_base.specs.ManifestRules.{Ascends, IsAbove}
use Rattle.bcv_dbmap.proofs.Keys.{by_test}
use Rattle.bcv_model.specs.declared.kept.Local.{Local}
use Rattle.bcv_model.specs.Notes.{kept_name}
use Rattle.bcv_databases.specs.Catalog.{Catalog, Rooms, known_name}
use Rattle.bcv_databases.specs.Changes.{Polls, known_at}
use Rattle.bcv_databases.specs.Sound.{AreDatabases}
use Rattle.bcv_databases.specs.declared.known.Known.{Known}
use Rattle.bcv_databases.proofs.Parts.{with_parts}

-- ---- some of a list

module _ {A : Type 0} (test : A → Bool) where
  kept_here : (x : A) (xs : List A) → test x ≡ true → filter test (x ∷ xs) ≡ x ∷ filter test xs
  kept_here x xs e = ap (λ (b : Bool). cond b (x ∷ filter test xs) (filter test xs)) e

  left_here : (x : A) (xs : List A) → test x ≡ false → filter test (x ∷ xs) ≡ filter test xs
  left_here x xs e = ap (λ (b : Bool). cond b (x ∷ filter test xs) (filter test xs)) e

  module _ (key : A → List ℕ) where
    above_some : (k : List ℕ) (xs : List A) → IsAbove key k xs → IsAbove key k (filter test xs)
    above_some k [] above = tt
    above_some k (x ∷ xs) above =
        by_test (test x)
        (λ e. subst (IsAbove key k) (sym (kept_here x xs e)) (above.0, above_some k xs above.1))
        (λ e. subst (IsAbove key k) (sym (left_here x xs e)) (above_some k xs above.1))

    ascends_some : (xs : List A) → Ascends key xs → Ascends key (filter test xs)
    ascends_some [] asc = tt
    ascends_some (x ∷ xs) asc =
        by_test (test x)
        (λ e. subst (Ascends key) (sym (kept_here x xs e)) (above_some (key x) xs asc.0, ascends_some xs asc.1))
        (λ e. subst (Ascends key) (sym (left_here x xs e)) (ascends_some xs asc.1))

  pass_all : (P : A → Type 0) → ((x : A) → test x ≡ true → P x) → (xs : List A) → AllByRecursion P (filter test xs)
  pass_all P f [] = tt
  pass_all P f (x ∷ xs) =
      by_test (test x)
      (λ e. subst (AllByRecursion P) (sym (kept_here x xs e)) (f x e, pass_all P f xs))
      (λ e. subst (AllByRecursion P) (sym (left_here x xs e)) (pass_all P f xs))

-- ---- the poll

none_there : (o : Option Local) → not (is_some o) ≡ true → o ≡ None
none_there None e = refl
none_there (Some l) e = absurd cc

module _ (c : Catalog) (s : AreDatabases c) (found ks : List Known) (rooms : Rooms) (order : Ascends known_name found) (known_are : ks ≡ known_at c.kept found) where
  pub polled_are : AreDatabases (with_parts c c.kept.locals ks c.uses c.sets rooms)
  polled_are =
      let test : Known → Bool = λ (x : Known). not (is_some (keyed kept_name (known_name x) c.kept.locals)) in
      subst (λ (z : List Known). AreDatabases (with_parts c c.kept.locals z c.uses c.sets rooms)) (sym known_are)
      (record {
        order = s.order;
        known_order = ascends_some test known_name found order;
        without = pass_all test (λ (k : Known). keyed kept_name (known_name k) c.kept.locals ≡ None) (λ k e. none_there (keyed kept_name (known_name k) c.kept.locals) e) found;
        held = s.held;
        uses_order = s.uses_order;
        apart = s.apart;
        pending = s.pending;
      })

  pub polls : Polls c (with_parts c c.kept.locals ks c.uses c.sets rooms) found
  polls = record { kept = refl; known = known_are; sets = refl; uses = refl }
