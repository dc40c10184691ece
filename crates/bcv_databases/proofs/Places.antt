-- Where a search by name stops, and what stands there after a change.
use Rattle.std.proofs.Common.{◌≡◌, ◌∙◌, ℕ, zero, suc, ◌+◌, ◌<◌, true, false, List, [], ◌∷◌, length, get_or, take, refl, sym, ap, subst, arith, Some, None}
use Rattle.std.specs.Cmp.Lexicographic.{slice_cmp, nat_list_cmp_total, texts_ties}
use Rattle.std.specs.List.{AllByRecursion}
use Rattle.std.specs.Ordering.{nat_cmp, is_lt, is_gt, is_eq, ordering_reverse}
use Rattle.std.specs.Str.{bytes_eq}
use Rattle.std.specs.declared.cmp.Ordering.{Ordering}
use Rattle.std.specs.declared.cmp.Ordering.TheVariants.{Less, Equal, Greater}
use Rattle.bcv_base.specs.Keyed.{comes_before, keyed, with_keyed, without_keyed}
use Rattle.bcv_base.specs.ManifestRules.{IsAbove}
use Rattle.bcv_dbmap.proofs.Keys.{above_all, above_none, before_back, before_other, behind_other, by_test, keyed_here, keyed_there, same_key, with_front, with_later, with_over, without_here, without_there}
use Rattle.bcv_databases.specs.NamedLists.{IsThere, IsFree}

-- ---- what a comparison says

less : (o : Ordering) → is_eq o ≡ false → is_gt o ≡ false → is_lt o ≡ true
less Less e g = refl
less Equal e g = absurd cc
less Greater e g = absurd cc

greater : (o : Ordering) → is_gt o ≡ true → is_lt (ordering_reverse o) ≡ true
greater Less g = absurd cc
greater Equal g = absurd cc
greater Greater g = refl

module _ (a b : List ℕ) (o : Ordering) where
  pub is_same : o ≡ slice_cmp nat_cmp a b → is_eq o ≡ true → bytes_eq a b ≡ true
  is_same cmp e = texts_ties a b ∙ ap is_eq (sym cmp) ∙ e

  pub is_before : o ≡ slice_cmp nat_cmp a b → is_eq o ≡ false → is_gt o ≡ false → comes_before a b ≡ true
  is_before cmp e g = ap is_lt (sym cmp) ∙ less o e g

  pub is_behind : o ≡ slice_cmp nat_cmp a b → is_gt o ≡ true → comes_before b a ≡ true
  is_behind cmp g = ap is_lt (nat_list_cmp_total.antisymm b a) ∙ ap (λ (z : Ordering). is_lt (ordering_reverse z)) (sym cmp) ∙ greater o g

-- ---- the walk

module _ {A : Type 0} (key : A → List ℕ) (name : List ℕ) where
  -- the first so many stand before the name
  abbrev pub IsPast : List A → ℕ → Type 0
  IsPast xs i = AllByRecursion (λ (x : A). comes_before (key x) name ≡ true) (take i xs)

  past_suc : (xs : List A) (i : ℕ) (x : A) → i < length xs → IsPast xs i → x ≡ get_or xs i x → comes_before (key x) name ≡ true → IsPast xs (suc i)
  past_suc [] i x lt past is before = absurd (omega (arith, lt))
  past_suc (y ∷ ys) zero x lt past is before = (subst (λ (z : A). comes_before (key z) name ≡ true) is before, tt)
  past_suc (y ∷ ys) (suc i) x lt past is before = (past.0, past_suc ys i x (omega (arith, lt)) past.1 is before)

  pub past_more : (xs : List A) (i : ℕ) (x : A) → i < length xs → IsPast xs i → x ≡ get_or xs i x → comes_before (key x) name ≡ true → IsPast xs (i + 1)
  past_more xs i x lt past is before = let e : suc i ≡ i + 1 = omega arith in subst (IsPast xs) e (past_suc xs i x lt past is before)

  -- what a removal of no item leaves
  pub without_none : (xs : List A) → keyed key name xs ≡ None → without_keyed key name xs ≡ xs
  without_none [] none = refl
  without_none (x ∷ xs) none =
      by_test (bytes_eq (key x) name)
      (λ e. let found : Some x ≡ None = sym (keyed_here key name x xs e) ∙ none in absurd cc)
      (λ e. without_there key name x xs e ∙ ap (λ (l : List A). x ∷ l) (without_none xs (sym (keyed_there key name x xs e) ∙ none)))

  -- an item that stands before the name, in front of a list
  module _ (y : A) (ys : List A) (before : comes_before (key y) name ≡ true) where
    keyed_past : keyed key name (y ∷ ys) ≡ keyed key name ys
    keyed_past = keyed_there key name y ys (before_other (key y) name before)

    with_past : (a : A) → key a ≡ name → with_keyed key a (y ∷ ys) ≡ y ∷ with_keyed key a ys
    with_past a at =
        with_later key a y ys (ap (bytes_eq (key y)) at ∙ before_other (key y) name before) (ap (λ (k : List ℕ). comes_before k (key y)) at ∙ before_back (key y) name before)

    without_past : without_keyed key name (y ∷ ys) ≡ y ∷ without_keyed key name ys
    without_past = without_there key name y ys (before_other (key y) name before)

  pub there : (xs : List A) (i : ℕ) (x : A) → i < length xs → IsPast xs i → x ≡ get_or xs i x → bytes_eq (key x) name ≡ true → IsThere key name xs i
  there [] i x lt past is same = absurd (omega (arith, lt))
  there (y ∷ ys) zero x lt past is same =
      let e : bytes_eq (key y) name ≡ true = ap (λ (z : A). bytes_eq (key z) name) (sym is) ∙ same in
      let at : key y ≡ name = same_key (key y) name e in
      record {
        inside = lt;
        found = keyed_here key name y ys e;
        over = λ a is_a. with_over key a y ys (ap (bytes_eq (key y)) is_a ∙ e);
        left = λ asc. without_here key name y ys e ∙ without_none ys (above_none key name ys (subst (λ (k : List ℕ). IsAbove key k ys) at asc.0));
      }
  there (y ∷ ys) (suc i) x lt past is same =
      let r : IsThere key name ys i = there ys i x (omega (arith, lt)) past.1 is same in
      record {
        inside = lt;
        found = keyed_past y ys past.0 ∙ r.found;
        over = λ a is_a. with_past y ys past.0 a is_a ∙ ap (λ (l : List A). y ∷ l) (r.over a is_a);
        left = λ asc. without_past y ys past.0 ∙ ap (λ (l : List A). y ∷ l) (r.left asc.1);
      }

  -- an item that stands before the name, in front of a list where the name is free
  free_past : (y : A) (ys : List A) (i : ℕ) → comes_before (key y) name ≡ true → IsFree key name ys i → IsFree key name (y ∷ ys) (suc i)
  free_past y ys i before r = record {
    inside = omega (arith, r.inside);
    none = λ asc. keyed_past y ys before ∙ r.none asc.1;
    between = λ a is_a. with_past y ys before a is_a ∙ ap (λ (l : List A). y ∷ l) (r.between a is_a);
  }

  pub free_before : (xs : List A) (i : ℕ) (x : A) → i < length xs → IsPast xs i → x ≡ get_or xs i x → comes_before name (key x) ≡ true → IsFree key name xs i
  free_before [] i x lt past is behind = absurd (omega (arith, lt))
  free_before (y ∷ ys) zero x lt past is behind =
      let e : comes_before name (key y) ≡ true = ap (λ (z : A). comes_before name (key z)) (sym is) ∙ behind in
      let other : bytes_eq (key y) name ≡ false = behind_other name (key y) e in
      record {
        inside = omega arith;
        none = λ asc. keyed_there key name y ys other ∙ above_none key name ys (above_all key name y ys e asc.0);
        between = λ a is_a. with_front key a y ys (ap (bytes_eq (key y)) is_a ∙ other) (ap (λ (k : List ℕ). comes_before k (key y)) is_a ∙ e);
      }
  free_before (y ∷ ys) (suc i) x lt past is behind = free_past y ys i past.0 (free_before ys i x (omega (arith, lt)) past.1 is behind)

  pub free_end : (xs : List A) (i : ℕ) → i ≡ length xs → IsPast xs i → IsFree key name xs i
  free_end [] i end past = subst (IsFree key name []) (sym end) (record { inside = omega arith; none = λ asc. refl; between = λ a is_a. refl })
  free_end (y ∷ ys) zero end past = absurd (omega (arith, end))
  free_end (y ∷ ys) (suc i) end past = free_past y ys i past.0 (free_end ys i (omega (arith, end)) past.1)
