-- Keyed lists: the order of keys, what a look-up finds behind a put and a removal, and what stays ascending.
use Rattle.std.proofs.Common.{◌≡◌, ◌∙◌, ℕ, ◌+◌, ◌≤◌, Bool, true, false, cond, List, [], ◌∷◌, length, Option, Some, None, refl, sym, ap, subst, true≢false, arith}
use Rattle.std.proofs.lemmas.Cmp.{tied_itself}
use Rattle.std.proofs.lemmas.Option.{same_Some}
use Rattle.std.proofs.lemmas.Slice.Eq.{bytes_eq-Decides}
use Rattle.std.specs.Cmp.Lexicographic.{slice_cmp, nat_list_cmp_total, nat_list_eq_equiv, texts_ties}
use Rattle.std.specs.List.{AllByRecursion}
use Rattle.std.specs.Ordering.{nat_cmp, is_lt, is_eq, ordering_reverse}
use Rattle.std.specs.Str.{bytes_eq}
use Rattle.std.specs.declared.cmp.Ordering.{Ordering}
use Rattle.std.specs.declared.cmp.Ordering.TheVariants.{Less, Equal, Greater}
use Rattle.bcv_base.specs.Keyed.{comes_before, keyed, with_keyed, without_keyed, with_made}
use Rattle.bcv_base.specs.ManifestRules.{IsAbove, Ascends}

-- ---- tests

-- a test is passed or not
pub by_test : {G : Type 0} (b : Bool) → (b ≡ true → G) → (b ≡ false → G) → G
by_test true passes fails = passes refl
by_test false passes fails = fails refl

-- ---- keys

pub same_key : (a b : List ℕ) → bytes_eq a b ≡ true → a ≡ b
same_key a b e = (bytes_eq-Decides a b).0 e

pub key_same : (a : List ℕ) → bytes_eq a a ≡ true
key_same a = (bytes_eq-Decides a a).1 refl

pub key_turned : (a b : List ℕ) → bytes_eq a b ≡ bytes_eq b a
key_turned a b = nat_list_eq_equiv.symm a b

-- ---- which key comes before

less : (o : Ordering) → is_lt o ≡ true → o ≡ Less
less Less e = refl
less Equal e = absurd cc
less Greater e = absurd cc

turned : (o : Ordering) → is_eq o ≡ false → is_lt o ≡ false → is_lt (ordering_reverse o) ≡ true
turned Less e f = absurd cc
turned Equal e f = absurd cc
turned Greater e f = refl

pub before_trans : (a b c : List ℕ) → comes_before a b ≡ true → comes_before b c ≡ true → comes_before a c ≡ true
before_trans a b c h g = ap is_lt (nat_list_cmp_total.trans a b c (less (slice_cmp nat_cmp a b) h) (less (slice_cmp nat_cmp b c) g))

pub before_itself : (a : List ℕ) → comes_before a a ≡ false
before_itself a = ap is_lt (tied_itself nat_list_cmp_total a)

pub before_back : (a b : List ℕ) → comes_before a b ≡ true → comes_before b a ≡ false
before_back a b h = ap is_lt (nat_list_cmp_total.antisymm b a ∙ ap ordering_reverse (less (slice_cmp nat_cmp a b) h))

pub before_other : (a b : List ℕ) → comes_before a b ≡ true → bytes_eq a b ≡ false
before_other a b h = texts_ties a b ∙ ap is_eq (less (slice_cmp nat_cmp a b) h)

pub behind_other : (a b : List ℕ) → comes_before a b ≡ true → bytes_eq b a ≡ false
behind_other a b h = key_turned b a ∙ before_other a b h

-- of two other keys, the one that doesn't come before comes behind
pub before_total : (a b : List ℕ) → bytes_eq a b ≡ false → comes_before a b ≡ false → comes_before b a ≡ true
before_total a b other behind =
    ap is_lt (nat_list_cmp_total.antisymm b a) ∙ turned (slice_cmp nat_cmp a b) (sym (texts_ties a b) ∙ other) behind

-- ---- one step of a look-up, of a put and of a removal

module _ {A : Type 0} (key : A → List ℕ) where
  pub keyed_here : (k : List ℕ) (x : A) (xs : List A) → bytes_eq (key x) k ≡ true → keyed key k (x ∷ xs) ≡ Some x
  keyed_here k x xs e = ap (λ (b : Bool). cond b (Some x) (keyed key k xs)) e

  pub keyed_there : (k : List ℕ) (x : A) (xs : List A) → bytes_eq (key x) k ≡ false → keyed key k (x ∷ xs) ≡ keyed key k xs
  keyed_there k x xs e = ap (λ (b : Bool). cond b (Some x) (keyed key k xs)) e

  pub with_over : (a x : A) (xs : List A) → bytes_eq (key x) (key a) ≡ true → with_keyed key a (x ∷ xs) ≡ a ∷ xs
  with_over a x xs e = ap (λ (b : Bool). cond b (a ∷ xs) (cond (comes_before (key a) (key x)) (a ∷ x ∷ xs) (x ∷ with_keyed key a xs))) e

  pub with_front : (a x : A) (xs : List A) → bytes_eq (key x) (key a) ≡ false → comes_before (key a) (key x) ≡ true → with_keyed key a (x ∷ xs) ≡ a ∷ x ∷ xs
  with_front a x xs other before =
      ap (λ (b : Bool). cond b (a ∷ xs) (cond (comes_before (key a) (key x)) (a ∷ x ∷ xs) (x ∷ with_keyed key a xs))) other
      ∙ ap (λ (b : Bool). cond b (a ∷ x ∷ xs) (x ∷ with_keyed key a xs)) before

  pub with_later : (a x : A) (xs : List A) → bytes_eq (key x) (key a) ≡ false → comes_before (key a) (key x) ≡ false → with_keyed key a (x ∷ xs) ≡ x ∷ with_keyed key a xs
  with_later a x xs other behind =
      ap (λ (b : Bool). cond b (a ∷ xs) (cond (comes_before (key a) (key x)) (a ∷ x ∷ xs) (x ∷ with_keyed key a xs))) other
      ∙ ap (λ (b : Bool). cond b (a ∷ x ∷ xs) (x ∷ with_keyed key a xs)) behind

  pub without_here : (k : List ℕ) (x : A) (xs : List A) → bytes_eq (key x) k ≡ true → without_keyed key k (x ∷ xs) ≡ without_keyed key k xs
  without_here k x xs e = ap (λ (b : Bool). cond b (without_keyed key k xs) (x ∷ without_keyed key k xs)) e

  pub without_there : (k : List ℕ) (x : A) (xs : List A) → bytes_eq (key x) k ≡ false → without_keyed key k (x ∷ xs) ≡ x ∷ without_keyed key k xs
  without_there k x xs e = ap (λ (b : Bool). cond b (without_keyed key k xs) (x ∷ without_keyed key k xs)) e

  -- a fact of each of the three places of a put, and of both cases of a removal
  pub by_place : (P : List A → Type 0) (a x : A) (xs : List A)
      → (bytes_eq (key x) (key a) ≡ true → P (a ∷ xs))
      → (bytes_eq (key x) (key a) ≡ false → comes_before (key a) (key x) ≡ true → P (a ∷ x ∷ xs))
      → (bytes_eq (key x) (key a) ≡ false → comes_before (key a) (key x) ≡ false → P (x ∷ with_keyed key a xs))
      → P (with_keyed key a (x ∷ xs))
  by_place P a x xs over front later =
      by_test (bytes_eq (key x) (key a)) (λ e. subst P (sym (with_over a x xs e)) (over e))
      (λ e. by_test (comes_before (key a) (key x)) (λ f. subst P (sym (with_front a x xs e f)) (front e f)) (λ f. subst P (sym (with_later a x xs e f)) (later e f)))

  pub by_removal : (P : List A → Type 0) (k : List ℕ) (x : A) (xs : List A)
      → (bytes_eq (key x) k ≡ true → P (without_keyed key k xs))
      → (bytes_eq (key x) k ≡ false → P (x ∷ without_keyed key k xs))
      → P (without_keyed key k (x ∷ xs))
  by_removal P k x xs here there =
      by_test (bytes_eq (key x) k) (λ e. subst P (sym (without_here k x xs e)) (here e)) (λ e. subst P (sym (without_there k x xs e)) (there e))

  -- ---- what a look-up finds

  -- what is found has the key
  pub keyed_key : (k : List ℕ) (xs : List A) (x : A) → keyed key k xs ≡ Some x → key x ≡ k
  keyed_key k [] x e = absurd cc
  keyed_key k (y ∷ ys) x e =
      by_test (bytes_eq (key y) k)
      (λ t. ap key (sym (same_Some y x (sym (keyed_here k y ys t) ∙ e))) ∙ same_key (key y) k t)
      (λ t. keyed_key k ys x (sym (keyed_there k y ys t) ∙ e))

  -- a look-up behind a put, at its key and at another one
  pub keyed_at : (a : A) (xs : List A) → keyed key (key a) (with_keyed key a xs) ≡ Some a
  keyed_at a [] = keyed_here (key a) a [] (key_same (key a))
  keyed_at a (x ∷ xs) =
      by_place (λ (l : List A). keyed key (key a) l ≡ Some a) a x xs
      (λ e. keyed_here (key a) a xs (key_same (key a)))
      (λ e f. keyed_here (key a) a (x ∷ xs) (key_same (key a)))
      (λ e f. keyed_there (key a) x (with_keyed key a xs) e ∙ keyed_at a xs)

  pub keyed_other : (a : A) (k : List ℕ) (xs : List A) → bytes_eq (key a) k ≡ false → keyed key k (with_keyed key a xs) ≡ keyed key k xs
  keyed_other a k [] other = keyed_there k a [] other
  keyed_other a k (x ∷ xs) other =
      by_place (λ (l : List A). keyed key k l ≡ keyed key k (x ∷ xs)) a x xs
      (λ e. keyed_there k a xs other ∙ sym (keyed_there k x xs (ap (λ (l : List ℕ). bytes_eq l k) (same_key (key x) (key a) e) ∙ other)))
      (λ e f. keyed_there k a (x ∷ xs) other)
      (λ e f. ap (λ (o : Option A). cond (bytes_eq (key x) k) (Some x) o) (keyed_other a k xs other))

  -- both in one
  pub keyed_with : (a : A) (k : List ℕ) (xs : List A) → keyed key k (with_keyed key a xs) ≡ cond (bytes_eq (key a) k) (Some a) (keyed key k xs)
  keyed_with a k xs =
      by_test (bytes_eq (key a) k)
      (λ e. ap (λ (l : List ℕ). keyed key l (with_keyed key a xs)) (sym (same_key (key a) k e)) ∙ keyed_at a xs ∙ sym (ap (λ (b : Bool). cond b (Some a) (keyed key k xs)) e))
      (λ e. keyed_other a k xs e ∙ sym (ap (λ (b : Bool). cond b (Some a) (keyed key k xs)) e))

  -- a look-up behind a removal, of its key and of another one
  pub keyed_removed : (k : List ℕ) (xs : List A) → keyed key k (without_keyed key k xs) ≡ None
  keyed_removed k [] = refl
  keyed_removed k (x ∷ xs) =
      by_removal (λ (l : List A). keyed key k l ≡ None) k x xs
      (λ e. keyed_removed k xs)
      (λ e. keyed_there k x (without_keyed key k xs) e ∙ keyed_removed k xs)

  pub keyed_left : (k j : List ℕ) (xs : List A) → bytes_eq k j ≡ false → keyed key j (without_keyed key k xs) ≡ keyed key j xs
  keyed_left k j [] other = refl
  keyed_left k j (x ∷ xs) other =
      by_removal (λ (l : List A). keyed key j l ≡ keyed key j (x ∷ xs)) k x xs
      (λ e. keyed_left k j xs other ∙ sym (keyed_there j x xs (ap (λ (l : List ℕ). bytes_eq l j) (same_key (key x) k e) ∙ other)))
      (λ e. ap (λ (o : Option A). cond (bytes_eq (key x) j) (Some x) o) (keyed_left k j xs other))

  -- ---- ascending lists

  -- a key below the first one is below all
  pub above_all : (k : List ℕ) (x : A) (xs : List A) → comes_before k (key x) ≡ true → IsAbove key (key x) xs → IsAbove key k xs
  above_all k x [] h above = tt
  above_all k x (y ∷ ys) h above = (before_trans k (key x) (key y) h above.0, above_all k x ys h above.1)

  -- a key that stands before all is none of them
  pub above_none : (k : List ℕ) (xs : List A) → IsAbove key k xs → keyed key k xs ≡ None
  above_none k [] above = refl
  above_none k (x ∷ xs) above = keyed_there k x xs (behind_other k (key x) above.0) ∙ above_none k xs above.1

  -- it stands before each key that is found
  pub above_found : (k j : List ℕ) (xs : List A) (x : A) → IsAbove key k xs → keyed key j xs ≡ Some x → comes_before k j ≡ true
  above_found k j [] x above e = absurd cc
  above_found k j (y ∷ ys) x above e =
      by_test (bytes_eq (key y) j)
      (λ t. ap (λ (l : List ℕ). comes_before k l) (sym (same_key (key y) j t)) ∙ above.0)
      (λ t. above_found k j ys x above.1 (sym (keyed_there j y ys t) ∙ e))

  pub above_with : (k : List ℕ) (a : A) (xs : List A) → comes_before k (key a) ≡ true → IsAbove key k xs → IsAbove key k (with_keyed key a xs)
  above_with k a [] h above = (h, tt)
  above_with k a (x ∷ xs) h above =
      by_place (IsAbove key k) a x xs (λ e. (h, above.1)) (λ e f. (h, (above.0, above.1))) (λ e f. (above.0, above_with k a xs h above.1))

  -- a put keeps a list ascending
  pub ascends_with : (a : A) (xs : List A) → Ascends key xs → Ascends key (with_keyed key a xs)
  ascends_with a [] asc = (tt, tt)
  ascends_with a (x ∷ xs) asc =
      by_place (Ascends key) a x xs
      (λ e. (subst (λ (k : List ℕ). IsAbove key k xs) (same_key (key x) (key a) e) asc.0, asc.1))
      (λ e f. ((f, above_all (key a) x xs f asc.0), (asc.0, asc.1)))
      (λ e f. (above_with (key x) a xs (before_total (key a) (key x) (key_turned (key a) (key x) ∙ e) f) asc.0, ascends_with a xs asc.1))

  pub above_without : (k j : List ℕ) (xs : List A) → IsAbove key k xs → IsAbove key k (without_keyed key j xs)
  above_without k j [] above = tt
  above_without k j (x ∷ xs) above =
      by_removal (IsAbove key k) j x xs (λ e. above_without k j xs above.1) (λ e. (above.0, above_without k j xs above.1))

  -- and so does a removal
  pub ascends_without : (k : List ℕ) (xs : List A) → Ascends key xs → Ascends key (without_keyed key k xs)
  ascends_without k [] asc = tt
  ascends_without k (x ∷ xs) asc =
      by_removal (Ascends key) k x xs (λ e. ascends_without k xs asc.1) (λ e. (above_without (key x) k xs asc.0, ascends_without k xs asc.1))

  pub ascends_made : (made : Option A) (xs : List A) → Ascends key xs → Ascends key (with_made key made xs)
  ascends_made None xs asc = asc
  ascends_made (Some a) xs asc = ascends_with a xs asc

  -- ---- lengths

  pub length_with : (a : A) (xs : List A) → length (with_keyed key a xs) ≤ length xs + 1
  length_with a [] = omega arith
  length_with a (x ∷ xs) =
      let more : length (with_keyed key a xs) ≤ length xs + 1 = length_with a xs in
      by_place (λ (l : List A). length l ≤ length (x ∷ xs) + 1) a x xs (λ e. omega arith) (λ e f. omega arith) (λ e f. omega arith)

  pub length_new : (a : A) (xs : List A) → keyed key (key a) xs ≡ None → length (with_keyed key a xs) ≡ length xs + 1
  length_new a [] none = refl
  length_new a (x ∷ xs) none =
      by_place (λ (l : List A). length l ≡ length (x ∷ xs) + 1) a x xs
      (λ e. let found : Some x ≡ None = sym (keyed_here (key a) x xs e) ∙ none in absurd cc)
      (λ e f. omega arith)
      (λ e f. let more : length (with_keyed key a xs) ≡ length xs + 1 = length_new a xs (sym (keyed_there (key a) x xs e) ∙ none) in omega arith)

  pub length_over : (a b : A) (xs : List A) → Ascends key xs → keyed key (key a) xs ≡ Some b → length (with_keyed key a xs) ≡ length xs
  length_over a b [] asc found = absurd cc
  length_over a b (x ∷ xs) asc found =
      by_place (λ (l : List A). length l ≡ length (x ∷ xs)) a x xs
      (λ e. refl)
      (λ e f.
      let none : keyed key (key a) xs ≡ None = above_none (key a) xs (above_all (key a) x xs f asc.0) in
      let both : None ≡ Some b = sym none ∙ sym (keyed_there (key a) x xs e) ∙ found in absurd cc)
      (λ e f. let same : length (with_keyed key a xs) ≡ length xs = length_over a b xs asc.1 (sym (keyed_there (key a) x xs e) ∙ found) in omega arith)

  -- ---- two lists

  -- two ascending lists with the same look-ups are the same
  pub same_lookups : (xs ys : List A) → Ascends key xs → Ascends key ys → ((k : List ℕ) → keyed key k xs ≡ keyed key k ys) → xs ≡ ys
  same_lookups [] [] ax ay same = refl
  same_lookups [] (y ∷ ys) ax ay same = let none : None ≡ Some y = same (key y) ∙ keyed_here (key y) y ys (key_same (key y)) in absurd cc
  same_lookups (x ∷ xs) [] ax ay same = let none : Some x ≡ None = sym (keyed_here (key x) x xs (key_same (key x))) ∙ same (key x) in absurd cc
  same_lookups (x ∷ xs) (y ∷ ys) ax ay same =
      by_test (bytes_eq (key x) (key y))
      (λ e.
      let heads : x ≡ y = same_Some x y (sym (keyed_here (key y) x xs e) ∙ same (key y) ∙ keyed_here (key y) y ys (key_same (key y))) in
      let tails : xs ≡ ys = same_lookups xs ys ax.1 ay.1 (λ k. by_test (bytes_eq (key x) k)
      (λ t.
      let at : key x ≡ k = same_key (key x) k t in
      above_none k xs (subst (λ (l : List ℕ). IsAbove key l xs) at ax.0) ∙ sym (above_none k ys (subst (λ (l : List ℕ). IsAbove key l ys) (sym (ap key heads) ∙ at) ay.0)))
      (λ t. sym (keyed_there k x xs t) ∙ same k ∙ keyed_there k y ys (ap (λ (z : A). bytes_eq (key z) k) (sym heads) ∙ t))) in
      ap (λ (z : A). z ∷ xs) heads ∙ ap (λ (l : List A). y ∷ l) tails)
      (λ e.
      let x_later : comes_before (key y) (key x) ≡ true = above_found (key y) (key x) ys x ay.0 (sym (keyed_there (key x) y ys (key_turned (key y) (key x) ∙ e)) ∙ sym (same (key x)) ∙ keyed_here (key x) x xs (key_same (key x))) in
      let y_later : comes_before (key x) (key y) ≡ true = above_found (key x) (key y) xs y ax.0 (sym (keyed_there (key y) x xs e) ∙ same (key y) ∙ keyed_here (key y) y ys (key_same (key y))) in
      absurd (true≢false (sym y_later ∙ before_back (key y) (key x) x_later)))

  -- ---- each value

  pub all_with : (P : A → Type 0) (a : A) (xs : List A) → P a → AllByRecursion P xs → AllByRecursion P (with_keyed key a xs)
  all_with P a [] pa all = (pa, tt)
  all_with P a (x ∷ xs) pa all =
      by_place (AllByRecursion P) a x xs (λ e. (pa, all.1)) (λ e f. (pa, (all.0, all.1))) (λ e f. (all.0, all_with P a xs pa all.1))

  pub all_without : (P : A → Type 0) (k : List ℕ) (xs : List A) → AllByRecursion P xs → AllByRecursion P (without_keyed key k xs)
  all_without P k [] all = tt
  all_without P k (x ∷ xs) all = by_removal (AllByRecursion P) k x xs (λ e. all_without P k xs all.1) (λ e. (all.0, all_without P k xs all.1))

  -- what holds of each holds of what is found
  pub all_found : (P : A → Type 0) (k : List ℕ) (xs : List A) (x : A) → AllByRecursion P xs → keyed key k xs ≡ Some x → P x
  all_found P k [] x all e = absurd cc
  all_found P k (y ∷ ys) x all e =
      by_test (bytes_eq (key y) k)
      (λ t. subst P (same_Some y x (sym (keyed_here k y ys t) ∙ e)) all.0)
      (λ t. all_found P k ys x all.1 (sym (keyed_there k y ys t) ∙ e))
