-- Where a value with a key is put: a walk that stops at the first key that doesn't come before.
use Rattle.std.proofs.Common.{◌≡◌, ◌∙◌, ℕ, ◌+◌, ◌<◌, ◌≤◌, Bool, true, false, List, [], ◌∷◌, ◌++◌, length, get_or, take, drop, refl, sym, ap, append_assoc}
use Rattle.std.specs.Cmp.Lexicographic.{slice_cmp, nat_list_cmp_total, texts_ties}
use Rattle.std.specs.Ordering.{nat_cmp, is_lt, is_gt, is_eq, ordering_reverse}
use Rattle.std.specs.declared.cmp.Ordering.{Ordering}
use Rattle.std.specs.declared.cmp.Ordering.TheVariants.{Less, Equal, Greater}
use Rattle.std.proofs.lemmas.List.{drop_more, drop_all, take_more}
use Rattle.bcv_base.specs.Keyed.{with_keyed}
use Rattle.bcv_dbmap.proofs.Keys.{with_over, with_front, with_later}

before_greater : (o : Ordering) → is_gt o ≡ true → is_lt (ordering_reverse o) ≡ true
before_greater Less e = absurd cc
before_greater Equal e = absurd cc
before_greater Greater e = refl

other_greater : (o : Ordering) → is_gt o ≡ true → is_eq o ≡ false
other_greater Less e = refl
other_greater Equal e = absurd cc
other_greater Greater e = refl

behind_less : (o : Ordering) → is_gt o ≡ false → is_lt (ordering_reverse o) ≡ false
behind_less Less e = refl
behind_less Equal e = refl
behind_less Greater e = absurd cc

module _ {A : Type 0} (key : A → List ℕ) (a : A) (xs : List A) where
  -- what a test says of the key that was read
  pub ordered : (test : Ordering → Bool) (i : ℕ) (x : A) (k : List ℕ) (o : Ordering) (t b : Bool)
      → key a ≡ k → o ≡ slice_cmp nat_cmp (key (get_or xs i x)) k → t ≡ test o → t ≡ b
      → test (slice_cmp nat_cmp (key (get_or xs i x)) (key a)) ≡ b
  ordered test i x k o t b at cmp answer value =
      ap (λ (z : List ℕ). test (slice_cmp nat_cmp (key (get_or xs i x)) z)) at ∙ ap test (sym cmp) ∙ sym answer ∙ value

  -- the first so many keys come before
  abbrev pub IsPast : ℕ → Type 0
  IsPast i = take i xs ++ with_keyed key a (drop i xs) ≡ with_keyed key a xs

  step : (i : ℕ) (x : A) (l : List A) → i < length xs → IsPast i → with_keyed key a (get_or xs i x ∷ drop (i + 1) xs) ≡ l → with_keyed key a xs ≡ take i xs ++ l
  step i x l lt past e = sym past ∙ ap (λ (z : List A). take i xs ++ z) (ap (with_keyed key a) (drop_more xs i x lt) ∙ e)

  pub put_over : (i : ℕ) (x : A) → i < length xs → IsPast i → is_eq (slice_cmp nat_cmp (key (get_or xs i x)) (key a)) ≡ true → with_keyed key a xs ≡ take i xs ++ a ∷ drop (i + 1) xs
  put_over i x lt past e =
      step i x (a ∷ drop (i + 1) xs) lt past (with_over key a (get_or xs i x) (drop (i + 1) xs) (texts_ties (key (get_or xs i x)) (key a) ∙ e))

  pub put_before : (i : ℕ) (x : A) → i < length xs → IsPast i → is_gt (slice_cmp nat_cmp (key (get_or xs i x)) (key a)) ≡ true → with_keyed key a xs ≡ take i xs ++ a ∷ drop i xs
  put_before i x lt past e =
      let o : Ordering = slice_cmp nat_cmp (key (get_or xs i x)) (key a) in
      step i x (a ∷ get_or xs i x ∷ drop (i + 1) xs) lt past
      (with_front key a (get_or xs i x) (drop (i + 1) xs) (texts_ties (key (get_or xs i x)) (key a) ∙ other_greater o e)
      (ap is_lt (nat_list_cmp_total.antisymm (key a) (key (get_or xs i x))) ∙ before_greater o e))
      ∙ ap (λ (z : List A). take i xs ++ a ∷ z) (sym (drop_more xs i x lt))

  pub put_later : (i : ℕ) (x : A) → i < length xs → IsPast i → is_eq (slice_cmp nat_cmp (key (get_or xs i x)) (key a)) ≡ false → is_gt (slice_cmp nat_cmp (key (get_or xs i x)) (key a)) ≡ false → IsPast (i + 1)
  put_later i x lt past other e =
      let o : Ordering = slice_cmp nat_cmp (key (get_or xs i x)) (key a) in
      ap (λ (z : List A). z ++ with_keyed key a (drop (i + 1) xs)) (take_more xs i x lt)
      ∙ append_assoc (take i xs) (get_or xs i x ∷ []) (with_keyed key a (drop (i + 1) xs))
      ∙ sym (step i x (get_or xs i x ∷ with_keyed key a (drop (i + 1) xs)) lt past
      (with_later key a (get_or xs i x) (drop (i + 1) xs) (texts_ties (key (get_or xs i x)) (key a) ∙ other)
      (ap is_lt (nat_list_cmp_total.antisymm (key a) (key (get_or xs i x))) ∙ behind_less o e)))

  pub put_last : (i : ℕ) → length xs ≤ i → IsPast i → with_keyed key a xs ≡ take i xs ++ a ∷ drop i xs
  put_last i le past =
      sym past ∙ ap (λ (z : List A). take i xs ++ with_keyed key a z) (drop_all i xs le) ∙ ap (λ (z : List A). take i xs ++ a ∷ z) (sym (drop_all i xs le))
