-- Readers and spellings of lists, and what it is to ascend.
use Rattle.std.proofs.Common.{◌≡◌, ℕ, zero, suc, ◌^◌, ◌<◌, ◌≤◌, true, List, [], ◌∷◌, ◌++◌, length, Option, Some, None, Ok, refl, sym, ap, subst, ◌∙◌, append_assoc, arith}
use Rattle.std.specs.Prelude.{nat_le}
use Rattle.std.specs.Int.{w32, to_be_bytes}
use Rattle.std.specs.List.{flat_map, AllByRecursion}
use Rattle.std.specs.Ordering.{is_lt, nat_cmp}
use Rattle.std.specs.Cmp.Lexicographic.{slice_cmp, nat_list_cmp_total}
use Rattle.std.specs.declared.cmp.Ordering.{Ordering}
use Rattle.std.specs.declared.cmp.Ordering.TheVariants.{Less, Equal, Greater}
use Rattle.std.proofs.lemmas.Bool.{leb-true, le-leb}
use Rattle.bcv_base.specs.Keyed.{comes_before}
use Rattle.bcv_base.specs.ManifestGrammar.{Read, ◌>>=◌, is_above, items_at, counted_at}
use Rattle.bcv_base.specs.ManifestRules.{IsAbove, Ascends}
use Rattle.bcv_base.specs.ManifestText.{counted}
use Rattle.bcv_manifest.proofs.Readers.{IsBytes, IsReader, bind_ok, step, goes, Takes, Takes-then, ok_is, such_reader, number_reader, wide32}

-- each item has the relation to the key of the one before it
abbrev pub Chain : {A : Type 0} → (A → List ℕ) → (Option (List ℕ) → A → Type 0) → Option (List ℕ) → List A → Type 0
Chain key R before [] = Unit {0}
Chain key R before (x ∷ xs) = R before x × Chain key R (Some (key x)) xs

module _ {A : Type 0} (key : A → List ℕ) (item : Option (List ℕ) → List ℕ → Read A) (text : A → List ℕ) (R : Option (List ℕ) → A → Type 0) (reader : (before : Option (List ℕ)) → IsReader (item before) text (R before)) where
  items_take : (n : ℕ) (before : Option (List ℕ)) (bytes : List ℕ) (y : List A × List ℕ) → IsBytes bytes → items_at key item n before bytes ≡ Ok y → Takes bytes (flat_map text y.0) y.1 × ((length y.0 ≡ n) × Chain key R before y.0)
  unfolding items_at
  items_take zero before bytes y fits e =
      let made : List A × List ℕ = ([], bytes) in
      subst (λ (z : List A × List ℕ). Takes bytes (flat_map text z.0) z.1 × ((length z.0 ≡ 0) × Chain key R before z.0)) (ok_is made y e) (record { parts = refl; rest_fits = fits }, (refl, tt))
  items_take (suc n) before bytes y fits e =
      let a = step (reader before) bytes (λ first. items_at key item n (Some (key first.0)) first.1 >>= λ xs. Ok (first.0 ∷ xs.0, xs.1)) y fits e in
      let b = bind_ok (items_at key item n (Some (key a.x.0)) a.x.1) (λ xs. Ok (a.x.0 ∷ xs.0, xs.1)) y a.then in
      let t = items_take n (Some (key a.x.0)) a.x.1 b.0 a.taken.rest_fits b.1 in
      let made : List A × List ℕ = (a.x.0 ∷ b.0.0, b.0.1) in
      subst (λ (z : List A × List ℕ). Takes bytes (flat_map text z.0) z.1 × ((length z.0 ≡ suc n) × Chain key R before z.0)) (ok_is made y b.2)
      (Takes-then a.taken t.0, (ap suc t.1.0, (a.meets, t.1.1)))

  items_again : (xs : List A) (before : Option (List ℕ)) (rest : List ℕ) → Chain key R before xs → items_at key item (length xs) before (flat_map text xs ++ rest) ≡ Ok (xs, rest)
  unfolding items_at
  items_again [] before rest h = refl
  items_again (x ∷ xs) before rest h =
      ap (items_at key item (suc (length xs)) before) (append_assoc (text x) (flat_map text xs) rest)
      ∙ goes (reader before) x (flat_map text xs ++ rest) (λ first. items_at key item (length xs) (Some (key first.0)) first.1 >>= λ others. Ok (first.0 ∷ others.0, others.1)) h.0
      ∙ ap (λ (z : Read (List A)). z >>= λ others. Ok (x ∷ others.0, others.1)) (items_again xs (Some (key x)) rest h.1)

  pub items_reader : (n : ℕ) (before : Option (List ℕ)) → IsReader (items_at key item n before) (flat_map text) (λ xs. (length xs ≡ n) × Chain key R before xs)
  items_reader n before = record {
    takes = λ bytes y fits e. items_take n before bytes y fits e;
    again = λ xs rest h. ap (λ (k : ℕ). items_at key item k before (flat_map text xs ++ rest)) (sym h.0) ∙ items_again xs before rest h.1;
  }

  pub counted_reader : (most : ℕ) → most < 2 ^ 32 → IsReader (counted_at most key item) (counted text) (λ xs. (length xs ≤ most) × Chain key R None xs)
  unfolding counted_at
  counted_reader most small = record {
    takes = λ bytes y fits e.
        let a = step (such_reader (number_reader wide32) (λ n. nat_le n most)) bytes (λ count. items_at key item count.0 None count.1) y fits e in
        let t = items_take a.x.0 None a.x.1 y a.taken.rest_fits a.then in
        let len : length y.0 ≤ most = omega (arith, leb-true _ _ a.meets.1, t.1.0) in
        (subst (λ (k : ℕ). Takes bytes (to_be_bytes w32 k ++ flat_map text y.0) y.1) (sym t.1.0) (Takes-then a.taken t.0), (len, t.1.1));
    again = λ xs rest h.
        ap (counted_at most key item) (append_assoc (to_be_bytes w32 (length xs)) (flat_map text xs) rest)
        ∙ goes (such_reader (number_reader wide32) (λ n. nat_le n most)) (length xs) (flat_map text xs ++ rest) (λ count. items_at key item count.0 None count.1) (omega (arith, h.0), le-leb _ _ h.0)
        ∙ items_again xs None rest h.1;
  }

-- ---- ascending

before_trans : (a b c : List ℕ) → comes_before a b ≡ true → comes_before b c ≡ true → comes_before a c ≡ true
before_trans a b c h g = ap is_lt (nat_list_cmp_total.trans a b c (less (slice_cmp nat_cmp a b) h) (less (slice_cmp nat_cmp b c) g))
  where
    less : (o : Ordering) → is_lt o ≡ true → o ≡ Less
    less Less e = refl
    less Equal e = absurd cc
    less Greater e = absurd cc

module _ {A : Type 0} (key : A → List ℕ) (P : A → Type 0) where
  -- the key is above the one before it, where there is one
  abbrev pub Rising : Option (List ℕ) → A → Type 0
  Rising before x = P x × (is_above before (key x) ≡ true)

  below_all : (k : List ℕ) (x : A) (xs : List A) → comes_before k (key x) ≡ true → IsAbove key (key x) xs → IsAbove key k xs
  below_all k x [] h above = tt
  below_all k x (y ∷ ys) h above = (before_trans k (key x) (key y) h above.0, below_all k x ys h above.1)

  rises : (before : Option (List ℕ)) (xs : List A) → Chain key Rising before xs → Ascends key xs × AllByRecursion P xs × ((k : List ℕ) → before ≡ Some k → IsAbove key k xs)
  rises before [] h = (tt, tt, λ k e. tt)
  rises before (x ∷ xs) h =
      let r = rises (Some (key x)) xs h.1 in
      let above : IsAbove key (key x) xs = r.2 (key x) refl in
      ((above, r.0), (h.0.0, r.1), λ k e. let first : comes_before k (key x) ≡ true = subst (λ (b : Option (List ℕ)). is_above b (key x) ≡ true) e h.0.1 in (first, below_all k x xs first above))

  pub ascends_of : (xs : List A) → Chain key Rising None xs → Ascends key xs × AllByRecursion P xs
  ascends_of xs h = let r = rises None xs h in (r.0, r.1)

  chain_from : (k : List ℕ) (xs : List A) → IsAbove key k xs → Ascends key xs → AllByRecursion P xs → Chain key Rising (Some k) xs
  chain_from k [] above asc all = tt
  chain_from k (x ∷ xs) above asc all = ((all.0, above.0), chain_from (key x) xs asc.0 asc.1 all.1)

  pub chain_of : (xs : List A) → Ascends key xs → AllByRecursion P xs → Chain key Rising None xs
  chain_of [] asc all = tt
  chain_of (x ∷ xs) asc all = ((all.0, refl), chain_from (key x) xs asc.0 asc.1 all.1)

module _ {A : Type 0} (key : A → List ℕ) (P : A → Type 0) where
  -- items that have no relation to the one before them
  pub all_of_chain : (before : Option (List ℕ)) (xs : List A) → Chain key (λ _. P) before xs → AllByRecursion P xs
  all_of_chain before [] h = tt
  all_of_chain before (x ∷ xs) h = (h.0, all_of_chain (Some (key x)) xs h.1)

  pub chain_of_all : (before : Option (List ℕ)) (xs : List A) → AllByRecursion P xs → Chain key (λ _. P) before xs
  chain_of_all before [] h = tt
  chain_of_all before (x ∷ xs) h = (h.0, chain_of_all (Some (key x)) xs h.1)
