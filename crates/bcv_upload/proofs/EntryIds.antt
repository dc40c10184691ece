-- Which ids the entry of a view lists.
use Rattle.std.proofs.Common.{◌≡◌, ◌∙◌, ℕ, zero, suc, ◌+◌, ◌<◌, ◌≤◌, Bool, true, false, not, ◌||◌, ◌==◌, cond, List, [], ◌∷◌, length, map, Option, Some, None, unwrap_or, refl, sym, ap, subst, arith}
use Rattle.std.specs.List.{AllByRecursion, filter, range_with_len}
use Rattle.bcv_base.specs.declared.id.Id16.{Id16}
use Rattle.bcv_base.specs.HistoryLaws.{id_eq-is, id_eq-self}
use Rattle.bcv_base.specs.Ids.{IsId, has_id, id_eq}
use Rattle.bcv_dbmap.specs.Checked.{zero_id}
use Rattle.bcv_upload.specs.State.{block_id, id_at, ids_with, is_among, kept_id, put_id}
use Rattle.bcv_dbmap.proofs.Bools.{or_right}

-- ---- a list that is made by a function

all_made : {X : Type 0} (P : X → Type 0) (f : ℕ → X) (ns : List ℕ) → ((n : ℕ) → P (f n)) → AllByRecursion P (map f ns)
all_made P f [] each = tt
all_made P f (n ∷ ns) each = (each n, all_made P f ns each)

-- an id that is listed is made of some number
pub record IsMadeOf (f : ℕ → Id16) (a n : ℕ) (i : Id16) : Type 0 where
  pub number : ℕ
  pub low : a ≤ number
  pub high : number < a + n
  pub is : f number ≡ i

pub made_of : (f : ℕ → Id16) (a n : ℕ) (i : Id16) → has_id i (map f (range_with_len a n)) ≡ true → IsMadeOf f a n i
made_of f a zero i has = absurd (cc)
made_of f a (suc n) i has = by_first (id_eq (f a) i) refl has (made_of f (a + 1) n i)
  where
    by_first : (b : Bool) → id_eq (f a) i ≡ b → (b || has_id i (map f (range_with_len (a + 1) n))) ≡ true → (has_id i (map f (range_with_len (a + 1) n)) ≡ true → IsMadeOf f (a + 1) n i) → IsMadeOf f a (suc n) i
    by_first true here has rest = record { number = a; low = omega arith; high = omega arith; is = id_eq-is (f a) i here }
    by_first false here has rest = let r = rest has in record { number = r.number; low = omega (arith, r.low); high = omega (arith, r.high); is = r.is }

-- what is listed of one function is listed of another one that makes the same of it
has_both : (test : Id16 → Bool) (f g : ℕ → Id16) (a n : ℕ) (i : Id16) → ((m : ℕ) → test (f m) ≡ true → g m ≡ f m) → has_id i (filter test (map f (range_with_len a n))) ≡ true → has_id i (map g (range_with_len a n)) ≡ true
has_both test f g a zero i same has = absurd (cc)
has_both test f g a (suc n) i same has = by_test (test (f a)) refl has (has_both test f g (a + 1) n i same)
  where
    or_both : (b c d : Bool) → (c ≡ true → d ≡ true) → (b || c) ≡ true → (b || d) ≡ true
    or_both true c d f h = refl
    or_both false c d f h = f h

    by_test : (b : Bool) → test (f a) ≡ b → has_id i (cond b (f a ∷ filter test (map f (range_with_len (a + 1) n))) (filter test (map f (range_with_len (a + 1) n)))) ≡ true
        → (has_id i (filter test (map f (range_with_len (a + 1) n))) ≡ true → has_id i (map g (range_with_len (a + 1) n)) ≡ true) → has_id i (map g (range_with_len a (suc n))) ≡ true
    by_test true passes has rest =
        ap (λ (x : Id16). id_eq x i || has_id i (map g (range_with_len (a + 1) n))) (same a passes)
        ∙ or_both (id_eq (f a) i) (has_id i (filter test (map f (range_with_len (a + 1) n)))) (has_id i (map g (range_with_len (a + 1) n))) rest has
    by_test false passes has rest = or_right (id_eq (g a) i) (has_id i (map g (range_with_len (a + 1) n))) (rest has)

-- ---- the ids of a view

zero_is : IsId zero_id
zero_is = record { len = refl; bytes = refl }

at_is : (blocks : List Id16) (n : ℕ) → AllByRecursion IsId blocks → IsId (id_at blocks n)
at_is [] n all = zero_is
at_is (i ∷ is) zero all = all.0
at_is (i ∷ is) (suc n) all = at_is is n all.1

put_is : (ids : List Id16) (ks : List ℕ) (n : ℕ) (i : Id16) → AllByRecursion IsId ids → put_id ids ks n ≡ Some i → IsId i
put_is [] ks n i all is = absurd (let both : ◌≡◌ {A = Option Id16} None (Some i) = is in cc)
put_is (j ∷ js) [] n i all is = absurd (let both : ◌≡◌ {A = Option Id16} None (Some i) = is in cc)
put_is (j ∷ js) (k ∷ ks) n i all is = by_test (k == n) is (put_is js ks n i all.1)
  where
    by_test : (b : Bool) → cond b (Some j) (put_id js ks n) ≡ Some i → (put_id js ks n ≡ Some i → IsId i) → IsId i
    by_test true is rest = let both : ◌≡◌ {A = Option Id16} (Some j) (Some i) = is in subst IsId (let same : j ≡ i = cc in same) all.0
    by_test false is rest = rest is

pub ids_are : (blocks : List Id16) (touched : List ℕ) (ids : List Id16) (count : ℕ) → AllByRecursion IsId blocks → AllByRecursion IsId ids → AllByRecursion IsId (ids_with blocks touched ids count)
ids_are blocks touched ids count base put = all_made IsId (block_id blocks touched ids) (range_with_len 0 count) (λ n. by_put n (put_id ids touched n) refl)
  where
    kept : (n : ℕ) (b : Bool) → IsId (cond b zero_id (id_at blocks n))
    kept n true = zero_is
    kept n false = at_is blocks n base

    by_put : (n : ℕ) (o : Option Id16) → put_id ids touched n ≡ o → IsId (unwrap_or o (kept_id blocks touched n))
    by_put n None is = kept n (is_among n touched)
    by_put n (Some i) is = put_is ids touched n i put is

-- a block that is not touched was not put
pub none_put : (ids : List Id16) (ks : List ℕ) (n : ℕ) → is_among n ks ≡ false → put_id ids ks n ≡ None
none_put [] ks n not_there = refl
none_put (i ∷ is) [] n not_there = refl
none_put (i ∷ is) (k ∷ ks) n not_there = by_test (k == n) not_there (none_put is ks n)
  where
    by_test : (b : Bool) → (b || is_among n ks) ≡ false → (is_among n ks ≡ false → put_id is ks n ≡ None) → cond b (Some i) (put_id is ks n) ≡ None
    by_test true h rest = absurd (cc)
    by_test false h rest = rest h

-- where all touched blocks were put, a touched one was
pub all_put : (ids : List Id16) (ks : List ℕ) (n : ℕ) → length ids ≡ length ks → is_among n ks ≡ true → (i : Id16) × (put_id ids ks n ≡ Some i)
all_put [] [] n same there = absurd (cc)
all_put [] (k ∷ ks) n same there = absurd (omega (arith, same))
all_put (i ∷ is) [] n same there = absurd (omega (arith, same))
all_put (i ∷ is) (k ∷ ks) n same there = by_test (k == n) there (all_put is ks n (omega (arith, same)))
  where
    by_test : (b : Bool) → (b || is_among n ks) ≡ true → (is_among n ks ≡ true → (j : Id16) × (put_id is ks n ≡ Some j)) → (j : Id16) × (cond b (Some i) (put_id is ks n) ≡ Some j)
    by_test true h rest = (i, refl)
    by_test false h rest = rest h

-- an id that stays is not one of zeros, whatever was put
pub stays : (blocks : List Id16) (touched : List ℕ) (ids : List Id16) (count : ℕ) (i : Id16) → has_id i (filter (λ j. not (id_eq j zero_id)) (ids_with blocks touched [] count)) ≡ true
    → has_id i (ids_with blocks touched ids count) ≡ true
stays blocks touched ids count i has =
    has_both (λ j. not (id_eq j zero_id)) (block_id blocks touched []) (block_id blocks touched ids) 0 count i (λ m passes. by_touched m (is_among m touched) refl passes) has
  where
    by_touched : (m : ℕ) (b : Bool) → is_among m touched ≡ b → not (id_eq (cond b zero_id (id_at blocks m)) zero_id) ≡ true → block_id blocks touched ids m ≡ kept_id blocks touched m
    by_touched m true is passes = absurd (let zeros : not true ≡ true = sym (ap not (id_eq-self zero_id)) ∙ passes in cc)
    by_touched m false is passes = ap (λ (o : Option Id16). unwrap_or o (kept_id blocks touched m)) (none_put ids touched m is)
