-- The ids of the entry of a view: what one more id changes, and which ids there are.
use Rattle.std.proofs.Common.{◌≡◌, ◌∙◌, ◌⊎◌, inl, inr, ℕ, zero, suc, ◌+◌, ◌-◌, ◌<◌, ◌≤◌, Bool, true, false, ◌==◌, ◌||◌, cond, min, List, [], ◌∷◌, ◌++◌, length, map, take, replicate, get_or, slice_set, Option, Some, unwrap_or, refl, sym, ap, arith, length-append, length-take}
use Rattle.std.specs.List.{AllByRecursion, range_with_len}
use Rattle.std.proofs.lemmas.Bool.{cases_lt, eq-eqb, eqb-true, ne_eqb}
use Rattle.std.proofs.lemmas.List.{get_or-take, get_or_append_left, get_or-append_right, get_or-replicate, length-replicate, take_all, take_more}
use Rattle.std.proofs.lemmas.List.FromFn.{fill_by_all}
use Rattle.std.proofs.lemmas.Option.{unwrap_or-slice_get, slice_get_past}
use Rattle.bcv_base.specs.declared.id.Id16.{Id16}
use Rattle.bcv_dbmap.specs.Checked.{zero_id}
use Rattle.bcv_upload.specs.State.{id_at, is_among, kept_id, put_id, block_id, ids_with}
use Rattle.bcv_dbmap.proofs.Bools.{or_right}
use Rattle.bcv_upload.proofs.Bools.{or_false, or_none, or_or}
use Rattle.bcv_upload.proofs.BlockNumbers.{Rises}

-- ---- a write in a list that is made by a function

pub set_range : {X : Type 0} (f g : ℕ → X) (a n k : ℕ) (y : X) → k < n → g (a + k) ≡ y → ((m : ℕ) → (m ≡ a + k → ⊥) → g m ≡ f m)
    → slice_set (map f (range_with_len a n)) k y ≡ map g (range_with_len a n)
set_range f g a zero k y within at others = absurd (omega (arith, within))
set_range f g a (suc n) zero y within at others =
    ap (λ x. x ∷ map f (range_with_len (a + 1) n)) (sym at ∙ ap g (none_more a)) ∙ ap (λ xs. g a ∷ xs) (same f g (a + 1) n (λ m low. sym (others m (λ e. omega (arith, low, e)))))
  where
    none_more : (a : ℕ) → a + 0 ≡ a
    none_more a = omega arith

    same : {X : Type 0} (f g : ℕ → X) (b n : ℕ) → ((m : ℕ) → b ≤ m → f m ≡ g m) → map f (range_with_len b n) ≡ map g (range_with_len b n)
    same f g b zero h = refl
    same f g b (suc n) h = ap (λ x. x ∷ map f (range_with_len (b + 1) n)) (h b (omega arith)) ∙ ap (λ xs. g b ∷ xs) (same f g (b + 1) n (λ m low. h m (omega (arith, low))))
set_range f g a (suc n) (suc k) y within at others =
    ap (λ x. x ∷ slice_set (map f (range_with_len (a + 1) n)) k y) (sym (others a (λ e. omega (arith, e))))
    ∙ ap (λ xs. g a ∷ xs) (set_range f g (a + 1) n k y (omega (arith, within)) (ap g (one_more a k) ∙ at) (λ m differ. others m (λ e. differ (omega (arith, e)))))
  where
    one_more : (a k : ℕ) → (a + 1) + k ≡ a + suc k
    one_more a k = omega arith

-- ---- the ids that stay

among_push : (m n : ℕ) (ns : List ℕ) → is_among m (ns ++ n ∷ []) ≡ (is_among m ns || (n == m))
among_push m n [] = or_none (n == m)
among_push m n (k ∷ ks) = ap (λ (b : Bool). (k == m) || b) (among_push m n ks) ∙ or_or (k == m) (is_among m ks) (n == m)

-- zeros for the first touched blocks, and for one more
pub zeroed_more : (blocks : List Id16) (touched : List ℕ) (k count : ℕ) → k < length touched → get_or touched k 0 < count
    → slice_set (ids_with blocks (take k touched) [] count) (get_or touched k 0) zero_id ≡ ids_with blocks (take (k + 1) touched) [] count
zeroed_more blocks touched k count there within =
    let n : ℕ = get_or touched k 0 in
    let more : take (k + 1) touched ≡ take k touched ++ n ∷ [] = take_more touched k 0 there in
    let among : (m : ℕ) → is_among m (take (k + 1) touched) ≡ (is_among m (take k touched) || (n == m)) = λ m. ap (is_among m) more ∙ among_push m n (take k touched) in
    set_range (block_id blocks (take k touched) []) (block_id blocks (take (k + 1) touched) []) 0 count n zero_id within
    (ap (λ (b : Bool). cond b zero_id (id_at blocks (0 + n))) (among (0 + n) ∙ or_right (is_among (0 + n) (take k touched)) (n == (0 + n)) (eq-eqb n (0 + n) (omega arith))))
    (λ m differ. ap (λ (b : Bool). cond b zero_id (id_at blocks m)) (among m ∙ or_false (is_among m (take k touched)) (n == m) (ne_eqb n m (λ e. differ (omega (arith, e))))))

zeroed : (blocks : List Id16) (kept count : ℕ) (ids : List Id16) → kept ≡ min (length blocks) count → ids ≡ take kept blocks ++ replicate (count - kept) zero_id
    → ids ≡ ids_with blocks [] [] count
zeroed blocks kept count ids kept_is is =
    let front : length (take kept blocks) ≡ kept = omega (arith, length-take kept blocks, kept_is) in
    let whole : length ids ≡ count = omega (arith, ap length is, length-append (take kept blocks) (replicate (count - kept) zero_id), length-replicate (count - kept) zero_id, front, kept_is) in
    fill_by_all (block_id blocks [] []) ids count zero_id whole (λ k below. ap (λ (x : List Id16). get_or x k zero_id) is ∙ at k below (cases_lt k kept) front)
  where
    at : (k : ℕ) → k < count → (k < kept) ⊎ (kept ≤ k) → length (take kept blocks) ≡ kept → get_or (take kept blocks ++ replicate (count - kept) zero_id) k zero_id ≡ id_at blocks k
    at k below (inl inside) front =
        get_or_append_left (take kept blocks) (replicate (count - kept) zero_id) zero_id k (omega (arith, front, inside))
        ∙ get_or-take kept blocks k zero_id inside ∙ sym (unwrap_or-slice_get blocks k zero_id)
    at k below (inr past) front =
        get_or-append_right (take kept blocks) (replicate (count - kept) zero_id) kept k zero_id front past
        ∙ get_or-replicate (count - kept) (k - kept) zero_id zero_id (omega (arith, below, past))
        ∙ sym (ap (λ (o : Option Id16). unwrap_or o zero_id) (slice_get_past blocks k (omega (arith, below, past, kept_is))))

-- the base's ids, cut or filled up with zeros
pub zeroed_none : (blocks : List Id16) (kept count len : ℕ) (front ids : List Id16) → kept ≡ min (length blocks) count → front ≡ take kept blocks → len ≡ length front
    → ids ≡ take count front ++ replicate (count - len) zero_id → ids ≡ ids_with blocks [] [] count
zeroed_none blocks kept count len front ids kept_is front_is len_is is =
    let short : length front ≡ kept = omega (arith, ap length front_is, length-take kept blocks, kept_is) in
    zeroed blocks kept count ids kept_is
    (is ∙ ap (λ (x : List Id16). x ++ replicate (count - len) zero_id) (take_all count front (omega (arith, short, kept_is)) ∙ front_is) ∙ ap (λ (x : ℕ). take kept blocks ++ replicate (count - x) zero_id) (len_is ∙ short))

-- ---- one more id that was put

at_push : (i : Id16) (ids : List Id16) (ks : List ℕ) (m : ℕ) → Rises ks → length ids < length ks
    → put_id (ids ++ i ∷ []) ks m ≡ cond (get_or ks (length ids) 0 == m) (Some i) (put_id ids ks m)
at_push i [] [] m rises more = absurd (omega (arith, more))
at_push i [] (k ∷ ks) m rises more = refl
at_push i (j ∷ js) [] m rises more = absurd (omega (arith, more))
at_push i (j ∷ js) (k ∷ ks) m rises more =
    ap (λ (o : Option Id16). cond (k == m) (Some j) o) (at_push i js ks m rises.1 (omega (arith, more)))
    ∙ turned (k == m) (get_or ks (length js) 0 == m) (λ a b. omega (arith, eqb-true k m a, eqb-true (get_or ks (length js) 0) m b, above ks (length js) rises.0 (omega (arith, more))))
  where
    turned : (a b : Bool) → (a ≡ true → b ≡ true → ⊥) → cond a (Some j) (cond b (Some i) (put_id js ks m)) ≡ cond b (Some i) (cond a (Some j) (put_id js ks m))
    turned true true both = absurd (both refl refl)
    turned true false both = refl
    turned false b both = refl

    above : (ns : List ℕ) (n : ℕ) → AllByRecursion (λ x. k < x) ns → n < length ns → k < get_or ns n 0
    above [] n all there = absurd (omega (arith, there))
    above (x ∷ xs) zero all there = all.0
    above (x ∷ xs) (suc n) all there = above xs n all.1 (omega (arith, there))

-- the id of the next block is written in its place
pub ids_more : (blocks : List Id16) (touched : List ℕ) (ids : List Id16) (i : Id16) (count : ℕ) → Rises touched → length ids < length touched → get_or touched (length ids) 0 < count
    → slice_set (ids_with blocks touched ids count) (get_or touched (length ids) 0) i ≡ ids_with blocks touched (ids ++ i ∷ []) count
ids_more blocks touched ids i count rises more within =
    let n : ℕ = get_or touched (length ids) 0 in
    let now : (m : ℕ) → put_id (ids ++ i ∷ []) touched m ≡ cond (n == m) (Some i) (put_id ids touched m) = λ m. at_push i ids touched m rises more in
    set_range (block_id blocks touched ids) (block_id blocks touched (ids ++ i ∷ [])) 0 count n i within
    (ap (λ (o : Option Id16). unwrap_or o (kept_id blocks touched (0 + n))) (now (0 + n)) ∙ ap (λ (b : Bool). unwrap_or (cond b (Some i) (put_id ids touched (0 + n))) (kept_id blocks touched (0 + n))) (eq-eqb n (0 + n) (omega arith)))
    (λ m differ. ap (λ (o : Option Id16). unwrap_or o (kept_id blocks touched m)) (now m) ∙ ap (λ (b : Bool). unwrap_or (cond b (Some i) (put_id ids touched m)) (kept_id blocks touched m)) (ne_eqb n m (λ e. differ (omega (arith, e)))))
