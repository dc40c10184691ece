-- Whether some number of a range passes a test.
use Rattle.std.proofs.Common.{◌≡◌, ℕ, zero, suc, ◌+◌, ◌*◌, ◌/◌, ◌≤◌, ◌<◌, cond, Bool, true, false, ◌||◌, List, [], ◌∷◌, ◌++◌, map, refl, sym, ◌∙◌, ap, arith}
use Rattle.std.specs.Int.{div_ceil}
use Rattle.std.specs.List.{filter, list_any, range_with_len}
use Rattle.std.proofs.Math.Nat.{mul-le-mul_left}
use Rattle.std.proofs.lemmas.List.Elements.{filter-append}
use Rattle.std.proofs.lemmas.List.Folds.{list_any-append}
use Rattle.std.proofs.lemmas.List.FromFn.{map-range_with_len_more}

or-true : (b : Bool) → (b || true) ≡ true
or-true true = refl
or-true false = refl

map-same : (xs : List ℕ) → map (λ x. x) xs ≡ xs
map-same [] = refl
map-same (x ∷ xs) = ap (λ ys. x ∷ ys) (map-same xs)

pub any-more : (test : ℕ → Bool) (a n : ℕ) → list_any test (range_with_len a n) ≡ false → test (a + n) ≡ false → list_any test (range_with_len a (n + 1)) ≡ false
any-more test a n none here =
    let more : range_with_len a (n + 1) ≡ range_with_len a n ++ (a + n) ∷ [] =
    sym (map-same (range_with_len a (n + 1))) ∙ map-range_with_len_more (λ x. x) a n (a + n) refl ∙ ap (λ xs. xs ++ (a + n) ∷ []) (map-same (range_with_len a n)) in
    ap (list_any test) more ∙ list_any-append test (range_with_len a n) ((a + n) ∷ []) ∙ rw (none, here) refl

pub any-found : (test : ℕ → Bool) (a n i : ℕ) → i < n → test (a + i) ≡ true → list_any test (range_with_len a n) ≡ true
any-found test a zero i lt here = absurd (omega arith)
any-found test a (suc n) zero lt here =
    let first : a ≡ a + 0 = omega arith in
    rw (ap test first ∙ here) refl
any-found test a (suc n) (suc i) lt here =
    let at : a + 1 + i ≡ a + suc i = omega arith in
    rw (any-found test (a + 1) n i (omega arith) (ap test at ∙ here)) (or-true (test a))

-- the numbers of a longer range that pass a test
pub filter-more : (test : ℕ → Bool) (n : ℕ) → filter test (range_with_len 0 (n + 1)) ≡ filter test (range_with_len 0 n) ++ cond (test n) (n ∷ []) []
filter-more test n =
    let more : range_with_len 0 (n + 1) ≡ range_with_len 0 n ++ n ∷ [] =
    sym (map-same (range_with_len 0 (n + 1))) ∙ map-range_with_len_more (λ x. x) 0 n n (omega arith) ∙ ap (λ xs. xs ++ n ∷ []) (map-same (range_with_len 0 n)) in
    ap (filter test) more ∙ filter-append test (range_with_len 0 n) (n ∷ [])

-- a block of a size begins within it
pub block-start : (size per_block block : ℕ) → 1 ≤ per_block → block < div_ceil size per_block → block * per_block ≤ size
block-start size per_block block some inside =
    let whole : block ≤ size / per_block = omega arith in
    omega (arith, mul-le-mul_left per_block whole)
