-- Taking each of sorted ids once, in place.
use Rattle.std.proofs.Common.{◌≡◌, ◌∙◌, ℕ, ◌+◌, ◌-◌, ◌<◌, ◌≤◌, zero, suc, Bool, true, false, cond, List, [], ◌∷◌, ◌++◌, length, get_or, take, drop, set, refl, sym, ap, append_assoc, arith}
use Rattle.std.specs.Prelude.{◌==◌}
use Rattle.std.specs.List.{dedup, dedup_from}
use Rattle.std.proofs.lemmas.List.{drop_more, drop_all, take_more, take-set, get_or-set_same, drop-set-lt}
use Rattle.bcv_base.specs.declared.id.Id16.{Id16}
use Rattle.bcv_base.specs.Ids.{id_eq}

-- xs was packed as far as p: the first k of ys are what is kept, and from p on ys is as it was
pub record IsPacked (xs ys : List Id16) (k p : ℕ) : Type 0 where
  pub some : 1 ≤ k
  pub behind : k ≤ p
  pub is : (d : Id16) → take (k - 1) ys ++ dedup_from id_eq (get_or ys (k - 1) d) (drop p ys) ≡ dedup id_eq xs

-- the first id is kept
pub packed_first : (xs : List Id16) → 0 < length xs → IsPacked xs xs 1 1
packed_first [] lt = absurd (omega arith)
packed_first (x ∷ xs) lt = record { some = omega arith; behind = omega arith; is = λ d. refl }

step : (x k : Id16) (xs : List Id16) (b : Bool) → id_eq x k ≡ b → dedup_from id_eq k (x ∷ xs) ≡ cond b (dedup_from id_eq k xs) (k ∷ dedup_from id_eq x xs)
step x k xs b e = ap (λ (t : Bool). cond t (dedup_from id_eq k xs) (k ∷ dedup_from id_eq x xs)) e

-- the last that was kept comes again
pub packed_same : (xs ys : List Id16) (k p : ℕ) (x last : Id16) → p < length ys → ((d : Id16) → x ≡ get_or ys p d) → ((d : Id16) → last ≡ get_or ys (k - 1) d) → id_eq x last ≡ true
    → IsPacked xs ys k p → IsPacked xs ys k (p + 1)
packed_same xs ys k p x last lt at last_at e h = record {
  some = h.some;
  behind = let b : k ≤ p = h.behind in omega arith;
  is = λ d.
      let more : drop p ys ≡ x ∷ drop (p + 1) ys = drop_more ys p d lt ∙ ap (λ (z : Id16). z ∷ drop (p + 1) ys) (sym (at d)) in
      ap (λ (z : Id16). take (k - 1) ys ++ dedup_from id_eq z (drop (p + 1) ys)) (sym (last_at d))
      ∙ sym (ap (λ (l : List Id16). take (k - 1) ys ++ l) (ap (dedup_from id_eq last) more ∙ step x last (drop (p + 1) ys) true e))
      ∙ ap (λ (z : Id16). take (k - 1) ys ++ dedup_from id_eq z (drop p ys)) (last_at d)
      ∙ h.is d;
}

-- another one is written behind it
pub packed_other : (xs ys : List Id16) (k p : ℕ) (x last : Id16) → p < length ys → ((d : Id16) → x ≡ get_or ys p d) → ((d : Id16) → last ≡ get_or ys (k - 1) d) → id_eq x last ≡ false
    → IsPacked xs ys k p → IsPacked xs (set ys k x) (k + 1) (p + 1)
packed_other xs ys k p x last lt at last_at e h = record {
  some = omega arith;
  behind = let b : k ≤ p = h.behind in omega arith;
  is = λ d.
      let some : 1 ≤ k = h.some in
      let behind : k ≤ p = h.behind in
      let one : k + 1 - 1 ≡ k = omega arith in
      let back : k - 1 + 1 ≡ k = omega arith in
      let inside : k - 1 < length ys = omega arith in
      let within : k < length ys = omega arith in
      let less : k < p + 1 = omega arith in
      let more : drop p ys ≡ x ∷ drop (p + 1) ys = drop_more ys p d lt ∙ ap (λ (z : Id16). z ∷ drop (p + 1) ys) (sym (at d)) in
      let front : take k (set ys k x) ≡ take (k - 1) ys ++ last ∷ [] =
      take-set ys k x ∙ ap (λ (n : ℕ). take n ys) (sym back) ∙ take_more ys (k - 1) d inside ∙ ap (λ (z : Id16). take (k - 1) ys ++ z ∷ []) (sym (last_at d)) in
      ap (λ (n : ℕ). take n (set ys k x) ++ dedup_from id_eq (get_or (set ys k x) n d) (drop (p + 1) (set ys k x))) one
      ∙ ap (λ (z : Id16). take k (set ys k x) ++ dedup_from id_eq z (drop (p + 1) (set ys k x))) (get_or-set_same ys k x d within)
      ∙ ap (λ (l : List Id16). take k (set ys k x) ++ dedup_from id_eq x l) (drop-set-lt (p + 1) ys k x less)
      ∙ ap (λ (l : List Id16). l ++ dedup_from id_eq x (drop (p + 1) ys)) front
      ∙ append_assoc (take (k - 1) ys) (last ∷ []) (dedup_from id_eq x (drop (p + 1) ys))
      ∙ sym (ap (λ (l : List Id16). take (k - 1) ys ++ l) (ap (dedup_from id_eq last) more ∙ step x last (drop (p + 1) ys) false e))
      ∙ ap (λ (z : Id16). take (k - 1) ys ++ dedup_from id_eq z (drop p ys)) (last_at d)
      ∙ h.is d;
}

pub packed_all : (xs ys : List Id16) (k p : ℕ) → k ≤ length ys → length ys ≤ p → IsPacked xs ys k p → take k ys ≡ dedup id_eq xs
packed_all xs [] k p few le h = let some : 1 ≤ k = h.some in absurd (omega arith)
packed_all xs (y ∷ ys) k p few le h =
    let some : 1 ≤ k = h.some in
    let back : k - 1 + 1 ≡ k = omega arith in
    let inside : k - 1 < length (y ∷ ys) = omega arith in
    ap (λ (n : ℕ). take n (y ∷ ys)) (sym back) ∙ take_more (y ∷ ys) (k - 1) y inside
    ∙ sym (ap (λ (l : List Id16). take (k - 1) (y ∷ ys) ++ dedup_from id_eq (get_or (y ∷ ys) (k - 1) y) l) (drop_all p (y ∷ ys) le)) ∙ h.is y

pub not_none : (n : ℕ) → (n == 0) ≡ false → 0 < n
not_none zero e = absurd cc
not_none (suc n) e = omega arith
