-- The value of a word's digits, as far as they were read.
use Rattle.std.proofs.Common.{◌≡◌, ℕ, zero, suc, ◌+◌, ◌*◌, ◌-◌, ◌^◌, ◌<◌, ◌≤◌, Bool, true, false, ◌&&◌, List, [], ◌∷◌, length, take, take_all, get_or, Some, None, refl, sym, ap, ◌∙◌, arith, add-one}
use Rattle.std.specs.Prelude.{fold, nat_lt, nat_le, if◌then◌else◌}
use Rattle.std.proofs.lemmas.Grind.{common_steps}
use Rattle.std.proofs.Math.Seq.{take-nil}
use Rattle.std.specs.List.{list_all}
use Rattle.std.proofs.lemmas.Bool.{and_parts, leb-true}
use Rattle.bcv_model.specs.Words.{is_digit, is_number, value_of}
use Rattle.bcv_script.specs.Numbers.{small_value}

abbrev step : ℕ → ℕ → ℕ
step n b = n * 10 + (b - 48)

-- further digits make no number smaller
pub fold-grows : (n : ℕ) (w : List ℕ) → n ≤ fold step n w
fold-grows n [] = omega arith
fold-grows n (b ∷ bs) = let more = fold-grows (step n b) bs in omega (arith, more)

-- one digit more
pub fold_more : (n : ℕ) (w : List ℕ) (i : ℕ) → i < length w → fold step n (take (i + 1) w) ≡ step (fold step n (take i w)) (get_or w i 0)
fold_more n [] i h = absurd (omega arith)
fold_more n (b ∷ bs) zero h = refl
fold_more n (b ∷ bs) (suc i) h = rw (add-one (suc i)) (rw (add-one i) at (fold_more (step n b) bs i (omega arith)))

-- what was read is at most the whole
pub fold_within : (n : ℕ) (w : List ℕ) (i : ℕ) → fold step n (take i w) ≤ fold step n w
fold_within n [] i = simp take-nil (omega arith)
fold_within n (b ∷ bs) zero = fold-grows n (b ∷ bs)
fold_within n (b ∷ bs) (suc i) = fold_within (step n b) bs i

-- each byte of a number is a digit
pub digit_from : (w : List ℕ) (i : ℕ) → list_all is_digit w ≡ true → i < length w → 48 ≤ get_or w i 0
digit_from [] i h l = absurd (omega arith)
digit_from (b ∷ bs) zero h l = let parts = and_parts (is_digit b) (list_all is_digit bs) h in leb-true 48 b (and_parts (nat_le 48 b) (nat_le b 57) parts.0).0
digit_from (b ∷ bs) (suc i) h l = digit_from bs i (and_parts (is_digit b) (list_all is_digit bs) h).1 (omega arith)

pub digits_of_number : (w : List ℕ) → is_number w ≡ true → list_all is_digit w ≡ true
digits_of_number [] h = refl
digits_of_number (b ∷ bs) h = (and_parts (is_digit b && list_all is_digit bs) _ h).0

kept_none : (b : Bool) (v : ℕ) → 2 ^ 64 ≤ v → (if b && nat_lt v (2 ^ 64) then Some v else None) ≡ None
kept_none true v h = grind (arith, common_steps)
kept_none false v h = refl

kept_some : (b : Bool) (v : ℕ) → b ≡ true → v < 2 ^ 64 → (if b && nat_lt v (2 ^ 64) then Some v else None) ≡ Some v
kept_some b v e h = grind (arith, common_steps)

-- where one digit more doesn't fit, the whole doesn't
pub small_value-none : (w : List ℕ) (i v : ℕ) → i < length w → v ≡ value_of (take i w) → (v * 10 + (get_or w i 0 - 48) < 2 ^ 64 → ⊥) → small_value w ≡ None
small_value-none w i v l e h =
    let more : value_of (take (i + 1) w) ≡ step (value_of (take i w)) (get_or w i 0) = fold_more 0 w i l in
    let within : value_of (take (i + 1) w) ≤ value_of w = fold_within 0 w (i + 1) in
    let large : 2 ^ 64 ≤ step v (get_or w i 0) = omega arith in
    kept_none (is_number w) (value_of w) (omega (arith, ap (λ n. step n (get_or w i 0)) e))

pub small_value-some : (w : List ℕ) (i v : ℕ) → is_number w ≡ true → length w ≤ i → v ≡ value_of (take i w) → v < 2 ^ 64 → Some v ≡ small_value w
small_value-some w i v h l e fits =
    let whole : v ≡ value_of w = e ∙ ap value_of (take_all i w l) in
    rw whole (sym (kept_some (is_number w) (value_of w) h (rw whole at fits)))
