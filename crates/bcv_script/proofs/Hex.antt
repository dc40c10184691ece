-- The bytes of hex digits, by the words of the crate `hex`.
use Rattle.std.proofs.Common.{◌≡◌, ℕ, ◌+◌, ◌*◌, ◌/◌, ◌%◌, ◌≤◌, Bool, true, false, ◌&&◌, List, [], ◌∷◌, length, Option, Some, None, Result, Ok, Err, refl, sym, ◌∙◌, arith, eq-eqb}
use Rattle.std.specs.Prelude.{nat_le, ◌==◌, if◌then◌else◌, option_and_then, codes, MatchOption, MatchResult}
use Rattle.std.specs.Str.{bytes_eq}
use Rattle.std.specs.List.{list_all}
use Rattle.std.specs.Result.{result_ok}
use Rattle.std.proofs.lemmas.Bool.{and_parts, eqb-true}
use Rattle.std.proofs.lemmas.Grind.{common_steps}
use Rattle.hex.specs.declared.error.FromHexError.{FromHexError}
use Rattle.hex.specs.Hex.{◌>>=◌, decode_pairs, decode_sized, hex_digit_value, digit_or_error}
use Rattle.bcv_model.specs.Words.{given, hex_value, unhexed, bytes_of_text}
use Rattle.bcv_script.specs.Digits.{is_lower_hex}

-- the bytes, where they are at least one and at most a page
abbrev fits : ℕ → List ℕ → Option (List ℕ)
fits n bs = given (nat_le 1 (length bs) && nat_le (length bs) n) bs

-- ---- one digit

-- the crate gives a lower case digit the definition's value
same_value : (c : ℕ) → is_lower_hex c ≡ true → hex_digit_value c ≡ hex_value c
same_value c h = grind (arith, common_steps)

-- every other byte has none
no_value : (c : ℕ) → is_lower_hex c ≡ false → hex_value c ≡ None
no_value c h = grind (arith, common_steps)

-- ---- a pair of digits and the bytes after it

abbrev pair : Option ℕ → Option ℕ → Option (List ℕ) → Option (List ℕ)
pair high low rest = option_and_then (λ h. option_and_then (λ l. option_and_then (λ bs. Some ((16 * h + l) ∷ bs)) rest) low) high

swapped : (h l : ℕ) (bs : List ℕ) → ◌≡◌ {A = Option (List ℕ)} (Some ((16 * h + l) ∷ bs)) (Some ((h * 16 + l) ∷ bs))
swapped h l bs = let e : 16 * h + l ≡ h * 16 + l = omega arith in rw e refl

same_pair : (a b i : ℕ) (high low : Option ℕ) (r : Result (List ℕ) FromHexError)
    → pair high low (result_ok r) ≡ result_ok ((digit_or_error a i high >>= λ h. digit_or_error b (i + 1) low >>= λ l. Ok (h * 16 + l)) >>= λ byte. r >>= λ bytes. Ok (byte ∷ bytes))
same_pair a b i None low r = refl
same_pair a b i (Some h) None r = refl
same_pair a b i (Some h) (Some l) (Ok bs) = swapped h l bs
same_pair a b i (Some h) (Some l) (Err e) = refl

pair_none : (x y z : Bool) (high low : Option ℕ) (rest : Option (List ℕ)) → (x && (y && z)) ≡ false
    → (x ≡ false → high ≡ None) → (y ≡ false → low ≡ None) → (z ≡ false → rest ≡ None) → pair high low rest ≡ None
pair_none x y z None low rest e p q s = refl
pair_none x y z (Some h) None rest e p q s = refl
pair_none x y z (Some h) (Some l) None e p q s = refl
pair_none false y z (Some h) (Some l) (Some bs) e p q s = let f = p refl in cc
pair_none true false z (Some h) (Some l) (Some bs) e p q s = let f = q refl in cc
pair_none true true false (Some h) (Some l) (Some bs) e p q s = let f = s refl in cc
pair_none true true true (Some h) (Some l) (Some bs) e p q s = cc

pair_length : (high low : Option ℕ) (rest : Option (List ℕ)) (n : ℕ) (bs : List ℕ) → pair high low rest ≡ Some bs
    → ((more : List ℕ) → rest ≡ Some more → n ≡ 2 * length more) → n + 2 ≡ 2 * length bs
pair_length None low rest n bs e h = cc
pair_length (Some x) None rest n bs e h = cc
pair_length (Some x) (Some y) None n bs e h = cc
pair_length (Some x) (Some y) (Some more) n bs e h =
    let f = h more refl in
    let same : (16 * x + y) ∷ more ≡ bs = cc in
    rw (← same) (omega (arith, f))

-- ---- a word

unhexed-lower : (i : ℕ) (w : List ℕ) → list_all is_lower_hex w ≡ true → unhexed w ≡ result_ok (decode_pairs i w)
unfolding decode_pairs
unhexed-lower i [] h = refl
unhexed-lower i (a ∷ []) h = refl
unhexed-lower i (a ∷ b ∷ rest) h =
    let front = and_parts (is_lower_hex a) (list_all is_lower_hex (b ∷ rest)) h in
    let next = and_parts (is_lower_hex b) (list_all is_lower_hex rest) front.1 in
    rw (same_value a front.0, same_value b next.0, unhexed-lower (i + 2) rest next.1)
    (same_pair a b i (hex_value a) (hex_value b) (decode_pairs (i + 2) rest))

pub unhexed-other : (w : List ℕ) → list_all is_lower_hex w ≡ false → unhexed w ≡ None
unhexed-other [] h = cc
unhexed-other (a ∷ []) h = refl
unhexed-other (a ∷ b ∷ rest) h =
    pair_none (is_lower_hex a) (is_lower_hex b) (list_all is_lower_hex rest) (hex_value a) (hex_value b) (unhexed rest) h (no_value a) (no_value b) (unhexed-other rest)

unhexed-length : (w bs : List ℕ) → unhexed w ≡ Some bs → length w ≡ 2 * length bs
unhexed-length [] bs h = let same : [] ≡ bs = cc in rw (← same) refl
unhexed-length (a ∷ []) bs h = cc
unhexed-length (a ∷ b ∷ rest) bs h =
    let two = pair_length (hex_value a) (hex_value b) (unhexed rest) (length rest) bs h (unhexed-length rest) in omega (arith, two)

odd_none : (w : List ℕ) (o : Option (List ℕ)) → length w % 2 ≡ 1 → ((bs : List ℕ) → o ≡ Some bs → length w ≡ 2 * length bs) → o ≡ None
odd_none w None odd h = refl
odd_none w (Some bs) odd h = let e = h bs refl in absurd (omega (arith, e))

-- what the crate decodes is what the definition gives
unhexed-sized : (w : List ℕ) (n : ℕ) → n ≡ length w / 2 → list_all is_lower_hex w ≡ true → unhexed w ≡ result_ok (decode_sized w n)
unhexed-sized w n e h =
    let P : Bool → Type 0 = λ odd. (length w % 2 == 1) ≡ odd → unhexed w ≡ result_ok (decode_sized w n) in
    let cases : (odd : Bool) → P odd = λ odd. elim odd as P [
      | true ↦ λ odd. rw odd (odd_none w (unhexed w) (eqb-true (length w % 2) 1 odd) (unhexed-length w))
      | false ↦ λ even. rw (even, eq-eqb (length w / 2) n (sym e)) (unhexed-lower 0 w h)
    ] in
    cases (length w % 2 == 1) refl

decoded_as : (new : List ℕ) (u : Option (List ℕ)) (d : Result (List ℕ) FromHexError) (r : Result (Unit {0}) FromHexError) → u ≡ result_ok d
    → MatchResult d (λ bytes. (r ≡ Ok tt) × (new ≡ bytes)) (λ e. r ≡ Err e)
    → MatchOption (result_ok r) (u ≡ None) (λ _. u ≡ Some new)
decoded_as new u (Ok bytes) r e h = rw (h.0, h.1) e
decoded_as new u (Err f) r e h = rw h e

pub decoded : (w new : List ℕ) (n : ℕ) (r : Result (Unit {0}) FromHexError) → n ≡ length w / 2 → list_all is_lower_hex w ≡ true
    → MatchResult (decode_sized w n) (λ bytes. (r ≡ Ok tt) × (new ≡ bytes)) (λ e. r ≡ Err e)
    → MatchOption (result_ok r) (unhexed w ≡ None) (λ _. unhexed w ≡ Some new)
decoded w new n r e h m = decoded_as new (unhexed w) (decode_sized w n) r (unhexed-sized w n e h) m

-- ---- a page's text

no_text : (n : ℕ) (o : Option (List ℕ)) → ((bs : List ℕ) → o ≡ Some bs → fits n bs ≡ None) → option_and_then (λ bs. fits n bs) o ≡ None
no_text n None h = refl
no_text n (Some bs) h = h bs refl

unfit : (n : ℕ) (bs : List ℕ) → (1 ≤ length bs → length bs ≤ n → ⊥) → fits n bs ≡ None
unfit n bs h = grind (arith, common_steps)

digits_only : (n : ℕ) (w : List ℕ) → bytes_eq w (codes "-") ≡ false → bytes_of_text n w ≡ option_and_then (λ bs. fits n bs) (unhexed w)
digits_only n w e = rw e refl

-- too few digits, or too many
pub text-unfit : (n : ℕ) (w : List ℕ) → bytes_eq w (codes "-") ≡ false → (1 ≤ length w / 2 → length w / 2 ≤ n → ⊥) → bytes_of_text n w ≡ None
text-unfit n w e h =
    digits_only n w e ∙ no_text n (unhexed w) (λ bs is. let two = unhexed-length w bs is in unfit n bs (λ low high. h (omega (arith, two)) (omega (arith, two))))

pub text-other : (n : ℕ) (w : List ℕ) → bytes_eq w (codes "-") ≡ false → list_all is_lower_hex w ≡ false → bytes_of_text n w ≡ None
text-other n w e h = digits_only n w e ∙ (rw (unhexed-other w h) refl)
