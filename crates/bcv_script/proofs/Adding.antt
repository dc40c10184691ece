-- Bytes that are added to others, a piece at a time.
use Rattle.std.proofs.Common.{◌≡◌, ℕ, zero, suc, ◌+◌, ◌/◌, ◌%◌, ◌^◌, ◌<◌, ◌≤◌, ◌≢◌, List, [], ◌∷◌, ◌++◌, length, length-append, take, get_or, refl, sym, ap, ◌∙◌, arith, append_assoc, append-nil, add-one}
use Rattle.std.specs.List.{flat_map}
use Rattle.std.specs.Fmt.{decimal}
use Rattle.std.proofs.lemmas.Fmt.{decimal_digit, decimal_step}
use Rattle.std.proofs.lemmas.Grind.{common_steps}
use Rattle.bcv_base.specs.Names.{hex_of, hex_digit}
use Rattle.bcv_model.specs.ReplyText.{trimmed, before_trimmed}

-- ---- one after another

front_of : (old t : List ℕ) → take (length old) (old ++ t) ≡ old
front_of [] t = refl
front_of (x ∷ old) t = ap (λ xs. x ∷ xs) (front_of old t)

front_through : (n m : ℕ) (xs : List ℕ) → n ≤ m → take n (take m xs) ≡ take n xs
front_through zero m xs h = refl
front_through (suc n) zero xs h = absurd (omega arith)
front_through (suc n) (suc m) [] h = refl
front_through (suc n) (suc m) (x ∷ xs) h = ap (λ ys. x ∷ ys) (front_through n m xs (omega arith))

-- what begins with more than the old bytes begins with the old bytes
pub front_kept : (old t mid new : List ℕ) → mid ≡ old ++ t → take (length mid) new ≡ mid → take (length old) new ≡ old
front_kept old t mid new e h =
    let longer : length old ≤ length mid = omega (arith, ap length e, length-append old t) in
    sym (front_through (length old) (length mid) new longer) ∙ (rw (h, e) (front_of old t))

pub onto_more : (old a b mid new : List ℕ) → mid ≡ old ++ a → new ≡ mid ++ b → new ≡ old ++ (a ++ b)
onto_more old a b mid new e h = rw (h, e) (append_assoc old a b)

-- ---- one element more

flat_map_next : {A : Type 0} (f : A → List ℕ) (xs : List A) (i : ℕ) (x : A) → i < length xs → x ≡ get_or xs i x → flat_map f (take (suc i) xs) ≡ flat_map f (take i xs) ++ f x
flat_map_next f [] i x h e = absurd (omega arith)
flat_map_next f (y ∷ ys) zero x h e = append-nil (f y) ∙ ap f (sym e)
flat_map_next f (y ∷ ys) (suc i) x h e = rw (flat_map_next f ys i x (omega arith) e) (sym (append_assoc (f y) (flat_map f (take i ys)) (f x)))

pub flat_map_more : {A : Type 0} (f : A → List ℕ) (xs : List A) (i : ℕ) (x : A) → i < length xs → x ≡ get_or xs i x → flat_map f (take (i + 1) xs) ≡ flat_map f (take i xs) ++ f x
flat_map_more f xs i x h e = rw (add-one i) (flat_map_next f xs i x h e)

hex_next : (xs : List ℕ) (i : ℕ) → i < length xs → hex_of (take (suc i) xs) ≡ hex_of (take i xs) ++ (hex_digit (get_or xs i 0 / 16) ∷ hex_digit (get_or xs i 0 % 16) ∷ [])
hex_next [] i h = absurd (omega arith)
hex_next (y ∷ ys) zero h = refl
hex_next (y ∷ ys) (suc i) h = rw (hex_next ys i (omega arith)) refl

pub hex_more : (xs : List ℕ) (i : ℕ) → i < length xs → hex_of (take (i + 1) xs) ≡ hex_of (take i xs) ++ (hex_digit (get_or xs i 0 / 16) ∷ hex_digit (get_or xs i 0 % 16) ∷ [])
hex_more xs i h = rw (add-one i) (hex_next xs i h)

-- the loops' steps: what one element more adds
pub map_onto : {A : Type 0} (f : A → List ℕ) (xs : List A) (i : ℕ) (x : A) (old mid new : List ℕ) → i < length xs → x ≡ get_or xs i x
    → mid ≡ old ++ flat_map f (take i xs) → new ≡ mid ++ f x → new ≡ old ++ flat_map f (take (i + 1) xs)
map_onto f xs i x old mid new h e m n = rw (flat_map_more f xs i x h e) (onto_more old (flat_map f (take i xs)) (f x) mid new m n)

pub hex_onto : (xs : List ℕ) (i : ℕ) (old mid new : List ℕ) → i < length xs → mid ≡ old ++ hex_of (take i xs)
    → new ≡ mid ++ (hex_digit (get_or xs i 0 / 16) ∷ hex_digit (get_or xs i 0 % 16) ∷ []) → new ≡ old ++ hex_of (take (i + 1) xs)
hex_onto xs i old mid new h m n = rw (hex_more xs i h) (onto_more old (hex_of (take i xs)) _ mid new m n)

-- ---- digits

pub digit_only : (n : ℕ) → n < 10 → decimal n ≡ (48 + n % 10) ∷ []
digit_only n h = let same : n % 10 ≡ n = omega arith in rw same (decimal_digit n h)

pub digit_more : (n : ℕ) → 10 ≤ n → n < 2 ^ 64 → decimal n ≡ decimal (n / 10) ++ ((48 + n % 10) ∷ [])
digit_more n h l = decimal_step n h l

pub number_onto : (n : ℕ) (old mid new : List ℕ) → 10 ≤ n → n < 2 ^ 64 → mid ≡ old ++ decimal (n / 10) → new ≡ mid ++ (48 + n % 10) ∷ [] → new ≡ old ++ decimal n
number_onto n old mid new h l m e = rw (digit_more n h l) (onto_more old (decimal (n / 10)) ((48 + n % 10) ∷ []) mid new m e)

-- ---- zeros at the end

pub trimmed_zero : (front : List ℕ) (b : ℕ) → b ≡ 0 → trimmed (front ++ b ∷ []) ≡ trimmed front
trimmed_zero [] b e = rw e refl
trimmed_zero (x ∷ front) b e = ap (before_trimmed x) (trimmed_zero front b e)

kept_before : (x : ℕ) (front : List ℕ) (b : ℕ) → before_trimmed x (front ++ b ∷ []) ≡ x ∷ (front ++ b ∷ [])
kept_before x [] b = refl
kept_before x (y ∷ front) b = refl

pub trimmed_other : (front : List ℕ) (b : ℕ) → b ≢ 0 → trimmed (front ++ b ∷ []) ≡ front ++ b ∷ []
trimmed_other [] b e = grind (arith, common_steps)
trimmed_other (x ∷ front) b e = ap (before_trimmed x) (trimmed_other front b e) ∙ kept_before x front b
