-- The single fields as readers.
use Rattle.std.proofs.Common.{◌≡◌, ℕ, zero, suc, ◌-◌, ◌%◌, ◌^◌, ◌<◌, ◌≤◌, Bool, true, false, cond, ltb, leb, List, [], ◌∷◌, ◌++◌, length, get_or, take, drop, replicate, Ok, Err, refl, sym, ap, subst, ◌∙◌, arith, inl, inr}
use Rattle.std.specs.Prelude.{◌&&◌}
use Rattle.std.specs.Int.{Width, w32, w64, byte_len, from_be_bytes, to_be_bytes}
use Rattle.std.specs.List.{list_all}
use Rattle.std.proofs.lemmas.Bool.{cases_lt, ltb-false, ltb-true, le-ltb, lt-ltb, le-leb, leb-true, and_parts, and_from}
use Rattle.std.proofs.lemmas.List.Folds.{list_all-append}
use Rattle.std.proofs.lemmas.List.{take_at, drop_at, take-append-drop, length-append, length-take, length-replicate, get_or_past, get_or-take}
use Rattle.std.proofs.lemmas.Nat.{be_bytes_4, be_bytes_8, from_be_bytes-to_be_bytes_4, from_be_bytes-to_be_bytes_8}
use Rattle.bcv_base.specs.Names.{is_name, is_name_byte}
use Rattle.bcv_proto.specs.declared.stop.Stop.{Stop}
use Rattle.bcv_proto.specs.declared.stop.Stop.TheVariants.{Cut, Bad}
use Rattle.bcv_proto.specs.Fields.{Read, ◌>>=◌, bytes_at, number_at, bounded_at, within, least, name_at, named, is_name_front}
use Rattle.bcv_proto.proofs.Readers.{IsBytes, GoesOn, IsReader, bind_ok, ok_is}

-- ---- steps

guard_ok : {A : Type 0} (b : Bool) (s : Stop) (r : Read A) (y : A × List ℕ) → cond b (Err s) r ≡ Ok y → (b ≡ false) × (r ≡ Ok y)
guard_ok true s r y e = absurd cc
guard_ok false s r y e = (refl, e)

pub rule_ok : {A : Type 0} (b : Bool) (s : Stop) (x y : A × List ℕ) → cond b (Ok x) (Err s) ≡ Ok y → (b ≡ true) × (x ≡ y)
rule_ok true s x y e = (refl, cc)
rule_ok false s x y e = absurd cc

abbrev pub bad : {A : Type 0} → Read A
bad = Err Bad

abbrev pub cut : {A : Type 0} → Read A
cut = Err Cut

pub bad_is_no_cut : {A : Type 0} → bad {A = A} ≡ cut → ⊥
bad_is_no_cut e = cc

-- ---- bytes

IsBytes-both : (a b : List ℕ) → IsBytes a → IsBytes b → IsBytes (a ++ b)
IsBytes-both [] b h k i = k i
IsBytes-both (x ∷ a) b h k zero = h 0
IsBytes-both (x ∷ a) b h k (suc i) = IsBytes-both a b (λ j. h (suc j)) k i

IsBytes-zeros : (n : ℕ) → IsBytes (replicate n 0)
IsBytes-zeros zero i = omega arith
IsBytes-zeros (suc n) zero = omega arith
IsBytes-zeros (suc n) (suc i) = IsBytes-zeros n i

IsBytes-take : (n : ℕ) (bytes : List ℕ) → IsBytes bytes → IsBytes (take n bytes)
IsBytes-take n bytes h i =
    elim (cases_lt i n) [
      | inl lt ↦ rw (get_or-take n bytes i 0 lt) (h i)
      | inr le ↦ rw (get_or_past (take n bytes) i 0 (omega (arith, length-take n bytes))) (omega arith)
    ]

bytes_take : (n : ℕ) (bytes : List ℕ) (x : List ℕ × List ℕ) → IsBytes bytes → bytes_at n bytes ≡ Ok x → (bytes ≡ x.0 ++ x.1) × (length x.0 ≡ n) × IsBytes x.0
bytes_take n bytes x fits e =
    let g = guard_ok (ltb (length bytes) n) Cut (Ok (take n bytes, drop n bytes)) x e in
    let long : n ≤ length bytes = ltb-false _ _ g.0 in
    let pair : List ℕ × List ℕ = (take n bytes, drop n bytes) in
    subst (λ (y : List ℕ × List ℕ). (bytes ≡ y.0 ++ y.1) × (length y.0 ≡ n) × IsBytes y.0) (ok_is pair x g.1)
    (sym (take-append-drop n bytes), omega (arith, length-take n bytes), IsBytes-take n bytes fits)

bytes_again : (n : ℕ) (text rest : List ℕ) → length text ≡ n → bytes_at n (text ++ rest) ≡ Ok (text, rest)
bytes_again n text rest len =
    let long : ltb (length (text ++ rest)) n ≡ false = le-ltb _ _ (omega (arith, length-append text rest)) in
    rw (long, take_at text rest n len, drop_at text rest n len) refl

bytes_cut : (n : ℕ) (bytes : List ℕ) → length bytes < n → bytes_at n bytes ≡ Err Cut
bytes_cut n bytes short = ap (λ (b : Bool). cond b (Err Cut) (Ok (take n bytes, drop n bytes))) (lt-ltb _ _ short)

was_short : (n : ℕ) (bytes : List ℕ) → bytes_at n bytes ≡ Err Cut → length bytes < n
was_short n bytes e = ltb-true _ _ (cut_short (ltb (length bytes) n) (take n bytes, drop n bytes) e)
  where
    cut_short : (b : Bool) (x : List ℕ × List ℕ) → cond b (Err Cut) (Ok x) ≡ Err Cut → b ≡ true
    cut_short true x e = refl
    cut_short false x e = absurd cc

-- ---- numbers

-- the numbers of a width below a limit
pub record IsWide (w : Width) (limit : ℕ) : Type 0 where
  pub len : (n : ℕ) → length (to_be_bytes w n) ≡ byte_len w
  pub back : (bytes : List ℕ) → length bytes ≡ byte_len w → IsBytes bytes → to_be_bytes w (from_be_bytes w bytes) ≡ bytes
  pub again : (n : ℕ) → n < limit → from_be_bytes w (to_be_bytes w n) ≡ n
  pub below : (bytes : List ℕ) → IsBytes bytes → from_be_bytes w bytes < limit

pub wide32 : IsWide w32 (2 ^ 32)
wide32 = record {
  len = λ n. refl;
  back = λ bytes len fits. be_bytes_4 bytes _ len fits refl;
  again = λ n lt. from_be_bytes-to_be_bytes_4 n lt;
  below = λ bytes fits. omega (arith, fits 0, fits 1, fits 2, fits 3);
}

pub wide64 : IsWide w64 (2 ^ 64)
wide64 = record {
  len = λ n. refl;
  back = λ bytes len fits. be_bytes_8 bytes _ len fits refl;
  again = λ n lt. from_be_bytes-to_be_bytes_8 n lt;
  below = λ bytes fits. omega (arith, fits 0, fits 1, fits 2, fits 3, fits 4, fits 5, fits 6, fits 7);
}

pub number_reader : {w : Width} {limit : ℕ} → IsWide w limit → IsReader (number_at w) (to_be_bytes w) (λ n. n < limit)
number_reader {w = w} {limit = limit} wide = record {
  takes = λ bytes x fits e.
      let b = bind_ok (bytes_at (byte_len w) bytes) (λ field. Ok (from_be_bytes w field.0, field.1)) x e in
      let t = bytes_take (byte_len w) bytes b.0 fits b.1 in
      let spelled : bytes ≡ to_be_bytes w (from_be_bytes w b.0.0) ++ b.0.1 = t.0 ∙ ap (λ (k : List ℕ). k ++ b.0.1) (sym (wide.back b.0.0 t.1 t.2)) in
      let pair : ℕ × List ℕ = (from_be_bytes w b.0.0, b.0.1) in
      subst (λ (y : ℕ × List ℕ). (bytes ≡ to_be_bytes w y.0 ++ y.1) × (y.0 < limit)) (ok_is pair x b.2) (spelled, wide.below b.0.0 t.2);
  again = λ n rest lt.
      ap (λ (z : Read (List ℕ)). z >>= λ field. Ok (from_be_bytes w field.0, field.1)) (bytes_again (byte_len w) (to_be_bytes w n) rest (wide.len n))
      ∙ ap (λ (k : ℕ). Ok (k, rest)) (wide.again n lt);
  cut = λ bytes fits e. number_cut bytes fits (was_short (byte_len w) bytes (step_cut (bytes_at (byte_len w) bytes) e));
  short = λ n bytes more lt is some.
      let less : length bytes < byte_len w = omega (arith, length-append bytes more, ap length is, wide.len n) in
      ap (λ (z : Read (List ℕ)). z >>= λ field. Ok (from_be_bytes w field.0, field.1)) (bytes_cut (byte_len w) bytes less);
}
  where
    step_cut : (r : Read (List ℕ)) → (r >>= λ field. Ok (from_be_bytes w field.0, field.1)) ≡ Err Cut → r ≡ Err Cut
    step_cut (Ok x) e = absurd cc
    step_cut (Err s) e = let same : s ≡ Cut = cc in ap (λ (z : Stop). Err z) same

    number_cut : (bytes : List ℕ) → IsBytes bytes → length bytes < byte_len w → GoesOn (to_be_bytes w) (λ n. n < limit) bytes
    number_cut bytes fits less =
        let zeros : List ℕ = replicate (byte_len w - length bytes) 0 in
        let all : List ℕ = bytes ++ zeros in
        let are : IsBytes all = IsBytes-both bytes zeros fits (IsBytes-zeros (byte_len w - length bytes)) in
        let long : length zeros ≡ byte_len w - length bytes = length-replicate (byte_len w - length bytes) 0 in
        let len : length all ≡ byte_len w = omega (arith, length-append bytes zeros) in
        record { to = from_be_bytes w all; meets = wide.below all are; more = zeros; is = sym (wide.back all len are); some = omega arith }

-- ---- numbers within bounds

zeros_are : (n i : ℕ) → ◌≡◌ {A = ℕ} (get_or (replicate n 0) i 0) 0
zeros_are zero i = refl
zeros_are (suc n) zero = refl
zeros_are (suc n) (suc i) = zeros_are n i

-- each byte of a front with zeros behind it is at most the one of the front with others behind it
front_below : (bytes more : List ℕ) (n i : ℕ) → get_or (bytes ++ replicate n 0) i 0 ≤ get_or (bytes ++ more) i 0
front_below [] more n i = omega (arith, zeros_are n i)
front_below (b ∷ bytes) more n zero = omega arith
front_below (b ∷ bytes) more n (suc i) = front_below bytes more n i

outer_ok : {A : Type 0} (b c : Bool) (r : Read A) (y : A × List ℕ) → cond b (cond c (Err Cut) (Err Bad)) r ≡ Ok y → (b ≡ false) × (r ≡ Ok y)
outer_ok true true r y e = absurd cc
outer_ok true false r y e = absurd cc
outer_ok false c r y e = (refl, e)

outer_cut : {A : Type 0} (b c d : Bool) (x : A × List ℕ) → cond b (cond c (Err Cut) (Err Bad)) (cond d (Ok x) (Err Bad)) ≡ Err Cut → (b ≡ true) × (c ≡ true)
outer_cut true true d x e = (refl, refl)
outer_cut true false d x e = absurd (bad_is_no_cut e)
outer_cut false c true x e = absurd cc
outer_cut false c false x e = absurd (bad_is_no_cut e)

IsBytes-one : (b : ℕ) → b < 256 → IsBytes (b ∷ [])
IsBytes-one b lt zero = lt
IsBytes-one b lt (suc i) = omega arith

-- zeros, and a number in the last byte
abbrev last_byte : ℕ → ℕ → List ℕ
last_byte n low = replicate n 0 ++ (low ∷ [])

IsBytes-last : (n low : ℕ) → low < 256 → IsBytes (last_byte n low)
IsBytes-last n low lt = IsBytes-both (replicate n 0) (low ∷ []) (IsBytes-zeros n) (IsBytes-one low lt)

abbrev pub IsBounded : ℕ → ℕ → ℕ → Type 0
IsBounded low most n = (low ≤ n) × (n ≤ most)

module _ (low most : ℕ) (low_fits : low ≤ most % 256) (small : most < 2 ^ 32) where
  made : (bytes more : List ℕ) → IsBytes (bytes ++ more) → length (bytes ++ more) ≡ 4 → 0 < length more
      → low ≤ from_be_bytes w32 (bytes ++ more) → from_be_bytes w32 (bytes ++ more) ≤ most → GoesOn (to_be_bytes w32) (IsBounded low most) bytes
  made bytes more are len some above under = record {
    to = from_be_bytes w32 (bytes ++ more);
    meets = (above, under);
    more = more;
    is = sym (wide32.back (bytes ++ more) len are);
    some = some;
  }

  front_cut : (bytes : List ℕ) → IsBytes bytes → length bytes < 4 → least bytes ≤ most → GoesOn (to_be_bytes w32) (IsBounded low most) bytes
  front_cut bytes fits less under =
      let byte : low < 256 = omega arith in
      let more : List ℕ = last_byte (3 - length bytes) low in
      cut_at bytes (IsBytes-both bytes more fits (IsBytes-last (3 - length bytes) low byte)) less under
    where
      cut_at : (bytes : List ℕ) → IsBytes (bytes ++ last_byte (3 - length bytes) low) → length bytes < 4 → least bytes ≤ most → GoesOn (to_be_bytes w32) (IsBounded low most) bytes
      cut_at [] are less under = made [] (last_byte 3 low) are refl (omega arith) (omega arith) (omega arith)
      cut_at (a ∷ []) are less under = made (a ∷ []) (last_byte 2 low) are refl (omega arith) (omega arith) (omega arith)
      cut_at (a ∷ b ∷ []) are less under = made (a ∷ b ∷ []) (last_byte 1 low) are refl (omega arith) (omega arith) (omega arith)
      cut_at (a ∷ b ∷ c ∷ []) are less under = made (a ∷ b ∷ c ∷ []) (last_byte 0 low) are refl (omega arith) (omega arith) (omega arith)
      cut_at (a ∷ b ∷ c ∷ d ∷ bytes) are less under = absurd (omega arith)

  bounded_takes : (bytes : List ℕ) (x : ℕ × List ℕ) → IsBytes bytes → bounded_at low most bytes ≡ Ok x → (bytes ≡ to_be_bytes w32 x.0 ++ x.1) × IsBounded low most x.0
  bounded_takes bytes x fits e =
      let n : ℕ = from_be_bytes w32 (take 4 bytes) in
      let pair : ℕ × List ℕ = (n, drop 4 bytes) in
      let g = outer_ok (ltb (length bytes) 4) (leb (least bytes) most) (within low most n (drop 4 bytes)) x e in
      let k = rule_ok (leb low n && leb n most) Bad pair x g.1 in
      let bounds = and_parts (leb low n) (leb n most) k.0 in
      let long : 4 ≤ length bytes = ltb-false _ _ g.0 in
      let len : length (take 4 bytes) ≡ 4 = omega (arith, length-take 4 bytes) in
      let back : to_be_bytes w32 n ≡ take 4 bytes = wide32.back (take 4 bytes) len (IsBytes-take 4 bytes fits) in
      subst (λ (y : ℕ × List ℕ). (bytes ≡ to_be_bytes w32 y.0 ++ y.1) × IsBounded low most y.0) k.1
      (sym (take-append-drop 4 bytes) ∙ ap (λ (s : List ℕ). s ++ drop 4 bytes) (sym back), (leb-true _ _ bounds.0, leb-true _ _ bounds.1))

  bounded_again : (n : ℕ) (rest : List ℕ) → IsBounded low most n → bounded_at low most (to_be_bytes w32 n ++ rest) ≡ Ok (n, rest)
  bounded_again n rest h =
      let text : List ℕ = to_be_bytes w32 n in
      let bytes : List ℕ = text ++ rest in
      let long : ltb (length bytes) 4 ≡ false = le-ltb _ _ (omega arith) in
      let is : from_be_bytes w32 text ≡ n = wide32.again n (omega arith) in
      ap (λ (b : Bool). cond b (cond (leb (least bytes) most) (Err Cut) (Err Bad)) (within low most (from_be_bytes w32 (take 4 bytes)) (drop 4 bytes))) long
      ∙ ap (λ (k : ℕ). within low most k rest) is
      ∙ ap (λ (b : Bool). cond b (Ok (n, rest)) (Err Bad)) (and_from (leb low n) (leb n most) (le-leb _ _ h.0) (le-leb _ _ h.1))

  bounded_short : (n : ℕ) (bytes more : List ℕ) → IsBounded low most n → bytes ++ more ≡ to_be_bytes w32 n → 0 < length more → bounded_at low most bytes ≡ Err Cut
  bounded_short n bytes more h is some =
      let len : length (to_be_bytes w32 n) ≡ 4 = refl in
      let less : length bytes < 4 = omega (arith, length-append bytes more, ap length is) in
      let whole : from_be_bytes w32 (bytes ++ more) ≡ n = ap (from_be_bytes w32) is ∙ wide32.again n (omega arith) in
      let zeros : ℕ = 4 - length bytes in
      let under : least bytes ≤ most = omega (arith, h, whole, front_below bytes more zeros 0, front_below bytes more zeros 1, front_below bytes more zeros 2, front_below bytes more zeros 3) in
      ap (λ (b : Bool). cond b (cond (leb (least bytes) most) (Err Cut) (Err Bad)) (within low most (from_be_bytes w32 (take 4 bytes)) (drop 4 bytes))) (lt-ltb _ _ less)
      ∙ ap (λ (b : Bool). cond b (Err Cut) (Err Bad)) (le-leb _ _ under)

  pub bounded_reader : IsReader (bounded_at low most) (to_be_bytes w32) (IsBounded low most)
  bounded_reader = record {
    takes = bounded_takes;
    again = bounded_again;
    cut = λ bytes fits e.
        let n : ℕ = from_be_bytes w32 (take 4 bytes) in
        let c = outer_cut (ltb (length bytes) 4) (leb (least bytes) most) (leb low n && leb n most) (n, drop 4 bytes) e in
        front_cut bytes fits (ltb-true _ _ c.0) (leb-true _ _ c.1);
    short = bounded_short;
  }

-- ---- names

pub letters_are : (n : ℕ) → list_all is_name_byte (replicate n 97) ≡ true
letters_are zero = refl
letters_are (suc n) = letters_are n

front_letters : (bytes : List ℕ) → is_name_front bytes ≡ true → list_all is_name_byte bytes ≡ true
front_letters [] h = refl
front_letters (b ∷ bs) h = (and_parts (leb 1 (length (b ∷ bs)) && leb (length (b ∷ bs)) 64) (list_all is_name_byte (b ∷ bs)) h).1

pub name_from : (bytes : List ℕ) → 1 ≤ length bytes → length bytes ≤ 64 → list_all is_name_byte bytes ≡ true → is_name bytes ≡ true
name_from bytes least most letters =
    and_from (leb 1 (length bytes) && leb (length bytes) 64) (list_all is_name_byte bytes) (and_from (leb 1 (length bytes)) (leb (length bytes) 64) (le-leb _ _ least) (le-leb _ _ most)) letters

name_letters : (bytes : List ℕ) → is_name bytes ≡ true → list_all is_name_byte bytes ≡ true
name_letters bytes h = (and_parts (leb 1 (length bytes) && leb (length bytes) 64) (list_all is_name_byte bytes) h).1

pub name_length : (bytes : List ℕ) → is_name bytes ≡ true → (1 ≤ length bytes) × (length bytes ≤ 64)
name_length bytes h =
    let sizes = and_parts (leb 1 (length bytes) && leb (length bytes) 64) (list_all is_name_byte bytes) h in
    let both = and_parts (leb 1 (length bytes)) (leb (length bytes) 64) sizes.0 in
    (leb-true _ _ both.0, leb-true _ _ both.1)

front_of_name : (bytes more : List ℕ) → length (bytes ++ more) ≤ 64 → is_name (bytes ++ more) ≡ true → is_name_front bytes ≡ true
front_of_name [] more few h = refl
front_of_name (b ∷ bs) more few h =
    let letters = name_letters (b ∷ bs ++ more) h in
    let front = and_parts (list_all is_name_byte (b ∷ bs)) (list_all is_name_byte more) (sym (list_all-append is_name_byte (b ∷ bs) more) ∙ letters) in
    name_from (b ∷ bs) (omega arith) (omega (arith, length-append bs more)) front.0

abbrev pub IsNameOf : ℕ → List ℕ → Type 0
IsNameOf n k = (length k ≡ n) × (is_name k ≡ true)

pub name_reader : (n : ℕ) → 1 ≤ n → n ≤ 64 → IsReader (name_at n) (λ k. k) (IsNameOf n)
name_reader n least most = record {
  takes = λ bytes x fits e.
      let pair : List ℕ × List ℕ = (take n bytes, drop n bytes) in
      let g = outer_ok (ltb (length bytes) n) (is_name_front bytes) (named (take n bytes) (drop n bytes)) x e in
      let k = rule_ok (is_name (take n bytes)) Bad pair x g.1 in
      let long : n ≤ length bytes = ltb-false _ _ g.0 in
      subst (λ (y : List ℕ × List ℕ). (bytes ≡ y.0 ++ y.1) × IsNameOf n y.0) k.1
      (sym (take-append-drop n bytes), (omega (arith, length-take n bytes), k.0));
  again = λ text rest h.
      let bytes : List ℕ = text ++ rest in
      let long : ltb (length bytes) n ≡ false = le-ltb _ _ (omega (arith, length-append text rest, h.0)) in
      ap (λ (b : Bool). cond b (cond (is_name_front bytes) (Err Cut) (Err Bad)) (named (take n bytes) (drop n bytes))) long
      ∙ ap (λ (s : List ℕ). named s (drop n bytes)) (take_at text rest n h.0)
      ∙ ap (λ (s : List ℕ). named text s) (drop_at text rest n h.0)
      ∙ ap (λ (b : Bool). cond b (Ok (text, rest)) (Err Bad)) h.1;
  cut = λ bytes fits e.
      let c = outer_cut (ltb (length bytes) n) (is_name_front bytes) (is_name (take n bytes)) (take n bytes, drop n bytes) e in
      name_cut bytes (ltb-true _ _ c.0) c.1;
  short = λ k bytes more h is some.
      let less : length bytes < n = omega (arith, length-append bytes more, ap length is, h.0) in
      let front : is_name_front bytes ≡ true = front_of_name bytes more (omega (arith, ap length is, h.0)) (ap is_name is ∙ h.1) in
      ap (λ (b : Bool). cond b (cond (is_name_front bytes) (Err Cut) (Err Bad)) (named (take n bytes) (drop n bytes))) (lt-ltb _ _ less)
      ∙ ap (λ (b : Bool). cond b (Err Cut) (Err Bad)) front;
}
  where
    name_cut : (bytes : List ℕ) → length bytes < n → is_name_front bytes ≡ true → GoesOn (λ (k : List ℕ). k) (IsNameOf n) bytes
    name_cut bytes less front =
        let more : List ℕ = replicate (n - length bytes) 97 in
        let many : length more ≡ n - length bytes = length-replicate (n - length bytes) 97 in
        let len : length (bytes ++ more) ≡ n = omega (arith, length-append bytes more) in
        let letters : list_all is_name_byte (bytes ++ more) ≡ true =
        list_all-append is_name_byte bytes more ∙ and_from (list_all is_name_byte bytes) (list_all is_name_byte more) (front_letters bytes front) (letters_are (n - length bytes)) in
        record { to = bytes ++ more; meets = (len, name_from (bytes ++ more) (omega arith) (omega arith) letters); more = more; is = refl; some = omega arith }
