-- Readers and spellings of single fields: what is read was spelled so, and what is spelled so is read.
use Rattle.std.proofs.Common.{◌≡◌, ℕ, suc, ◌+◌, ◌^◌, ◌<◌, ◌≤◌, Bool, true, false, cond, ltb, List, [], ◌∷◌, ◌++◌, length, get_or, take, drop, Result, Ok, Err, refl, sym, ap, subst, ◌∙◌, append_assoc, arith, inl, inr}
use Rattle.std.specs.Int.{Width, w8, w32, w64, byte_len, from_be_bytes, to_be_bytes}
use Rattle.std.proofs.lemmas.Bool.{cases_lt, ltb-false, le-ltb}
use Rattle.std.proofs.lemmas.List.{take_at, drop_at, take-append-drop, length-append, length-take, get_or-drop, get_or-take, get_or_past}
use Rattle.std.proofs.lemmas.Nat.{be_bytes_4, be_bytes_8, from_be_bytes-to_be_bytes_4, from_be_bytes-to_be_bytes_8}
use Rattle.bcv_base.specs.declared.id.Id16.{Id16}
use Rattle.bcv_base.specs.Ids.{IsId, are_bytes}
use Rattle.bcv_base.specs.ManifestGrammar.{Read, ◌>>=◌, bytes_at, number_at, id_at, such}
use Rattle.bcv_base.specs.ManifestText.{id_text}

-- ---- bytes

abbrev pub IsBytes : List ℕ → Type 0
IsBytes bytes = (i : ℕ) → get_or bytes i 0 < 256

IsBytes-drop : (n : ℕ) (bytes : List ℕ) → IsBytes bytes → IsBytes (drop n bytes)
IsBytes-drop n bytes h i = rw get_or-drop (h (n + i))

IsBytes-take : (n : ℕ) (bytes : List ℕ) → IsBytes bytes → IsBytes (take n bytes)
IsBytes-take n bytes h i =
    elim (cases_lt i n) [
      | inl lt ↦ rw (get_or-take n bytes i 0 lt) (h i)
      | inr le ↦ rw (get_or_past (take n bytes) i 0 (omega (arith, length-take n bytes))) (omega arith)
    ]

are_bytes_of : (bytes : List ℕ) → IsBytes bytes → are_bytes bytes ≡ true
are_bytes_of [] h = refl
are_bytes_of (b ∷ bs) h = rw (le-ltb-strict b (h 0)) (are_bytes_of bs (λ i. h (suc i)))
  where
    le-ltb-strict : (n : ℕ) → n < 256 → ltb n 256 ≡ true
    le-ltb-strict n lt = grind arith

-- ---- steps

-- the value of a step that did not fail
pub bind_ok : {A B : Type 0} (r : Result A ℕ) (f : A → Result B ℕ) (y : B) → (r >>= f) ≡ Ok y → (x : A) × (r ≡ Ok x) × (f x ≡ Ok y)
bind_ok (Ok x) f y e = (x, refl, e)
bind_ok (Err d) f y e = absurd cc

-- a test that did not fail
guard_ok : {A : Type 0} (b : Bool) (d : ℕ) (x y : A) → cond b (Err d) (Ok x) ≡ Ok y → (b ≡ false) × (x ≡ y)
guard_ok true d x y e = absurd cc
guard_ok false d x y e = (refl, cc)

-- a rule that was met
pub rule_ok : {A : Type 0} (b : Bool) (d : ℕ) (x y : A) → cond b (Ok x) (Err d) ≡ Ok y → (b ≡ true) × (x ≡ y)
rule_ok true d x y e = (refl, cc)
rule_ok false d x y e = absurd cc

abbrev done : {A : Type 0} → A → Result A ℕ
done x = Ok x

pub ok_is : {A : Type 0} (x y : A) → done x ≡ done y → x ≡ y
ok_is x y e = cc

-- what a reader took from the front
pub record Takes (bytes text rest : List ℕ) : Type 0 where
  pub parts : bytes ≡ text ++ rest
  pub rest_fits : IsBytes rest

pub Takes-then : {a x b y c : List ℕ} → Takes a x b → Takes b y c → Takes a (x ++ y) c
Takes-then {x = x} {y = y} {c = c} p q = record { parts = p.parts ∙ ap (λ (t : List ℕ). x ++ t) q.parts ∙ sym (append_assoc x y c); rest_fits = q.rest_fits }

-- a reader and a spelling of the values with a property, each the other's way back
pub record IsReader {A : Type 0} (read : List ℕ → Read A) (text : A → List ℕ) (P : A → Type 0) : Type 0 where
  pub takes : (bytes : List ℕ) (x : A × List ℕ) → IsBytes bytes → read bytes ≡ Ok x → Takes bytes (text x.0) x.1 × P x.0
  pub again : (x : A) (rest : List ℕ) → P x → read (text x ++ rest) ≡ Ok (x, rest)

-- a first reader did not fail, and what is left to read after it
pub record After {A B : Type 0} (bytes : List ℕ) (text : A → List ℕ) (P : A → Type 0) (f : A × List ℕ → Result B ℕ) (y : B) : Type 0 where
  pub x : A × List ℕ
  pub taken : Takes bytes (text x.0) x.1
  pub meets : P x.0
  pub then : f x ≡ Ok y

pub step : {A B : Type 0} {read : List ℕ → Read A} {text : A → List ℕ} {P : A → Type 0} → IsReader read text P
    → (bytes : List ℕ) (f : A × List ℕ → Result B ℕ) (y : B) → IsBytes bytes → (read bytes >>= f) ≡ Ok y → After bytes text P f y
step {read = read} r bytes f y fits e =
    let b = bind_ok (read bytes) f y e in
    let t = r.takes bytes b.0 fits b.1 in
    record { x = b.0; taken = t.0; meets = t.1; then = b.2 }

-- the same, handed on: G follows where it follows from what was taken and is read after it
pub step_to : {A B : Type 0} {read : List ℕ → Read A} {text : A → List ℕ} {P : A → Type 0} (G : Type 0) → IsReader read text P
    → (bytes : List ℕ) (f : A × List ℕ → Result B ℕ) (y : B) → IsBytes bytes → (read bytes >>= f) ≡ Ok y
    → ((x : A) (rest : List ℕ) → Takes bytes (text x) rest → P x → f (x, rest) ≡ Ok y → G) → G
step_to G r bytes f y fits e go =
    let a = step r bytes f y fits e in
    go a.x.0 a.x.1 a.taken a.meets a.then

pub goes : {A B : Type 0} {read : List ℕ → Read A} {text : A → List ℕ} {P : A → Type 0} → IsReader read text P
    → (x : A) (rest : List ℕ) (f : A × List ℕ → Result B ℕ) → P x → (read (text x ++ rest) >>= f) ≡ f (x, rest)
goes r x rest f p = ap (λ (z : Result _ ℕ). z >>= f) (r.again x rest p)

-- ---- fields

bytes_take : (n : ℕ) (bytes : List ℕ) (x : List ℕ × List ℕ) → IsBytes bytes → bytes_at n bytes ≡ Ok x → Takes bytes x.0 x.1 × (length x.0 ≡ n) × IsBytes x.0
bytes_take n bytes x fits e =
    let g = guard_ok (ltb (length bytes) n) (length bytes) (take n bytes, drop n bytes) x e in
    let long : n ≤ length bytes = ltb-false _ _ g.0 in
    subst (λ (y : List ℕ × List ℕ). Takes bytes y.0 y.1 × (length y.0 ≡ n) × IsBytes y.0) g.1
    (record { parts = sym (take-append-drop n bytes); rest_fits = IsBytes-drop n bytes fits }, omega (arith, length-take n bytes), IsBytes-take n bytes fits)

bytes_again : (n : ℕ) (text rest : List ℕ) → length text ≡ n → bytes_at n (text ++ rest) ≡ Ok (text, rest)
bytes_again n text rest len =
    let long : ltb (length (text ++ rest)) n ≡ false = le-ltb _ _ (omega (arith, length-append text rest)) in
    rw (long, take_at text rest n len, drop_at text rest n len) refl

pub bytes_reader : (n : ℕ) → IsReader (bytes_at n) (λ text. text) (λ text. length text ≡ n)
bytes_reader n = record {
  takes = λ bytes x fits e. let t = bytes_take n bytes x fits e in (t.0, t.1);
  again = λ text rest len. bytes_again n text rest len;
}

-- the numbers of a width below a limit
pub record IsWide (w : Width) (limit : ℕ) : Type 0 where
  pub len : (n : ℕ) → length (to_be_bytes w n) ≡ byte_len w
  pub back : (bytes : List ℕ) → length bytes ≡ byte_len w → IsBytes bytes → to_be_bytes w (from_be_bytes w bytes) ≡ bytes
  pub again : (n : ℕ) → n < limit → from_be_bytes w (to_be_bytes w n) ≡ n
  pub below : (bytes : List ℕ) → IsBytes bytes → from_be_bytes w bytes < limit

be_byte : (bytes : List ℕ) → length bytes ≡ 1 → IsBytes bytes → to_be_bytes w8 (from_be_bytes w8 bytes) ≡ bytes
be_byte [] len fits = absurd cc
be_byte (b ∷ []) len fits = ap (λ (n : ℕ). n ∷ []) (let lt : b < 256 = fits 0 in omega arith)
be_byte (b ∷ c ∷ bs) len fits = absurd (omega arith)

pub wide8 : IsWide w8 256
wide8 = record {
  len = λ n. refl;
  back = λ bytes len fits. be_byte bytes len fits;
  again = λ n lt. omega arith;
  below = λ bytes fits. fits 0;
}

pub wide32 : IsWide w32 (2 ^ 32)
wide32 = record {
  len = λ n. refl;
  back = λ bytes len fits. be_bytes_4 bytes _ len fits refl;
  again = λ n lt. from_be_bytes-to_be_bytes_4 n lt;
  below = λ bytes fits. omega (arith, fits 0, fits 1, fits 2, fits 3);
}

pub wide64 : IsWide w64 (2 ^ 64)
wide64 = record {
  len = λ n. refl;
  back = λ bytes len fits. be_bytes_8 bytes _ len fits refl;
  again = λ n lt. from_be_bytes-to_be_bytes_8 n lt;
  below = λ bytes fits. omega (arith, fits 0, fits 1, fits 2, fits 3, fits 4, fits 5, fits 6, fits 7);
}

pub number_reader : {w : Width} {limit : ℕ} → IsWide w limit → IsReader (number_at w) (to_be_bytes w) (λ n. n < limit)
number_reader {w = w} {limit = limit} wide = record {
  takes = λ bytes x fits e.
      let b = bind_ok (bytes_at (byte_len w) bytes) (λ field. Ok (from_be_bytes w field.0, field.1)) x e in
      let t = bytes_take (byte_len w) bytes b.0 fits b.1 in
      let spelled : Takes bytes (to_be_bytes w (from_be_bytes w b.0.0)) b.0.1 = subst (λ (k : List ℕ). Takes bytes k b.0.1) (sym (wide.back b.0.0 t.1 t.2)) t.0 in
      subst (λ (y : ℕ × List ℕ). Takes bytes (to_be_bytes w y.0) y.1 × (y.0 < limit)) (ok_is (from_be_bytes w b.0.0, b.0.1) x b.2) (spelled, wide.below b.0.0 t.2);
  again = λ n rest lt.
      ap (λ (z : Read (List ℕ)). z >>= λ field. Ok (from_be_bytes w field.0, field.1)) (bytes_again (byte_len w) (to_be_bytes w n) rest (wide.len n))
      ∙ ap (λ (k : ℕ). Ok (k, rest)) (wide.again n lt);
}

pub id_reader : IsReader id_at id_text IsId
id_reader = record {
  takes = λ bytes x fits e.
      let b = bind_ok (bytes_at 16 bytes) (λ field. Ok (record { 0 = field.0 }, field.1)) x e in
      let t = bytes_take 16 bytes b.0 fits b.1 in
      let made : Id16 × List ℕ = (record { 0 = b.0.0 }, b.0.1) in
      subst (λ (y : Id16 × List ℕ). Takes bytes (id_text y.0) y.1 × IsId y.0) (ok_is made x b.2) (t.0, record { len = t.1; bytes = are_bytes_of b.0.0 t.2 });
  again = λ i rest h. ap (λ (z : Read (List ℕ)). z >>= λ field. Ok (record { 0 = field.0 }, field.1)) (bytes_again 16 i.0 rest h.len);
}

pub such_reader : {A : Type 0} {read : List ℕ → Read A} {text : A → List ℕ} {P : A → Type 0} → IsReader read text P
    → (rule : A → Bool) → IsReader (such read rule) text (λ x. P x × (rule x ≡ true))
such_reader {A = A} {read = read} {text = text} {P = P} r rule = record {
  takes = λ bytes y fits e.
      let b = bind_ok (read bytes) (λ x. cond (rule x.0) (Ok x) (Err (length bytes))) y e in
      let g = rule_ok (rule b.0.0) (length bytes) b.0 y b.2 in
      let t = r.takes bytes b.0 fits b.1 in
      subst (λ (z : A × List ℕ). Takes bytes (text z.0) z.1 × (P z.0 × (rule z.0 ≡ true))) g.1 (t.0, (t.1, g.0));
  again = λ x rest h.
      let bytes : List ℕ = text x ++ rest in
      ap (λ (z : Read A). z >>= λ x. cond (rule x.0) (Ok x) (Err (length bytes))) (r.again x rest h.0)
      ∙ ap (λ (b : Bool). cond b (Ok (x, rest)) (Err (length bytes))) h.1;
}
