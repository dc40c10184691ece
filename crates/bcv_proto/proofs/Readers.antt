-- Readers of fields that may be cut: what is read was spelled so, what is spelled so is read, and a field is cut exactly where it may go on.
use Rattle.std.proofs.Common.{◌≡◌, ℕ, ◌+◌, ◌<◌, ◌⊎◌, List, [], ◌∷◌, ◌++◌, length, get_or, Ok, Err, refl, sym, ap, subst, ◌∙◌, append_assoc, arith, inl, inr}
use Rattle.std.proofs.lemmas.List.{length-append, get_or-append-add}
use Rattle.bcv_proto.specs.declared.stop.Stop.{Stop}
use Rattle.bcv_proto.specs.declared.stop.Stop.TheVariants.{Cut}
use Rattle.bcv_proto.specs.Fields.{Read, ◌>>=◌}

-- ---- bytes

abbrev pub IsBytes : List ℕ → Type 0
IsBytes bytes = (i : ℕ) → get_or bytes i 0 < 256

pub IsBytes-behind : (front bytes : List ℕ) → IsBytes (front ++ bytes) → IsBytes bytes
IsBytes-behind front bytes h i = subst (λ (b : ℕ). b < 256) (get_or-append-add front bytes i 0) (h (length front + i))

-- ---- two ways to part a list

-- one front goes on to the other, or the other way round
pub parted : (xs ys us vs : List ℕ) → xs ++ ys ≡ us ++ vs
    → ((m : List ℕ) × (xs ++ m ≡ us) × (0 < length m)) ⊎ ((k : List ℕ) × (xs ≡ us ++ k) × (k ++ ys ≡ vs))
parted [] ys [] vs e = inr ([], refl, e)
parted [] ys (u ∷ us) vs e = inl (u ∷ us, refl, omega arith)
parted (x ∷ xs) ys [] vs e = inr (x ∷ xs, refl, e)
parted (x ∷ xs) ys (u ∷ us) vs e =
    let head : x ≡ u = cc in
    let rest : xs ++ ys ≡ us ++ vs = cc in
    elim (parted xs ys us vs rest) [
      | inl l ↦ inl (l.0, ap (λ (b : ℕ). b ∷ (xs ++ l.0)) head ∙ ap (λ (t : List ℕ). u ∷ t) l.1, l.2)
      | inr r ↦ inr (r.0, ap (λ (b : ℕ). b ∷ xs) head ∙ ap (λ (t : List ℕ). u ∷ t) r.1, r.2)
    ]

-- ---- readers

-- bytes that a value's text goes on from
pub record GoesOn {A : Type 0} (text : A → List ℕ) (P : A → Type 0) (bytes : List ℕ) : Type 0 where
  pub to : A
  pub meets : P to
  pub more : List ℕ
  pub is : bytes ++ more ≡ text to
  pub some : 0 < length more

-- a reader and the text of the values with a property
pub record IsReader {A : Type 0} (read : List ℕ → Read A) (text : A → List ℕ) (P : A → Type 0) : Type 0 where
  pub takes : (bytes : List ℕ) (x : A × List ℕ) → IsBytes bytes → read bytes ≡ Ok x → (bytes ≡ text x.0 ++ x.1) × P x.0
  pub again : (x : A) (rest : List ℕ) → P x → read (text x ++ rest) ≡ Ok (x, rest)
  pub cut : (bytes : List ℕ) → IsBytes bytes → read bytes ≡ Err Cut → GoesOn text P bytes
  pub short : (x : A) (bytes more : List ℕ) → P x → bytes ++ more ≡ text x → 0 < length more → read bytes ≡ Err Cut

-- the value of a step that did not fail
pub bind_ok : {A B : Type 0} (r : Read A) (f : A × List ℕ → Read B) (y : B × List ℕ) → (r >>= f) ≡ Ok y → (x : A × List ℕ) × (r ≡ Ok x) × (f x ≡ Ok y)
bind_ok (Ok x) f y e = (x, refl, e)
bind_ok (Err d) f y e = absurd cc

-- two steps that were cut
pub bind_cut : {A B : Type 0} (r : Read A) (f : A × List ℕ → Read B) → (r >>= f) ≡ Err Cut → (r ≡ Err Cut) ⊎ ((x : A × List ℕ) × (r ≡ Ok x) × (f x ≡ Err Cut))
bind_cut (Ok x) f e = inr (x, refl, e)
bind_cut (Err d) f e = inl (let same : d ≡ Cut = cc in ap (λ (s : Stop). Err s) same)

abbrev done : {A : Type 0} → A × List ℕ → Read A
done x = Ok x

pub ok_is : {A : Type 0} (x y : A × List ℕ) → done x ≡ done y → x ≡ y
ok_is x y e = cc

-- the same values said in another way
pub same_reader : {A : Type 0} {read : List ℕ → Read A} {text : A → List ℕ} {P : A → Type 0} (text2 : A → List ℕ) (Q : A → Type 0)
    → IsReader read text P → ((x : A) → P x → Q x) → ((x : A) → Q x → P x) → ((x : A) → P x → text x ≡ text2 x) → IsReader read text2 Q
same_reader {read = read} {text = text} {P = P} text2 Q r to from same = record {
  takes = λ bytes x fits e.
      let t = r.takes bytes x fits e in
      (t.0 ∙ ap (λ (s : List ℕ). s ++ x.1) (same x.0 t.1), to x.0 t.1);
  again = λ x rest q. ap (λ (s : List ℕ). read (s ++ rest)) (sym (same x (from x q))) ∙ r.again x rest (from x q);
  cut = λ bytes fits e.
      let g = r.cut bytes fits e in
      record { to = g.to; meets = to g.to g.meets; more = g.more; is = g.is ∙ same g.to g.meets; some = g.some };
  short = λ x bytes more q is some. r.short x bytes more (from x q) (is ∙ sym (same x (from x q))) some;
}

-- each value of a reader made into another one
pub map_reader : {A B : Type 0} {read : List ℕ → Read A} {text : A → List ℕ} {P : A → Type 0} (f : A → B) (text2 : B → List ℕ) (Q : B → Type 0)
    → IsReader read text P → ((x : A) → P x → Q (f x)) → ((x : A) → text2 (f x) ≡ text x) → ((y : B) → Q y → (x : A) × (f x ≡ y) × P x)
    → IsReader (λ bytes. read bytes >>= λ x. Ok (f x.0, x.1)) text2 Q
map_reader {A = A} {B = B} {read = read} {text = text} f text2 Q r to same from = record {
  takes = λ bytes y fits e.
      let b = bind_ok (read bytes) (λ x. Ok (f x.0, x.1)) y e in
      let t = r.takes bytes b.0 fits b.1 in
      let made : B × List ℕ = (f b.0.0, b.0.1) in
      subst (λ (z : B × List ℕ). (bytes ≡ text2 z.0 ++ z.1) × Q z.0) (ok_is made y b.2)
      (t.0 ∙ ap (λ (s : List ℕ). s ++ b.0.1) (sym (same b.0.0)), to b.0.0 t.1);
  again = λ y rest q.
      let w = from y q in
      ap (λ (z : B). read (text2 z ++ rest) >>= λ x. Ok (f x.0, x.1)) (sym w.1)
      ∙ ap (λ (s : List ℕ). read (s ++ rest) >>= λ x. Ok (f x.0, x.1)) (same w.0)
      ∙ ap (λ (z : Read A). z >>= λ x. Ok (f x.0, x.1)) (r.again w.0 rest w.2)
      ∙ ap (λ (z : B). Ok (z, rest)) w.1;
  cut = λ bytes fits e. mapped_cut bytes fits (bind_cut (read bytes) (λ x. Ok (f x.0, x.1)) e);
  short = λ y bytes more q is some.
      let w = from y q in
      let e = r.short w.0 bytes more w.2 (is ∙ ap text2 (sym w.1) ∙ same w.0) some in
      ap (λ (z : Read A). z >>= λ x. Ok (f x.0, x.1)) e;
}
  where
    mapped_cut : (bytes : List ℕ) → IsBytes bytes → (read bytes ≡ Err Cut) ⊎ ((x : A × List ℕ) × (read bytes ≡ Ok x) × (done {A = B} (f x.0, x.1) ≡ Err Cut)) → GoesOn text2 Q bytes
    mapped_cut bytes fits (inl e) =
        let g = r.cut bytes fits e in
        record { to = f g.to; meets = to g.to g.meets; more = g.more; is = g.is ∙ sym (same g.to); some = g.some }
    mapped_cut bytes fits (inr w) = absurd (let e = w.2 in cc)

-- a reader, and behind it another one that its value chooses; each such value has one that goes with it
pub bind_reader : {A B : Type 0} {read : List ℕ → Read A} {text : A → List ℕ} {P : A → Type 0} (of : B → A) (next : A → List ℕ → Read B) (text2 : B → List ℕ) (Q : B → Type 0)
    → IsReader read text P → ((x : A) → P x → IsReader (next x) text2 (λ y. (of y ≡ x) × Q y)) → ((x : A) → P x → (y : B) × (of y ≡ x) × Q y)
    → IsReader (λ bytes. read bytes >>= λ x. next x.0 x.1) (λ y. text (of y) ++ text2 y) (λ y. P (of y) × Q y)
bind_reader {A = A} {B = B} {read = read} {text = text} {P = P} of next text2 Q r nexts some = record {
  takes = λ bytes y fits e.
      let b = bind_ok (read bytes) (λ x. next x.0 x.1) y e in
      let t = r.takes bytes b.0 fits b.1 in
      let behind : IsBytes b.0.1 = IsBytes-behind (text b.0.0) b.0.1 (subst IsBytes t.0 fits) in
      let u = (nexts b.0.0 t.1).takes b.0.1 y behind b.2 in
      let is : of y.0 ≡ b.0.0 = u.1.0 in (
        t.0 ∙ ap (λ (x : A). text x ++ b.0.1) (sym is) ∙ ap (λ (s : List ℕ). text (of y.0) ++ s) u.0 ∙ sym (append_assoc (text (of y.0)) (text2 y.0) y.1),
        (subst P (sym is) t.1, u.1.1),
      );
  again = λ y rest p.
      ap (λ (s : List ℕ). read s >>= λ x. next x.0 x.1) (append_assoc (text (of y)) (text2 y) rest)
      ∙ ap (λ (z : Read A). z >>= λ x. next x.0 x.1) (r.again (of y) (text2 y ++ rest) p.0)
      ∙ (nexts (of y) p.0).again y rest (refl, p.1);
  cut = λ bytes fits e. either_cut bytes fits (bind_cut (read bytes) (λ x. next x.0 x.1) e);
  short = λ y bytes more p is left. either_short y bytes more p left (parted bytes more (text (of y)) (text2 y) is);
}
  where
    either_cut : (bytes : List ℕ) → IsBytes bytes → (read bytes ≡ Err Cut) ⊎ ((x : A × List ℕ) × (read bytes ≡ Ok x) × (next x.0 x.1 ≡ Err Cut)) → GoesOn (λ (y : B). text (of y) ++ text2 y) (λ (y : B). P (of y) × Q y) bytes
    either_cut bytes fits (inl e) =
        let g = r.cut bytes fits e in
        let s = some g.to g.meets in
        record {
          to = s.0;
          meets = (subst P (sym s.1) g.meets, s.2);
          more = g.more ++ text2 s.0;
          is = sym (append_assoc bytes g.more (text2 s.0)) ∙ ap (λ (t : List ℕ). t ++ text2 s.0) (g.is ∙ ap text (sym s.1));
          some = let long : 0 < length g.more = g.some in omega (arith, length-append g.more (text2 s.0));
        }
    either_cut bytes fits (inr w) =
        let t = r.takes bytes w.0 fits w.1 in
        let behind : IsBytes w.0.1 = IsBytes-behind (text w.0.0) w.0.1 (subst IsBytes t.0 fits) in
        let g = (nexts w.0.0 t.1).cut w.0.1 behind w.2 in
        record {
          to = g.to;
          meets = (subst P (sym g.meets.0) t.1, g.meets.1);
          more = g.more;
          is = ap (λ (s : List ℕ). s ++ g.more) t.0 ∙ append_assoc (text w.0.0) w.0.1 g.more ∙ ap (λ (s : List ℕ). text w.0.0 ++ s) g.is
              ∙ ap (λ (x : A). text x ++ text2 g.to) (sym g.meets.0);
          some = g.some;
        }

    either_short : (y : B) (bytes more : List ℕ) → P (of y) × Q y → 0 < length more
        → ((m : List ℕ) × (bytes ++ m ≡ text (of y)) × (0 < length m)) ⊎ ((k : List ℕ) × (bytes ≡ text (of y) ++ k) × (k ++ more ≡ text2 y))
        → (read bytes >>= λ x. next x.0 x.1) ≡ Err Cut
    either_short y bytes more p left (inl w) = ap (λ (z : Read A). z >>= λ x. next x.0 x.1) (r.short (of y) bytes w.0 p.0 w.1 w.2)
    either_short y bytes more p left (inr w) =
        ap (λ (s : List ℕ). read s >>= λ x. next x.0 x.1) w.1
        ∙ ap (λ (z : Read A). z >>= λ x. next x.0 x.1) (r.again (of y) w.0 p.0)
        ∙ (nexts (of y) p.0).short y w.0 more (refl, p.1) w.2 left
