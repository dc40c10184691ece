-- How much of a text has been written.
use Rattle.std.proofs.Common.{◌≡◌, ℕ, suc, ◌+◌, ◌<◌, false, ◌==◌, List, [], ◌∷◌, ◌++◌, length, length-append, take, drop, refl, sym, ap, ◌∙◌, append_assoc, append-nil, take-append-drop, arith}
use Rattle.std.specs.Prelude.{Option}
use Rattle.std.specs.Io.KnownBytes.{Keeps, Appends}
use Rattle.std.proofs.KnownBytes.{Appends-trans, Appends-kept}
use Rattle.bcv_base.specs.Streams.{AppendsFront}

pub take_over : (a b : List ℕ) (k : ℕ) → take (length a + k) (a ++ b) ≡ a ++ take k b
take_over [] b k = let e : length {A = ℕ} [] + k ≡ k = omega arith in rw e refl
take_over (x ∷ a) b k =
    let e : length (x ∷ a) + k ≡ suc (length a + k) = omega arith in
    rw e (ap (λ (l : List ℕ). x ∷ l) (take_over a b k))

pub wrote_more : (written rest text after : List ℕ) (n : ℕ) → written ++ rest ≡ text → after ≡ drop n rest → (written ++ take n rest) ++ after ≡ text
wrote_more written rest text after n e f =
    append_assoc written (take n rest) after ∙ ap (λ (l : List ℕ). written ++ l) (ap (λ (l : List ℕ). take n rest ++ l) f ∙ take-append-drop n rest) ∙ e

pub some_left : (rest : List ℕ) → false ≡ (length rest == 0) → 0 < length rest
some_left [] e = cc
some_left (x ∷ xs) e = omega arith

-- a text of which a rest is left isn't empty
not_empty : (written rest text : List ℕ) → written ++ rest ≡ text → 0 < length rest → 0 < length text
not_empty written rest text e h = omega (arith, ap length e, length-append written rest)

abbrev pub Wrote_part : Option (List ℕ) → Option (List ℕ) → List ℕ → Type 0
Wrote_part a c text = (w : List ℕ) × Appends a c w × ((0 < length text) × ((k : ℕ) × (w ≡ take k text)))

pub wrote_front : (a b c : Option (List ℕ)) (written rest text : List ℕ) → Appends a b written → written ++ rest ≡ text → 0 < length rest → AppendsFront b c rest → Wrote_part a c text
wrote_front a b c written rest text p e h f = (
  written ++ take f.0 rest,
  Appends-trans a b c written (take f.0 rest) p f.2,
  (not_empty written rest text e h, (length written + f.0, sym (take_over written rest f.0) ∙ ap (λ (l : List ℕ). take (length written + f.0) l) e)),
)

pub wrote_nothing : (a b c : Option (List ℕ)) (written rest text : List ℕ) → Appends a b written → written ++ rest ≡ text → 0 < length rest → Keeps b c → Wrote_part a c text
wrote_nothing a b c written rest text p e h k = (
  written,
  Appends-kept a b c written p k,
  (not_empty written rest text e h, (length written + 0, sym (append-nil written) ∙ sym (take_over written rest 0) ∙ ap (λ (l : List ℕ). take (length written + 0) l) e)),
)
