-- Lists of lines, and how bytes split into them.
use Rattle.std.proofs.Common.{◌≡◌, ℕ, ◌+◌, ◌<◌, ◌≤◌, List, [], ◌∷◌, ◌++◌, length, length-append, refl, sym, ap, ◌∙◌, subst, append_assoc, append-nil, arith}
use Rattle.std.proofs.lemmas.Grind.{flat_map-append}
use Rattle.bcv_lines.specs.Lines.{Splits, IsOpen, IsLast, IsLine, AreLines, text_of}
use Rattle.bcv_lines.specs.Reading.{FitsFront, FitsWhole}

text_more : (lines : List (List ℕ)) (line : List ℕ) → text_of (lines ++ line ∷ []) ≡ text_of lines ++ (line ++ 10 ∷ [])
text_more lines line =
    flat_map-append (λ (l : List ℕ). l ++ 10 ∷ []) lines (line ∷ []) ∙ ap (λ (l : List ℕ). text_of lines ++ l) (append-nil (line ++ 10 ∷ []))

pub text_length : (lines : List (List ℕ)) (line : List ℕ) → length (text_of (lines ++ line ∷ [])) ≡ length (text_of lines) + length line + 1
text_length lines line = omega (arith, ap length (text_more lines line), length-append (text_of lines) (line ++ 10 ∷ []), length-append line (10 ∷ []))

-- each line takes a byte at least
pub lines_few : (lines : List (List ℕ)) → length lines ≤ length (text_of lines)
lines_few [] = omega arith
lines_few (l ∷ lines) = omega (arith, lines_few lines, length-append (l ++ 10 ∷ []) (text_of lines), length-append l (10 ∷ []))

lines_more : (lines : List (List ℕ)) (line : List ℕ) → AreLines lines → IsLine line → AreLines (lines ++ line ∷ [])
lines_more [] line a i = (i, tt)
lines_more (l ∷ lines) line a i = (a.0, lines_more lines line a.1 i)

pub splits_more : (taken t chunk : List ℕ) (lines : List (List ℕ)) → Splits taken lines chunk → Splits (taken ++ t) lines (chunk ++ t)
splits_more taken t chunk lines s = record {
  joined = ap (λ (l : List ℕ). l ++ t) s.joined ∙ append_assoc (text_of lines) chunk t;
  are_lines = s.are_lines;
  within = s.within;
}

pub splits_line : (taken rest line more : List ℕ) (lines : List (List ℕ)) → Splits taken lines rest → rest ≡ line ++ 10 ∷ more → FitsWhole (length (text_of lines)) line → Splits taken (lines ++ line ∷ []) more
splits_line taken rest line more lines s e f = record {
  joined = s.joined ∙ ap (λ (l : List ℕ). text_of lines ++ l) (e ∙ sym (append_assoc line (10 ∷ []) more)) ∙ sym (append_assoc (text_of lines) (line ++ 10 ∷ []) more) ∙ ap (λ (l : List ℕ). l ++ more) (sym (text_more lines line));
  are_lines = lines_more lines line s.are_lines f.is_line;
  within = omega (arith, text_length lines line, f.fits);
}

pub is_last : (lines : List (List ℕ)) (line : List ℕ) → 0 < length line → IsLast lines line
is_last [] line h = tt
is_last (l ∷ lines) line h = h

-- the same line, by the slice that shows it
pub line_is : (used : ℕ) (bytes line shown rest : List ℕ) → shown ≡ line → (bytes ≡ line ++ 10 ∷ rest) × FitsWhole used line → (bytes ≡ shown ++ 10 ∷ rest) × FitsWhole used shown
line_is used bytes line shown rest e h = subst (λ (l : List ℕ). (bytes ≡ l ++ 10 ∷ rest) × FitsWhole used l) (sym e) h

pub last_is : (used : ℕ) (bytes line shown : List ℕ) (ended : Type 0) → shown ≡ line → ended × (bytes ≡ line) × (0 < length line) × FitsFront used line → ended × (bytes ≡ shown) × (0 < length shown) × FitsFront used shown
last_is used bytes line shown ended e h = subst (λ (l : List ℕ). ended × (bytes ≡ l) × (0 < length l) × FitsFront used l) (sym e) h
