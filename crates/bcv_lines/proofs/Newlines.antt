-- Where newlines stand, and where there is none.
use Rattle.std.proofs.Common.{◌≡◌, ℕ, zero, suc, ◌+◌, ◌-◌, ◌<◌, ◌≤◌, Bool, false, ◌||◌, ◌==◌, inl, inr, List, [], ◌∷◌, ◌++◌, length, length-append, get_or, take, take_all, drop, Some, None, refl, sym, ap, ◌∙◌, subst, arith, add-one, drop-cons, take-append-drop}
use Rattle.std.specs.Prelude.{nat_lt, cond}
use Rattle.std.specs.List.{position, position_or_len}
use Rattle.std.proofs.lemmas.Bool.{or_parts, eqb-true}
use Rattle.std.proofs.lemmas.Grind.{common_steps}
use Rattle.std.proofs.lemmas.List.Quantifiers.{position-Some}
use Rattle.std.proofs.lemmas.List.Sums.{fails_before_first}
use Rattle.bcv_lines.specs.Lines.{has_newline, most_of_line, most_of_script}
use Rattle.bcv_lines.specs.Reading.{IsFirstNewline, PassesLimit}

is_ten : ℕ → Bool
is_ten b = b == 10

-- none up to a place
none_front : (xs : List ℕ) (i : ℕ) → ((k : ℕ) → k < i → (get_or xs k 0 == 10) ≡ false) → has_newline (take i xs) ≡ false
none_front xs zero f = refl
none_front [] (suc n) f = refl
none_front (x ∷ xs) (suc n) f =
    ap (λ (t : Bool). t || has_newline (take n xs)) (f 0 (omega arith)) ∙ none_front xs n (λ k h. f (suc k) (omega arith))

place_none : (a b : ℕ) → None ≡ cond (nat_lt a b) (Some a) None → b ≤ a
place_none a b h = grind (arith, common_steps)

pub first_newline : (xs : List ℕ) (i : ℕ) → Some i ≡ position (λ b. b == 10) xs → IsFirstNewline xs i
first_newline xs i h =
    let p = position-Some (λ (b : ℕ). b == 10) xs i 0 (sym h) in
    let within : i < length xs = p.0 in
    let tail : drop i xs ≡ 10 ∷ drop (i + 1) xs = rw (add-one, drop-cons xs i 0, eqb-true (get_or xs i 0) 10 p.1) refl in
    record { within = p.0; none_before = none_front xs i p.2; here = sym (take-append-drop i xs) ∙ ap (λ (l : List ℕ). take i xs ++ l) tail }

pub no_newline : (xs : List ℕ) → None ≡ position (λ b. b == 10) xs → has_newline xs ≡ false
no_newline xs h =
    let far = place_none (position_or_len (λ (b : ℕ). b == 10) xs) (length xs) h in
    let all : has_newline (take (length xs) xs) ≡ false = none_front xs (length xs) (λ k l. fails_before_first (λ (b : ℕ). b == 10) xs k 0 (omega arith)) in
    subst (λ (l : List ℕ). has_newline l ≡ false) (take_all (length xs) xs (omega arith)) all

none_take : (n m : ℕ) (xs : List ℕ) → n ≤ m → has_newline (take m xs) ≡ false → has_newline (take n xs) ≡ false
none_take zero m xs h e = refl
none_take (suc n) zero xs h e = absurd (omega arith)
none_take (suc n) (suc m) [] h e = refl
none_take (suc n) (suc m) (x ∷ xs) h e =
    let q = or_parts (x == 10) (has_newline (take m xs)) e in
    ap (λ (t : Bool). t || has_newline (take n xs)) q.0 ∙ none_take n m xs (omega arith) q.1

-- none in a front of a line and of what follows it
none_in_front : (n end : ℕ) (line chunk : List ℕ) → n ≤ length line + end → has_newline line ≡ false → has_newline (take end chunk) ≡ false → has_newline (take n (line ++ chunk)) ≡ false
none_in_front n end [] chunk h a b = none_take n end chunk (omega arith) b
none_in_front zero end (x ∷ line) chunk h a b = refl
none_in_front (suc n) end (x ∷ line) chunk h a b =
    let q = or_parts (x == 10) (has_newline line) a in
    ap (λ (t : Bool). t || has_newline (take n (line ++ chunk))) q.0 ∙ none_in_front n end line chunk (omega arith) q.1 b

pub passes_line : (used end : ℕ) (line chunk : List ℕ) → has_newline line ≡ false → has_newline (take end chunk) ≡ false → end ≤ length chunk → most_of_line < length line + end
    → PassesLimit used (line ++ chunk)
passes_line used end line chunk a b h q =
    inl (omega (arith, length-append line chunk), none_in_front (most_of_line + 1) end line chunk (omega arith) a b)

pub passes_script : (used end : ℕ) (line chunk : List ℕ) → has_newline line ≡ false → has_newline (take end chunk) ≡ false → most_of_script ≤ used + (length line + end) → most_of_script < used + (length line + length chunk)
    → PassesLimit used (line ++ chunk)
passes_script used end line chunk a b h q =
    inr (omega (arith, length-append line chunk), none_in_front (most_of_script - used) end line chunk (omega arith) a b)

-- the same, where the whole chunk has none
none_all : (chunk : List ℕ) → has_newline chunk ≡ false → has_newline (take (length chunk) chunk) ≡ false
none_all chunk b = subst (λ (l : List ℕ). has_newline l ≡ false) (sym (take_all (length chunk) chunk (omega arith))) b

pub passes_line_whole : (used : ℕ) (line chunk : List ℕ) → has_newline line ≡ false → has_newline chunk ≡ false → most_of_line < length line + length chunk → PassesLimit used (line ++ chunk)
passes_line_whole used line chunk a b q = passes_line used (length chunk) line chunk a (none_all chunk b) (omega arith) q

pub passes_script_whole : (used : ℕ) (line chunk : List ℕ) → has_newline line ≡ false → has_newline chunk ≡ false → most_of_script < used + (length line + length chunk) → PassesLimit used (line ++ chunk)
passes_script_whole used line chunk a b q = passes_script used (length chunk) line chunk a (none_all chunk b) (omega arith) q
