-- The words of a line: the first one by the place of the first space, and how many bytes they leave.
use Rattle.std.proofs.Common.{◌≡◌, ℕ, suc, ◌+◌, ◌-◌, ◌<◌, ◌≤◌, Bool, true, false, List, [], ◌∷◌, length, length-drop, take, take_all, drop, Some, None, Err, refl, ap, ◌∙◌, arith}
use Rattle.std.specs.Prelude.{nat_lt, cond, ◌==◌}
use Rattle.std.specs.List.{slice_split, position, position_or_len, onto_first}
use Rattle.std.proofs.lemmas.Grind.{common_steps}
use Rattle.std.proofs.lemmas.List.Splits.{slice_split_first, slice_split-cons_yes, slice_split-cons_no}
use Rattle.bcv_model.specs.Words.{words_of, bytes_left}
use Rattle.bcv_model.specs.Script.{ended}
use Rattle.bcv_script.specs.Left.{HasMore}

-- a first element that passes is the first place
whole_first : (p : ℕ → Bool) (x : ℕ) (xs : List ℕ) → p x ≡ true → length (x ∷ xs) ≤ position_or_len p (x ∷ xs) → ⊥
whole_first p x xs e h = let none : suc (length xs) ≤ 0 = rw e at h in omega arith

whole_later : (p : ℕ → Bool) (x : ℕ) (xs : List ℕ) → p x ≡ false → length (x ∷ xs) ≤ position_or_len p (x ∷ xs) → length xs ≤ position_or_len p xs
whole_later p x xs e h = let more = rw e at h in omega (arith, more)

-- no element passes, so the whole is the one part
pub slice_split_whole : (p : ℕ → Bool) (xs : List ℕ) → length xs ≤ position_or_len p xs → slice_split p xs ≡ xs ∷ []
slice_split_whole p [] h = refl
slice_split_whole p (x ∷ xs) h =
    let cases : (b : Bool) → p x ≡ b → slice_split p (x ∷ xs) ≡ (x ∷ xs) ∷ [] = λ b. elim b as (λ b. p x ≡ b → slice_split p (x ∷ xs) ≡ (x ∷ xs) ∷ []) [
      | true ↦ λ e. absurd (whole_first p x xs e h)
      | false ↦ λ e. rw (e, slice_split_whole p xs (whole_later p x xs e h)) refl
    ] in
    cases (p x) refl

place_none : (a b : ℕ) → None ≡ cond (nat_lt a b) (Some a) None → b ≤ a
place_none a b h = grind (arith, common_steps)

place_some : (a b i : ℕ) → Some i ≡ cond (nat_lt a b) (Some a) None → (a ≡ i) × (a < b)
place_some a b i h = grind (arith, common_steps)

pub slice_split-none : (p : ℕ → Bool) (xs : List ℕ) → None ≡ position p xs → slice_split p xs ≡ xs ∷ []
slice_split-none p xs h = slice_split_whole p xs (place_none (position_or_len p xs) (length xs) h)

pub slice_split-some : (p : ℕ → Bool) (xs : List ℕ) (i : ℕ) → Some i ≡ position p xs → slice_split p xs ≡ take i xs ∷ slice_split p (take (length xs - (i + 1)) (drop (i + 1) xs))
slice_split-some p xs i h =
    let place = place_some (position_or_len p xs) (length xs) i h in
    rw (slice_split_first p xs 0 place.1, place.0, take_all (length xs - (i + 1)) (drop (i + 1) xs) (omega (arith, length-drop (i + 1) xs))) refl

-- ---- how many bytes the words leave

-- a list of parts that isn't empty, of so many bytes with what parts them
record HasBytes (parts : List (List ℕ)) (n : ℕ) : Type 0 where
  first : List ℕ
  others : List (List ℕ)
  are : parts ≡ first ∷ others
  bytes : bytes_left (first ∷ others) ≡ n

longer : (x : ℕ) (w : List ℕ) (ws : List (List ℕ)) → bytes_left ((x ∷ w) ∷ ws) ≡ suc (bytes_left (w ∷ ws))
longer x w [] = refl
longer x w (v ∷ ws) = omega arith

parts_have : (p : ℕ → Bool) (xs : List ℕ) → HasBytes (slice_split p xs) (length xs)
parts_have p [] = record { first = []; others = []; are = refl; bytes = refl }
parts_have p (x ∷ xs) =
    let rest = parts_have p xs in
    let cases : (b : Bool) → p x ≡ b → HasBytes (slice_split p (x ∷ xs)) (suc (length xs)) = λ b. elim b as (λ b. p x ≡ b → HasBytes (slice_split p (x ∷ xs)) (suc (length xs))) [
      | true ↦ λ e. record { first = []; others = rest.first ∷ rest.others; are = rw (slice_split-cons_yes p x xs e, rest.are) refl; bytes = omega (arith, rest.bytes) }
      | false ↦ λ e. record { first = x ∷ rest.first; others = rest.others; are = rw (slice_split-cons_no p x xs e, rest.are) refl; bytes = omega (arith, longer x rest.first rest.others, rest.bytes) }
    ] in
    cases (p x) refl

-- the words of a line have the line's bytes
pub words_bytes : (line : List ℕ) → bytes_left (words_of line) ≡ length line
words_bytes line = let h = parts_have (λ b. b == 32) line in rw h.are h.bytes

-- a line always has a word, and so has not ended
pub words_not_ended : (line : List ℕ) → ended (words_of line) ≡ Err (length line)
words_not_ended line = let h = parts_have (λ b. b == 32) line in rw (h.are, h.bytes) refl

pub words_more : (line : List ℕ) → HasMore (words_of line)
words_more line = let h = parts_have (λ b. b == 32) line in (h.first, h.others, h.are)
