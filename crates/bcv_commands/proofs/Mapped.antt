-- A search in a list that is seen through a map.
use Rattle.std.proofs.Common.{◌≡◌, ℕ, ◌+◌, ◌<◌, ◌≤◌, Bool, List, [], ◌∷◌, ◌++◌, length, take, drop, Some, None, refl, ap, ◌∙◌, sym, arith, map}
use Rattle.std.specs.Prelude.{Option, true, false, cond, nat_lt, nat_le, not, unwrap_or, min}
use Rattle.std.specs.List.{list_all, prefix_len, position, position_or_len, before_first, after_first}
use Rattle.std.proofs.lemmas.List.{take-map, drop-map, drop_all}
use Rattle.bcv_model.specs.Words.{given}
use Rattle.bcv_commands.specs.Commands.{is_dashes, is_plain, arguments_of}
use Rattle.std.proofs.lemmas.Bool.{leb-true, leb-false}
use Rattle.std.proofs.lemmas.Grind.{common_steps}
use Rattle.std.proofs.lemmas.List.Folds.{list_all-map}
use Rattle.std.proofs.lemmas.List.Sums.{prefix_len-le-length}

prefix_map : {X Y : Type 0} (f : X → Y) (p : Y → Bool) (xs : List X) → prefix_len p (map f xs) ≡ prefix_len (λ x. p (f x)) xs
prefix_map f p [] = refl
prefix_map f p (x ∷ xs) = ap (λ (n : ℕ). cond (p (f x)) (1 + n) 0) (prefix_map f p xs)

pub position_map : {X Y : Type 0} (f : X → Y) (p : Y → Bool) (xs : List X) → position_or_len p (map f xs) ≡ position_or_len (λ x. p (f x)) xs
position_map f p xs = prefix_map f (λ y. not (p y)) xs

place_or : (a b : ℕ) → a ≤ b → unwrap_or (cond (nat_lt a b) (Some a) None) b ≡ a
place_or a b h = grind (arith, common_steps)

-- the first place, or the length
pub found_or_len : {X : Type 0} (p : X → Bool) (xs : List X) → unwrap_or (position p xs) (length xs) ≡ position_or_len p xs
found_or_len p xs = place_or (position_or_len p xs) (length xs) (prefix_len-le-length (λ x. not (p x)) xs)

capped : {X : Type 0} (t : Bool) (k : ℕ) (xs : List X) → nat_le k (length xs) ≡ t → drop (min (length xs) k) xs ≡ drop k xs
capped true k xs e =
    let within : k ≤ length xs = leb-true k (length xs) e in
    let same : min (length xs) k ≡ k = omega (arith, within) in
    ap (λ (n : ℕ). drop n xs) same
capped false k xs e =
    let over : length xs < k = leb-false k (length xs) e in
    drop_all (min (length xs) k) xs (omega (arith, over)) ∙ sym (drop_all k xs (omega (arith, over)))

drop_capped : {X : Type 0} (k : ℕ) (xs : List X) → drop (min (length xs) k) xs ≡ drop k xs
drop_capped k xs = capped (nat_le k (length xs)) k xs refl

-- the words in front of the first dashes, and those after them, seen as bytes
pub front_seen : {X : Type 0} (f : X → List ℕ) (xs : List X) (end : ℕ) → end ≡ position_or_len is_dashes (map f xs)
    → map f (take end xs) ≡ before_first is_dashes (map f xs)
front_seen f xs end e = sym (take-map f end xs) ∙ ap (λ (n : ℕ). take n (map f xs)) e

pub back_seen : {X : Type 0} (f : X → List ℕ) (xs : List X) (end : ℕ) → end ≡ position_or_len is_dashes (map f xs)
    → map f (drop (min (length xs) (end + 1)) xs) ≡ after_first is_dashes (map f xs)
back_seen f xs end e =
    ap (λ l. map f l) (drop_capped (end + 1) xs) ∙ sym (drop-map f (end + 1) xs) ∙ ap (λ (n : ℕ). drop (n + 1) (map f xs)) e

-- the arguments that words write
pub refused_words : {X : Type 0} (f : X → List ℕ) (xs : List X) (end : ℕ) → end ≡ position_or_len is_dashes (map f xs) → list_all (λ x. is_plain (f x)) (take end xs) ≡ false
    → arguments_of (map f xs) ≡ None
refused_words f xs end e h =
    ap (λ (t : Bool). given t (before_first is_dashes (map f xs) ++ after_first is_dashes (map f xs))) (ap (λ (l : List (List ℕ)). list_all is_plain l) (sym (front_seen f xs end e)) ∙ list_all-map is_plain f (take end xs) ∙ h)

pub taken_words : {X : Type 0} (f : X → List ℕ) (xs : List X) (end : ℕ) → end ≡ position_or_len is_dashes (map f xs) → list_all (λ x. is_plain (f x)) (take end xs) ≡ true
    → arguments_of (map f xs) ≡ Some (map f (take end xs) ++ map f (drop (min (length xs) (end + 1)) xs))
taken_words f xs end e h =
    ap (λ (t : Bool). given t (before_first is_dashes (map f xs) ++ after_first is_dashes (map f xs))) (ap (λ (l : List (List ℕ)). list_all is_plain l) (sym (front_seen f xs end e)) ∙ list_all-map is_plain f (take end xs) ∙ h)
    ∙ ap (λ (l : List (List ℕ)). let o : Option (List (List ℕ)) = Some (l ++ after_first is_dashes (map f xs)) in o) (sym (front_seen f xs end e))
    ∙ ap (λ (l : List (List ℕ)). let o : Option (List (List ℕ)) = Some (map f (take end xs) ++ l) in o) (sym (back_seen f xs end e))
