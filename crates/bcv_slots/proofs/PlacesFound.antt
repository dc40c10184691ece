-- Where the first slot of a number is found.
use Rattle.std.proofs.Common.{◌≡◌, ◌==◌, ℕ, zero, suc, ◌+◌, ◌<◌, ◌≤◌, Bool, true, false, cond, ◌||◌, List, [], ◌∷◌, length, find, take, get_or, Some, None, slice_get, refl, sym, ap, ◌∙◌, subst, arith}
use Rattle.std.specs.List.{list_any, remove}
use Rattle.std.specs.Option.{option_map}
use Rattle.std.proofs.lemmas.Bool.{eq-eqb, or_parts, or_from, ne_eqb}
use Rattle.std.proofs.lemmas.List.{take_all}
use Rattle.std.proofs.lemmas.List.Folds.{list_any_more}
use Rattle.std.proofs.lemmas.Option.{slice_get-get_or, same_Some}
use Rattle.bcv_slots.specs.declared.Slot.{Slot}
use Rattle.bcv_slots.specs.Numbered.{has_number, item_at, numbers_of, without_number}
use Rattle.bcv_slots.specs.Places.{IsNowhere, IsPlaceOf}

module _ {T : Type 0} where
  -- the slot has the number
  abbrev pub passes : ℕ → Slot T → Bool
  passes n s = s.number == n

  none_some : (s : Slot T) → None ≡ Some s → ⊥
  none_some s e = cc

  abbrev item_of : Slot T → T
  item_of s = s.item

  pub numbers_any : (n : ℕ) (slots : List (Slot T)) → has_number n (numbers_of slots) ≡ list_any (passes n) slots
  numbers_any n [] = refl
  numbers_any n (s ∷ ss) = ap (λ (b : Bool). (s.number == n) || b) (numbers_any n ss)

  there : (n : ℕ) (slots : List (Slot T)) (place : ℕ) (s : Slot T) → list_any (passes n) (take place slots) ≡ false → slice_get slots place ≡ Some s → s.number ≡ n → IsPlaceOf n slots place
  there n [] place s none at same = absurd (none_some s at)
  there n (x ∷ xs) zero s none at same =
      let is : x ≡ s = same_Some x s at in
      let test : (x.number == n) ≡ true = eq-eqb x.number n (ap (λ (y : Slot T). y.number) is ∙ same) in
      record {
        inside = omega arith;
        slot = s;
        at = at;
        found = ap (λ (b : Bool). option_map item_of (cond b (Some x) (find (passes n) xs))) test ∙ ap (λ (y : Slot T). Some y.item) is;
        left = ap (λ (b : Bool). cond b xs (x ∷ without_number n xs)) test;
      }
  there n (x ∷ xs) (suc place) s none at same =
      let p = or_parts (x.number == n) (list_any (passes n) (take place xs)) none in
      let r = there n xs place s p.1 at same in
      let inside : place < length xs = r.inside in
      record {
        inside = omega (arith, inside);
        slot = r.slot;
        at = r.at;
        found = ap (λ (b : Bool). option_map item_of (cond b (Some x) (find (passes n) xs))) p.0 ∙ r.found;
        left = ap (λ (b : Bool). cond b xs (x ∷ without_number n xs)) p.0 ∙ ap (λ (ys : List (Slot T)). x ∷ ys) r.left;
      }

  nowhere : (n : ℕ) (slots : List (Slot T)) → list_any (passes n) slots ≡ false → IsNowhere n slots
  nowhere n [] none = record { none = refl; left = refl }
  nowhere n (x ∷ xs) none =
      let p = or_parts (x.number == n) (list_any (passes n) xs) none in
      let r = nowhere n xs p.1 in
      record {
        none = ap (λ (b : Bool). option_map item_of (cond b (Some x) (find (passes n) xs))) p.0 ∙ r.none;
        left = ap (λ (b : Bool). cond b xs (x ∷ without_number n xs)) p.0 ∙ ap (λ (ys : List (Slot T)). x ∷ ys) r.left;
      }

  -- ---- the loop

  pub found_there : (n : ℕ) (slots : List (Slot T)) (place : ℕ) (s : Slot T) → list_any (passes n) (take place slots) ≡ false → place < length slots → s ≡ get_or slots place s → s.number ≡ n → IsPlaceOf n slots place
  found_there n slots place s none inside is same =
      there n slots place s none (slice_get-get_or slots place s inside ∙ ap (λ (x : Slot T). Some x) (sym is)) same

  pub none_more : (n : ℕ) (slots : List (Slot T)) (place : ℕ) (s : Slot T) → list_any (passes n) (take place slots) ≡ false → place < length slots → s ≡ get_or slots place s → (s.number ≡ n → ⊥)
      → list_any (passes n) (take (place + 1) slots) ≡ false
  none_more n slots place s none inside is other =
      list_any_more (passes n) slots place s inside ∙ or_from (list_any (passes n) (take place slots)) (passes n (get_or slots place s)) none (ap (passes n) (sym is) ∙ ne_eqb s.number n other)

  pub found_nowhere : (n : ℕ) (slots : List (Slot T)) (place : ℕ) → list_any (passes n) (take place slots) ≡ false → length slots ≤ place → IsNowhere n slots
  found_nowhere n slots place none past = nowhere n slots (ap (list_any (passes n)) (sym (take_all place slots past)) ∙ none)

  -- ---- the slot that is taken out

  pub item_taken : (n : ℕ) (slots items : List (Slot T)) (place : ℕ) (s : Slot T) → slots ≡ items → IsPlaceOf n slots place → s ≡ get_or items place s → Some s.item ≡ item_at n items
  item_taken n slots items place s same is read =
      let at : IsPlaceOf n items place = subst (λ (l : List (Slot T)). IsPlaceOf n l place) same is in
      let one : s ≡ at.slot = same_Some s at.slot (sym (slice_get-get_or items place s at.inside ∙ ap (λ (x : Slot T). Some x) (sym read)) ∙ at.at) in
      ap (λ (x : Slot T). Some x.item) one ∙ sym at.found

  pub others_left : (n : ℕ) (slots items : List (Slot T)) (place : ℕ) → slots ≡ items → IsPlaceOf n slots place → remove items place ≡ without_number n items
  others_left n slots items place same is = let at : IsPlaceOf n items place = subst (λ (l : List (Slot T)). IsPlaceOf n l place) same is in sym at.left

  pub none_found : (n : ℕ) (slots items : List (Slot T)) → slots ≡ items → IsNowhere n slots → None ≡ item_at n items
  none_found n slots items same is = let at : IsNowhere n items = subst (λ (l : List (Slot T)). IsNowhere n l) same is in sym at.none

  pub none_left : (n : ℕ) (slots items : List (Slot T)) → slots ≡ items → IsNowhere n slots → items ≡ without_number n items
  none_left n slots items same is = let at : IsNowhere n items = subst (λ (l : List (Slot T)). IsNowhere n l) same is in sym at.left
