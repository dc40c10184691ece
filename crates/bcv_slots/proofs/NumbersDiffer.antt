-- Numbers stay different.
use Rattle.std.proofs.Common.{◌≡◌, ◌∙◌, ◌==◌, ℕ, Bool, true, false, not, cond, List, [], ◌∷◌, ◌++◌, filter, find, Some, None, refl, sym, ap}
use Rattle.std.specs.List.{range_with_len}
use Rattle.std.proofs.lemmas.Bool.{eqb-true, eqb-false, ne_eqb, or_parts, or_from}
use Rattle.std.proofs.lemmas.Option.{same_Some}
use Rattle.bcv_slots.specs.declared.Slot.{Slot}
use Rattle.bcv_slots.specs.Numbered.{AreDifferent, but_for, has_number, numbers_of, other_slots, without_number}
use Rattle.bcv_slots.specs.NumberLaws.{DifferWith, DifferWithout, FreeIsNone, OthersHaveNone}

-- what no number is, none that stays is
none_kept : (k : ℕ) (test : ℕ → Bool) (ns : List ℕ) → has_number k ns ≡ false → has_number k (filter test ns) ≡ false
none_kept k test [] none = refl
none_kept k test (x ∷ ns) none =
    let p = or_parts (x == k) (has_number k ns) none in
    elim (test x) as (λ (b : Bool). has_number k (cond b (x ∷ filter test ns) (filter test ns)) ≡ false) [
      | true ↦ or_from (x == k) (has_number k (filter test ns)) p.0 (none_kept k test ns p.1)
      | false ↦ none_kept k test ns p.1
    ]

differ_kept : (test : ℕ → Bool) (ns : List ℕ) → AreDifferent ns → AreDifferent (filter test ns)
differ_kept test [] all = tt
differ_kept test (x ∷ ns) all =
    elim (test x) as (λ (b : Bool). AreDifferent (cond b (x ∷ filter test ns) (filter test ns))) [
      | true ↦ (none_kept x test ns all.0, differ_kept test ns all.1)
      | false ↦ differ_kept test ns all.1
    ]

pub differ_without : DifferWithout
differ_without n ns all = differ_kept (λ k. not (k == n)) ns all

-- a number behind others that it is not
none_more : (k n : ℕ) (ns : List ℕ) → has_number k ns ≡ false → (n == k) ≡ false → has_number k (ns ++ n ∷ []) ≡ false
none_more k n [] none other = or_from (n == k) false other refl
none_more k n (x ∷ ns) none other =
    let p = or_parts (x == k) (has_number k ns) none in or_from (x == k) (has_number k (ns ++ n ∷ [])) p.0 (none_more k n ns p.1 other)

pub differ_with : DifferWith
differ_with n [] all none = (refl, tt)
differ_with n (x ∷ ns) all none =
    let p = or_parts (x == n) (has_number n ns) none in (
      none_more x n ns all.0 (ne_eqb n x (λ e. eqb-false x n p.0 (sym e))),
      differ_with n ns all.1 p.1,
    )

found_passes : (test : ℕ → Bool) (ns : List ℕ) (n : ℕ) → find test ns ≡ Some n → test n ≡ true
found_passes test [] n is = absurd (let e : None ≡ Some n = is in cc)
found_passes test (x ∷ ns) n is =
    elim (test x) as (λ (b : Bool). test x ≡ b → cond b (Some x) (find test ns) ≡ Some n → test n ≡ true) [
      | true ↦ λ e h. ap test (sym (same_Some x n h)) ∙ e
      | false ↦ λ e h. found_passes test ns n h
    ] refl is

not_true : (b : Bool) → not b ≡ true → b ≡ false
not_true true e = sym e
not_true false e = refl

pub free_is_none : FreeIsNone
free_is_none n ns is = not_true (has_number n ns) (found_passes (λ k. not (has_number k ns)) (range_with_len 1 _) n is)

pub others_have_none : OthersHaveNone
others_have_none n [] = refl
others_have_none n (x ∷ ns) =
    elim (x == n) as (λ (b : Bool). (x == n) ≡ b → has_number n (cond (not b) (x ∷ but_for n ns) (but_for n ns)) ≡ false) [
      | true ↦ λ e. others_have_none n ns
      | false ↦ λ e. or_from (x == n) (has_number n (but_for n ns)) e (others_have_none n ns)
    ] refl

-- ---- slots

module _ {T : Type 0} where
  all_stay : (n : ℕ) (slots : List (Slot T)) → has_number n (numbers_of slots) ≡ false → other_slots n slots ≡ slots
  all_stay n [] none = refl
  all_stay n (s ∷ ss) none =
      let p = or_parts (s.number == n) (has_number n (numbers_of ss)) none in
      ap (λ (b : Bool). cond (not b) (s ∷ other_slots n ss) (other_slots n ss)) p.0 ∙ ap (λ (l : List (Slot T)). s ∷ l) (all_stay n ss p.1)

  -- where numbers are different, the first slot of a number is the only one
  pub first_is_only : (n : ℕ) (slots : List (Slot T)) → AreDifferent (numbers_of slots) → without_number n slots ≡ other_slots n slots
  first_is_only n [] all = refl
  first_is_only n (s ∷ ss) all =
      elim (s.number == n) as (λ (b : Bool). (s.number == n) ≡ b → cond b ss (s ∷ without_number n ss) ≡ cond (not b) (s ∷ other_slots n ss) (other_slots n ss)) [
        | true ↦ λ e. sym (all_stay n ss (ap (λ (k : ℕ). has_number k (numbers_of ss)) (sym (eqb-true s.number n e)) ∙ all.0))
        | false ↦ λ e. ap (λ (l : List (Slot T)). s ∷ l) (first_is_only n ss all.1)
      ] refl
