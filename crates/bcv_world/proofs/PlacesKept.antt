-- One place is taken out and another one put in under its number: the other numbers have what they had.
use Rattle.std.proofs.Common.{◌≡◌, ◌∙◌, ◌==◌, ◌⊎◌, inl, inr, ℕ, ◌+◌, ◌-◌, ◌<◌, ◌≤◌, Bool, true, false, not, cond, ◌||◌, List, [], ◌∷◌, ◌++◌, filter, find, Option, Some, None, MatchOption, refl, sym, ap, subst, arith}
use Rattle.std.proofs.lemmas.Bool.{cases_eq, eq-eqb, eqb-true, ne_eqb, or_parts, or_from}
use Rattle.std.specs.Option.{option_map}
use Rattle.bcv_slots.specs.declared.Slot.{Slot}
use Rattle.bcv_slots.specs.Numbered.{AreDifferent, but_for, has_number, item_at, numbers_of, other_slots}
use Rattle.bcv_slots.specs.NumberLaws.{DifferWith, DifferWithout, OthersHaveNone}
use Rattle.bcv_world.specs.WorldForm.{HasPlaces}

-- ---- numbers

kept_none : (k : ℕ) (test : ℕ → Bool) (ns : List ℕ) → has_number k ns ≡ false → has_number k (filter test ns) ≡ false
kept_none k test [] none = refl
kept_none k test (x ∷ ns) none =
    let p = or_parts (x == k) (has_number k ns) none in
    elim (test x) as (λ (b : Bool). has_number k (cond b (x ∷ filter test ns) (filter test ns)) ≡ false) [
      | true ↦ or_from (x == k) (has_number k (filter test ns)) p.0 (kept_none k test ns p.1)
      | false ↦ kept_none k test ns p.1
    ]

added_none : (k n : ℕ) (ns : List ℕ) → has_number k ns ≡ false → (n ≡ k → ⊥) → has_number k (ns ++ n ∷ []) ≡ false
added_none k n [] none other = or_from (n == k) false (ne_eqb n k other) refl
added_none k n (x ∷ ns) none other =
    let p = or_parts (x == k) (has_number k ns) none in or_from (x == k) (has_number k (ns ++ n ∷ [])) p.0 (added_none k n ns p.1 other)

module _ {T : Type 0} where
  abbrev item_of : Slot T → T
  item_of s = s.item

  abbrev is_number : ℕ → Slot T → Bool
  is_number n s = s.number == n

  numbers_left : (n : ℕ) (slots : List (Slot T)) → numbers_of (other_slots n slots) ≡ but_for n (numbers_of slots)
  numbers_left n [] = refl
  numbers_left n (s ∷ ss) =
      elim (s.number == n) as (λ (b : Bool). numbers_of (cond (not b) (s ∷ other_slots n ss) (other_slots n ss)) ≡ cond (not b) (s.number ∷ but_for n (numbers_of ss)) (but_for n (numbers_of ss))) [
        | true ↦ numbers_left n ss
        | false ↦ ap (λ (l : List ℕ). s.number ∷ l) (numbers_left n ss)
      ]

  numbers_added : (ss : List (Slot T)) (s : Slot T) → numbers_of (ss ++ s ∷ []) ≡ numbers_of ss ++ s.number ∷ []
  numbers_added [] s = refl
  numbers_added (x ∷ ss) s = ap (λ (l : List ℕ). x.number ∷ l) (numbers_added ss s)

  -- ---- items

  found_left : (m n : ℕ) (slots : List (Slot T)) → (m ≡ n → ⊥) → item_at m (other_slots n slots) ≡ item_at m slots
  found_left m n [] ne = refl
  found_left m n (s ∷ ss) ne =
      elim (s.number == n) as (λ (b : Bool). (s.number == n) ≡ b → item_at m (cond (not b) (s ∷ other_slots n ss) (other_slots n ss)) ≡ item_at m (s ∷ ss)) [
        | true ↦ λ e. found_left m n ss ne ∙ ap (λ (b : Bool). option_map item_of (cond b (Some s) (find (is_number m) ss))) (sym (ne_eqb s.number m (λ same. ne (sym same ∙ eqb-true s.number n e))))
        | false ↦ λ e.
            (elim (s.number == m) as (λ (b : Bool). option_map item_of (cond b (Some s) (find (is_number m) (other_slots n ss))) ≡ option_map item_of (cond b (Some s) (find (is_number m) ss))) [
              | true ↦ refl
              | false ↦ found_left m n ss ne
            ])
      ] refl

  added_last : (m : ℕ) (ss : List (Slot T)) (s : Slot T) → has_number m (numbers_of ss) ≡ false → s.number ≡ m → item_at m (ss ++ s ∷ []) ≡ Some s.item
  added_last m [] s none same = ap (λ (b : Bool). option_map item_of (cond b (Some s) None)) (eq-eqb s.number m same)
  added_last m (x ∷ ss) s none same =
      let p = or_parts (x.number == m) (has_number m (numbers_of ss)) none in
      ap (λ (b : Bool). option_map item_of (cond b (Some x) (find (is_number m) (ss ++ s ∷ [])))) p.0 ∙ added_last m ss s p.1 same

  added_other : (m : ℕ) (ss : List (Slot T)) (s : Slot T) → (s.number ≡ m → ⊥) → item_at m (ss ++ s ∷ []) ≡ item_at m ss
  added_other m [] s other = ap (λ (b : Bool). option_map item_of (cond b (Some s) None)) (ne_eqb s.number m other)
  added_other m (x ∷ ss) s other =
      elim (x.number == m) as (λ (b : Bool). option_map item_of (cond b (Some x) (find (is_number m) (ss ++ s ∷ []))) ≡ option_map item_of (cond b (Some x) (find (is_number m) ss))) [
        | true ↦ refl
        | false ↦ added_other m ss s other
      ]

  -- what is put in under a number is found there
  pub put_found : (n : ℕ) (slots : List (Slot T)) (new : T) → OthersHaveNone → item_at n (other_slots n slots ++ record { number = n; item = new } ∷ []) ≡ Some new
  put_found n slots new none = added_last n (other_slots n slots) (record { number = n; item = new }) (ap (has_number n) (numbers_left n slots) ∙ none n (numbers_of slots)) refl

  -- the other numbers have what they had
  pub put_others : (m n : ℕ) (slots : List (Slot T)) (new : T) → (m ≡ n → ⊥) → item_at m (other_slots n slots ++ record { number = n; item = new } ∷ []) ≡ item_at m slots
  put_others m n slots new other = added_other m (other_slots n slots) (record { number = n; item = new }) (λ same. other (sym same)) ∙ found_left m n slots other

  -- ---- places

  module _ (Is : ℕ → T → Type 0) (count n : ℕ) (slots : List (Slot T)) (has : HasPlaces Is count slots) (from : 1 ≤ n) (to : n ≤ count) where
    pub place_found : (x : T) → Some x ≡ item_at n slots → Is n x
    place_found x found = subst (λ (o : Option T). MatchOption o ⊥ (Is n)) (sym found) (has.at n from to)

    pub place_there : None ≡ item_at n slots → ⊥
    place_there missing = subst (λ (o : Option T). MatchOption o ⊥ (Is n)) (sym missing) (has.at n from to)

    module _ (Js : ℕ → T → Type 0) (new : T) where
      abbrev later : List (Slot T)
      later = other_slots n slots ++ record { number = n; item = new } ∷ []

      numbers_now : numbers_of later ≡ but_for n (numbers_of slots) ++ n ∷ []
      numbers_now = numbers_added (other_slots n slots) (record { number = n; item = new }) ∙ ap (λ (l : List ℕ). l ++ n ∷ []) (numbers_left n slots)

      pub places_put : DifferWith → DifferWithout → OthersHaveNone → ((m : ℕ) (x : T) → (m ≡ n → ⊥) → Is m x → Js m x) → Js n new → HasPlaces Js count later
      places_put with without none stay is =
          record {
            differ = subst AreDifferent (sym numbers_now) (with n (but_for n (numbers_of slots)) (without n (numbers_of slots) has.differ) (none n (numbers_of slots)));
            at = λ m low high. there m low high (cases_eq m n);
            others = λ m past. ap (has_number m) numbers_now ∙ added_none m n (but_for n (numbers_of slots)) (kept_none m (λ k. not (k == n)) (numbers_of slots) (has.others m past)) (λ same. absurd (omega (arith, same, past, to)));
          }
        where
          stays : (m : ℕ) → (m ≡ n → ⊥) → (o : Option T) → MatchOption o ⊥ (Is m) → MatchOption o ⊥ (Js m)
          stays m ne None at = at
          stays m ne (Some x) at = stay m x ne at

          there : (m : ℕ) → 1 ≤ m → m ≤ count → (m ≡ n) ⊎ (m ≡ n → ⊥) → MatchOption (item_at m later) ⊥ (Js m)
          there m low high (inl same) =
              subst (λ (k : ℕ). MatchOption (item_at k later) ⊥ (Js k)) (sym same) (subst (λ (o : Option T). MatchOption o ⊥ (Js n)) (sym (put_found n slots new none)) is)
          there m low high (inr ne) =
              let found : item_at m later ≡ item_at m slots = put_others m n slots new ne in
              subst (λ (o : Option T). MatchOption o ⊥ (Js m)) (sym found) (stays m ne (item_at m slots) (has.at m low high))

  -- ---- the first places

  pub no_places : (Is : ℕ → T → Type 0) (count : ℕ) → count ≡ 0 → HasPlaces Is count []
  no_places Is count none = record { differ = tt; at = λ n low high. absurd (omega (arith, none, low, high)); others = λ n past. refl }

  -- the place of the next number is added
  pub places_more : (Is Js : ℕ → T → Type 0) (count n : ℕ) (slots : List (Slot T)) (new : T) → n ≡ count + 1 → DifferWith → HasPlaces Is count slots
      → ((m : ℕ) (x : T) → 1 ≤ m → m ≤ count → Is m x → Js m x) → Js n new → HasPlaces Js n (slots ++ record { number = n; item = new } ∷ [])
  places_more Is Js count n slots new next with has stay is =
      record {
        differ = subst AreDifferent (sym numbers_now) (with n (numbers_of slots) has.differ none);
        at = λ m low high. there m low high (cases_eq m n);
        others = λ m past. ap (has_number m) numbers_now ∙ added_none m n (numbers_of slots) (has.others m (omega (arith, past, next))) (λ same. absurd (omega (arith, same, past)));
      }
    where
      none : has_number n (numbers_of slots) ≡ false
      none = has.others n (omega (arith, next))

      numbers_now : numbers_of (slots ++ record { number = n; item = new } ∷ []) ≡ numbers_of slots ++ n ∷ []
      numbers_now = numbers_added slots (record { number = n; item = new })

      stays : (m : ℕ) → 1 ≤ m → m ≤ count → (o : Option T) → MatchOption o ⊥ (Is m) → MatchOption o ⊥ (Js m)
      stays m low high None at = at
      stays m low high (Some x) at = stay m x low high at

      there : (m : ℕ) → 1 ≤ m → m ≤ n → (m ≡ n) ⊎ (m ≡ n → ⊥) → MatchOption (item_at m (slots ++ record { number = n; item = new } ∷ [])) ⊥ (Js m)
      there m low high (inl same) =
          subst (λ (k : ℕ). MatchOption (item_at k (slots ++ record { number = n; item = new } ∷ [])) ⊥ (Js k)) (sym same)
          (subst (λ (o : Option T). MatchOption o ⊥ (Js n)) (sym (added_last n slots (record { number = n; item = new }) none refl)) is)
      there m low high (inr ne) =
          let within : m ≤ count = omega (arith, ne, high, next) in
          subst (λ (o : Option T). MatchOption o ⊥ (Js m)) (sym (added_other m slots (record { number = n; item = new }) (λ same. ne (sym same))))
          (stays m low within (item_at m slots) (has.at m low within))
