-- Look-ups in a list of entries whose slots differ.
use Rattle.std.proofs.Common.{◌≡◌, ℕ, Bool, true, false, cond, ◌||◌, List, [], ◌∷◌, map, reverse, Option, Some, None, nat_eq, refl, sym, ap, ◌∙◌, subst, inl, inr}
use Rattle.std.specs.List.{find, list_any, IsDistinct, AllByRecursion}
use Rattle.std.specs.Option.{option_map, option_map_or, option_or, is_some}
use Rattle.std.proofs.lemmas.Bool.{cases_Bool, eq-eqb, eqb-true, eqb-false, ne_eqb}
use Rattle.std.proofs.lemmas.Option.{same_Some}
use Rattle.std.proofs.lemmas.Slice.Eq.{bytes_eq-Decides}
use Rattle.std.proofs.lemmas.Grind.{reverse_onto}
use Rattle.std.proofs.lemmas.List.Folds.{find-append}
use Rattle.bcv_base.specs.declared.id.Id16.{Id16}
use Rattle.bcv_cache.specs.Entry.{Entry}
use Rattle.bcv_cache.specs.Cache.{has_id, has_slot, is_unpinned, without, found_first, entry_in, slot_of, last_unpinned, id_eq, IsSlotOf, KeepsEntries}

abbrev pub slots_of : List Entry → List ℕ
slots_of es = map (λ e. e.slot) es

pub find_passes : (q : Entry → Bool) (es : List Entry) (x : Entry) → find q es ≡ Some x → q x ≡ true
find_passes q [] x h = cc
find_passes q (y ∷ es) x h = elim (cases_Bool (q y)) [
  | inl e ↦ let g = rw e at h in let is : y ≡ x = cc in subst (λ z. q z ≡ true) is e
  | inr e ↦ find_passes q es x (rw e at h)
]

pub id_eq_refl : (a : Id16) → id_eq a a ≡ true
id_eq_refl a = (bytes_eq-Decides a.0 a.0).1 refl

pub id_eq-true : (a b : Id16) → id_eq a b ≡ true → a ≡ b
id_eq-true a b h = let same : a.0 ≡ b.0 = (bytes_eq-Decides a.0 b.0).0 h in let id : List ℕ → Id16 = λ x. record { 0 = x } in ap id same

-- what holds of each slot holds of that of an entry that is found
found_slot : (P : ℕ → Type 0) (q : Entry → Bool) (es : List Entry) (x : Entry) → AllByRecursion P (slots_of es) → find q es ≡ Some x → P x.slot
found_slot P q [] x all h = cc
found_slot P q (y ∷ es) x all h = elim (cases_Bool (q y)) [
  | inl e ↦ let g = rw e at h in let is : y ≡ x = cc in subst (λ (z : Entry). P z.slot) is all.0
  | inr e ↦ found_slot P q es x all.1 (rw e at h)
]

-- the entries of other slots stay where one is taken out
pub entry_in-without : (q : Entry → Bool) (es : List Entry) (x : Entry) (slot : ℕ) → find q es ≡ Some x → (slot ≡ x.slot → ⊥) → entry_in slot (without q es) ≡ entry_in slot es
entry_in-without q [] x slot h ne = refl
entry_in-without q (y ∷ es) x slot h ne = elim (cases_Bool (q y)) [
  | inl e ↦ let g = rw e at h in let is : y ≡ x = cc in let ne' : nat_eq slot y.slot ≡ false = ne_eqb slot y.slot (λ s. ne (s ∙ ap (λ (z : Entry). z.slot) is)) in rw e (rw ne' refl)
  | inr e ↦ rw e (ap (λ o. cond (nat_eq slot y.slot) (Some y) o) (entry_in-without q es x slot (rw e at h) ne))
]

-- an entry that is found is that of its slot
pub entry_in_found : (q : Entry → Bool) (es : List Entry) (x : Entry) → IsDistinct nat_eq (slots_of es) → find q es ≡ Some x → entry_in x.slot es ≡ Some x
unfolding IsDistinct
entry_in_found q [] x d h = cc
entry_in_found q (y ∷ es) x d h = elim (cases_Bool (q y)) [
  | inl e ↦ let g = rw e at h in let is : y ≡ x = cc in subst (λ (z : Entry). entry_in z.slot (y ∷ es) ≡ Some z) is (rw (eq-eqb y.slot y.slot refl) refl)
  | inr e ↦ let g = rw e at h in
      let differs : nat_eq y.slot x.slot ≡ false = found_slot (λ z. nat_eq y.slot z ≡ false) q es x d.0 g in
      rw (ne_eqb x.slot y.slot (λ s. eqb-false y.slot x.slot differs (sym s))) (entry_in_found q es x d.1 g)
]

-- a new entry in a slot of its own hides no other
pub entry_in-cons : (n : Entry) (es : List Entry) (slot : ℕ) (e : Entry) → IsDistinct nat_eq (slots_of (n ∷ es)) → entry_in slot es ≡ Some e → entry_in slot (n ∷ es) ≡ Some e
unfolding IsDistinct
entry_in-cons n es slot e d h = elim (cases_Bool (nat_eq slot n.slot)) [
  | inl t ↦ let differs : nat_eq n.slot e.slot ≡ false = found_slot (λ z. nat_eq n.slot z ≡ false) (has_slot slot) es e d.0 h in
      let same : slot ≡ e.slot = eqb-true slot e.slot (find_passes (has_slot slot) es e h) in
      absurd (eqb-false n.slot e.slot differs (sym (eqb-true slot n.slot t) ∙ same))
  | inr t ↦ rw t h
]

-- what is found goes to the front, and each slot keeps its entry
pub KeepsEntries-found_first : (id : Id16) (es : List Entry) → IsDistinct nat_eq (slots_of es) → KeepsEntries es (found_first id es)
KeepsEntries-found_first id es d slot = (elim (find (has_id id) es) as (λ o. find (has_id id) es ≡ o → entry_in slot (option_map_or (λ x. x ∷ without (has_id id) es) o es) ≡ entry_in slot es) [
  | None ↦ λ is. refl
  | Some x ↦ λ is. elim (cases_Bool (nat_eq slot x.slot)) [
    | inl t ↦ let same : slot ≡ x.slot = eqb-true slot x.slot t in let there : entry_in slot es ≡ Some x = rw same (entry_in_found (has_id id) es x d is) in rw t (sym there)
    | inr t ↦ rw t (entry_in-without (has_id id) es x slot is (eqb-false slot x.slot t))
  ]
]) refl

-- where nothing is found, nothing moves
pub found_first-none : (id : Id16) (es : List Entry) → slot_of id es ≡ None → found_first id es ≡ es
found_first-none id es h = by_cases (find (has_id id) es) refl h
  where
    by_cases : (o : Option Entry) → find (has_id id) es ≡ o → option_map (λ (e : Entry). e.slot) o ≡ None → found_first id es ≡ es
    by_cases None is n = rw is refl
    by_cases (Some x) is n = cc

-- the slot that is found has an entry of the block
pub IsSlotOf-found : (id : Id16) (es : List Entry) (slot : ℕ) → IsDistinct nat_eq (slots_of es) → slot_of id es ≡ Some slot → IsSlotOf slot id es
IsSlotOf-found id es slot d h = by_cases (find (has_id id) es) refl h
  where
    by_cases : (o : Option Entry) → find (has_id id) es ≡ o → option_map (λ (e : Entry). e.slot) o ≡ Some slot → IsSlotOf slot id es
    by_cases None is n = cc
    by_cases (Some x) is n = let at : x.slot ≡ slot = same_Some x.slot slot n in rw (← at) (rw (entry_in_found (has_id id) es x d is) (sym (id_eq-true id x.id (find_passes (has_id id) es x is))))

pub last_unpinned-cons : (x : Entry) (es : List Entry) → last_unpinned (x ∷ es) ≡ option_or (last_unpinned es) (cond (is_unpinned x) (Some x) None)
last_unpinned-cons x es = ap (find is_unpinned) (reverse_onto es x []) ∙ find-append is_unpinned (reverse es) (x ∷ [])

-- some entry is unpinned where there is a last one
pub list_any-last_unpinned : (es : List Entry) → list_any is_unpinned es ≡ is_some (last_unpinned es)
list_any-last_unpinned [] = refl
list_any-last_unpinned (x ∷ es) = rw (last_unpinned-cons x es) (rw (list_any-last_unpinned es) (elim (last_unpinned es) as (λ o. (is_unpinned x || is_some o) ≡ is_some (option_or o (cond (is_unpinned x) (Some x) None))) [
  | None ↦ elim (is_unpinned x) as (λ b. (b || false) ≡ is_some (cond b (Some x) None)) [ true ↦ refl | false ↦ refl ]
  | Some y ↦ elim (is_unpinned x) as (λ b. (b || true) ≡ true) [ true ↦ refl | false ↦ refl ]
]))
