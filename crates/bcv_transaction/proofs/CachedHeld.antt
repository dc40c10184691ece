-- A block that is held is cached.
use Rattle.std.proofs.Common.{◌≡◌, ◌∙◌, ℕ, Bool, true, false, true≢false, cond, nat_eq, List, [], ◌∷◌, slice_get, find, Option, Some, None, is_some, option_map, refl, sym, ap, subst, inl, inr}
use Rattle.std.specs.List.{AllByRecursion}
use Rattle.std.specs.Option.{IsSomeAnd}
use Rattle.std.proofs.lemmas.Bool.{cases_Bool, eqb-true}
use Rattle.bcv_base.specs.declared.id.Id16.{Id16}
use Rattle.bcv_base.specs.HistoryLaws.{id_eq-self}
use Rattle.bcv_cache.specs.Entry.{Entry}
use Rattle.bcv_cache.specs.Cache.{IsSlotOf, has_id, has_slot, id_eq, slot_of}
use Rattle.bcv_snapshot.specs.declared.held_block.HeldBlock.{HeldBlock}
use Rattle.bcv_snapshot.specs.Opened.{Opened, IsTxn, block_id, has_block_number, number_of, pin_of}
use Rattle.bcv_snapshot.specs.Pins.{HasPins}

-- the slot of an entry of this block is found
not_there : (es : List Entry) (slot : ℕ) (id : Id16) → IsSlotOf slot id es → slot_of id es ≡ None → ⊥
not_there [] slot id there none = absurd there
not_there (e ∷ es) slot id there none = elim (cases_Bool (has_id id e)) [
  | inl is ↦ (let some : ◌≡◌ {A = Option ℕ} (Some e.slot) None = sym (ap (λ (b : Bool). option_map (λ (x : Entry). x.slot) (cond b (Some e) (find (has_id id) es))) is) ∙ none in absurd (cc))
  | inr is ↦ (let rest : slot_of id es ≡ None = sym (ap (λ (b : Bool). option_map (λ (x : Entry). x.slot) (cond b (Some e) (find (has_id id) es))) is) ∙ none in
      elim (cases_Bool (nat_eq slot e.slot)) [
        | inl at ↦ (let same : e.id ≡ id = subst (λ (b : Bool). IsSomeAnd (cond b (Some e) (find (has_slot slot) es)) (λ (x : Entry). x.id ≡ id)) at there in
            let so : has_id id e ≡ true = subst (λ (i : Id16). id_eq id i ≡ true) (sym same) (id_eq-self id) in
            absurd (true≢false (sym so ∙ is)))
        | inr other ↦ not_there es slot id (subst (λ (b : Bool). IsSomeAnd (cond b (Some e) (find (has_slot slot) es)) (λ (x : Entry). x.id ≡ id)) other there) rest
      ])
]

away : (n : ℕ) (id : Id16) (blocks : List Id16) (es : List Entry) (hs : List HeldBlock) → AllByRecursion (λ (h : HeldBlock). slice_get blocks h.number ≡ Some h.pin.id) hs
    → AllByRecursion (λ (h : HeldBlock). IsSlotOf h.pin.slot h.pin.id es) hs → slice_get blocks n ≡ Some id → slot_of id es ≡ None → is_some (pin_of n hs) ≡ false
away n id blocks es [] ids there at none = refl
away n id blocks es (h ∷ hs) ids there at none = elim (cases_Bool (nat_eq h.number n)) [
  | inl is ↦ (let read : slice_get blocks n ≡ Some h.pin.id = subst (λ (k : ℕ). slice_get blocks k ≡ Some h.pin.id) (eqb-true h.number n is) ids.0 in
      let both : Some id ≡ Some h.pin.id = sym at ∙ read in
      let same : h.pin.id ≡ id = cc in
      absurd (not_there es h.pin.slot id (subst (λ (i : Id16). IsSlotOf h.pin.slot i es) same there.0) none))
  | inr is ↦ ap (λ (b : Bool). is_some (option_map (λ (x : HeldBlock). x.pin) (cond b (Some h) (find (has_block_number n) hs)))) is ∙ away n id blocks es hs ids.1 there.1 at none
]

-- a block that is not cached is not held
pub not_held : (t : Opened) (p : ℕ) (id : Id16) (es : List Entry) → IsTxn t → HasPins t.held es → block_id t.base p ≡ Some id → slot_of id es ≡ None
    → is_some (pin_of (number_of t.base p) t.held) ≡ false
not_held t p id es is_txn pins at none = away (number_of t.base p) id t.base.entry.blocks es t.held is_txn.ids pins.ids at none
