-- Where no block can come in, as many blocks are held as the cache has slots.
use Rattle.std.proofs.Common.{◌≡◌, ◌∙◌, ℕ, zero, suc, ◌+◌, ◌≤◌, Bool, true, false, not, cond, ◌||◌, nat_eq, List, [], ◌∷◌, length, map, filter, refl, sym, ap, subst, inl, inr, arith}
use Rattle.std.specs.List.{AllByRecursion, IsDistinct, list_any}
use Rattle.std.proofs.lemmas.Bool.{cases_Bool, eqb-true, ltb-false}
use Rattle.std.proofs.lemmas.List.{length-map}
use Rattle.bcv_cache.specs.Cache.{has_free_slot, has_room, is_unpinned, IsCache}
use Rattle.bcv_cache.specs.Entry.{Blocks, Entry}
use Rattle.bcv_snapshot.specs.declared.held_block.HeldBlock.{HeldBlock}
use Rattle.bcv_snapshot.specs.Pins.{is_in, pins_in}
use Rattle.bcv_snapshot.proofs.PinLaws.{pins_both}
use Rattle.bcv_transaction.proofs.PinCounts.{HasNoOthers, one_if, one_pin}

-- the held blocks that are not in a slot
abbrev elsewhere : ℕ → List HeldBlock → List HeldBlock
elsewhere k hs = filter (λ (h : HeldBlock). not (is_in k h)) hs

pins_first : (k : ℕ) (h : HeldBlock) (hs : List HeldBlock) → pins_in k (h ∷ hs) ≡ one_if (is_in k h) + pins_in k hs
pins_first k h hs = let both = pins_both k (h ∷ []) hs in let one = one_pin k h in omega (arith, both, one)

parted : (k : ℕ) (hs : List HeldBlock) → length (elsewhere k hs) + pins_in k hs ≡ length hs
parted k [] = omega arith
parted k (h ∷ hs) =
    let rest = parted k hs in
    let first = pins_first k h hs in
    by (is_in k h) (pins_in k (h ∷ hs)) rest first
  where
    by : (b : Bool) (n : ℕ) → length (elsewhere k hs) + pins_in k hs ≡ length hs → n ≡ one_if b + pins_in k hs → length (cond (not b) (h ∷ elsewhere k hs) (elsewhere k hs)) + n ≡ length (h ∷ hs)
    by true n rest first = omega (arith, rest, first)
    by false n rest first = omega (arith, rest, first)

same_pins : (j k : ℕ) (hs : List HeldBlock) → nat_eq k j ≡ false → pins_in j (elsewhere k hs) ≡ pins_in j hs
same_pins j k [] other = refl
same_pins j k (h ∷ hs) other = elim (cases_Bool (is_in k h)) [
  | inl is ↦ (let out : is_in j h ≡ false = subst (λ (x : ℕ). nat_eq x j ≡ false) (sym (eqb-true h.pin.slot k is)) other in
      let first = pins_first j h hs in
      let none = ap one_if out in
      let rest = same_pins j k hs other in
      let drop_it = ap (λ (b : Bool). pins_in j (cond (not b) (h ∷ elsewhere k hs) (elsewhere k hs))) is in
      drop_it ∙ omega (arith, first, none, rest))
  | inr is ↦ (let first = pins_first j h hs in
      let again = pins_first j h (elsewhere k hs) in
      let rest = same_pins j k hs other in
      let keep_it = ap (λ (b : Bool). pins_in j (cond (not b) (h ∷ elsewhere k hs) (elsewhere k hs))) is in
      keep_it ∙ omega (arith, first, again, rest))
]

still : (k : ℕ) (ss : List ℕ) (hs : List HeldBlock) → AllByRecursion (λ (j : ℕ). nat_eq k j ≡ false) ss → AllByRecursion (λ (j : ℕ). 1 ≤ pins_in j hs) ss → AllByRecursion (λ (j : ℕ). 1 ≤ pins_in j (elsewhere k hs)) ss
still k [] hs others some = tt
still k (j ∷ ss) hs others some = (subst (λ (n : ℕ). 1 ≤ n) (sym (same_pins j k hs others.0)) some.0, still k ss hs others.1 some.1)

-- slots with pins are no more than the pins
counted : (ss : List ℕ) (hs : List HeldBlock) → IsDistinct nat_eq ss → AllByRecursion (λ (k : ℕ). 1 ≤ pins_in k hs) ss → length ss ≤ length hs
unfolding IsDistinct
counted [] hs d some = omega arith
counted (k ∷ ss) hs d some =
    let rest = counted ss (elsewhere k hs) d.1 (still k ss hs d.0 some.1) in
    let whole = parted k hs in
    let one = some.0 in
    omega (arith, rest, whole, one)

all_pinned : (hs : List HeldBlock) (es : List Entry) → HasNoOthers hs es → list_any is_unpinned es ≡ false → AllByRecursion (λ (k : ℕ). 1 ≤ pins_in k hs) (map (λ (e : Entry). e.slot) es)
all_pinned hs [] all none = tt
all_pinned hs (e ∷ es) all none = by (is_unpinned e) refl none (λ r. all_pinned hs es all.1 r)
  where
    some : (n m : ℕ) → nat_eq n 0 ≡ false → n ≤ m → 1 ≤ m
    some zero m not_zero le = absurd (cc)
    some (suc n) m not_zero le = omega (arith, le)

    by : (b : Bool) → is_unpinned e ≡ b → (b || list_any is_unpinned es) ≡ false → (list_any is_unpinned es ≡ false → AllByRecursion (λ (k : ℕ). 1 ≤ pins_in k hs) (map (λ (x : Entry). x.slot) es))
        → AllByRecursion (λ (k : ℕ). 1 ≤ pins_in k hs) (map (λ (x : Entry). x.slot) (e ∷ es))
    by true is rest more = absurd (cc)
    by false is rest more = (some e.count (pins_in e.slot hs) is all.0, more rest)

pub full_is_held : (c : Blocks) (hs : List HeldBlock) → IsCache c → HasNoOthers hs c.entries → has_room c ≡ false → c.most ≤ length hs
full_is_held c hs is all full = by (has_free_slot c) refl full
  where
    by : (b : Bool) → has_free_slot c ≡ b → (b || list_any is_unpinned c.entries) ≡ false → c.most ≤ length hs
    by true free none = absurd (cc)
    by false free none =
        let most = ltb-false (length c.entries) c.most free in
        let slots = counted (map (λ (e : Entry). e.slot) c.entries) hs is.slots_differ (all_pinned hs c.entries all none) in
        let same = length-map c.entries (λ (e : Entry). e.slot) in
        omega (arith, most, slots, same)
