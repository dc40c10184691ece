-- The pins on an entry are few: each transaction holds a block of its base once.
use Rattle.std.proofs.Common.{◌≡◌, ◌∙◌, ℕ, zero, suc, ◌+◌, ◌*◌, ◌<◌, ◌≤◌, Bool, true, ◌||◌, nat_eq, List, [], ◌∷◌, ◌++◌, length, map, slice_get, Option, Some, None, refl, sym, ap, inl, inr, arith}
use Rattle.std.specs.List.{AllByRecursion, list_any}
use Rattle.std.specs.Option.{option_map_or}
use Rattle.std.proofs.lemmas.Bool.{cases_Bool, eqb-true}
use Rattle.std.proofs.lemmas.List.{length-append, length-map}
use Rattle.std.proofs.lemmas.Map.Steps.{length-le_from_distinct_below}
use Rattle.bcv_base.specs.declared.id.Id16.{Id16}
use Rattle.bcv_cache.specs.Entry.{Blocks, Entry}
use Rattle.bcv_cache.specs.Cache.{entry_in, has_slot}
use Rattle.bcv_snapshot.specs.declared.held_block.HeldBlock.{HeldBlock}
use Rattle.bcv_snapshot.specs.Opened.{Opened, IsTxn}
use Rattle.bcv_snapshot.specs.Pins.{is_in, pin_count, pins_in}
use Rattle.bcv_snapshot.proofs.CacheLaws.{found_in}
use Rattle.bcv_transaction.specs.declared.open_txn.OpenTxn.{OpenTxn}
use Rattle.bcv_transaction.specs.Open.{AreOpenIn, all_held, numbers_of}
use Rattle.std.proofs.lemmas.List.Sums.{count_by-le-length}

below_length : (xs : List Id16) (n : ℕ) (x : Id16) → slice_get xs n ≡ Some x → n < length xs
below_length [] n x at = absurd (cc)
below_length (y ∷ ys) zero x at = omega arith
below_length (y ∷ ys) (suc n) x at = (let rest = below_length ys n x at in omega (arith, rest))

held_below : (blocks : List Id16) (hs : List HeldBlock) → AllByRecursion (λ (h : HeldBlock). slice_get blocks h.number ≡ Some h.pin.id) hs
    → (q : ℕ) → list_any (nat_eq q) (map (λ (h : HeldBlock). h.number) hs) ≡ true → q < length blocks
held_below blocks [] all q is = absurd (cc)
held_below blocks (h ∷ hs) all q is = elim (cases_Bool (nat_eq q h.number)) [
  | inl t ↦ (let at = below_length blocks h.number h.pin.id all.0 in let same = eqb-true q h.number t in omega (arith, at, same))
  | inr t ↦ held_below blocks hs all.1 q (ap (λ (b : Bool). b || list_any (nat_eq q) (map (λ (h : HeldBlock). h.number) hs)) (sym t) ∙ is)
]

held_few : (t : Opened) → IsTxn t → length t.held ≤ 65536
held_few t is =
    let most = length-le_from_distinct_below (map (λ (h : HeldBlock). h.number) t.held) (length t.base.entry.blocks) is.differ (held_below t.base.entry.blocks t.held is.ids) in
    let same : length (map (λ (h : HeldBlock). h.number) t.held) ≡ length t.held = length-map t.held (λ (h : HeldBlock). h.number) in
    let few : length t.base.entry.blocks ≤ 65536 = is.entry.few in
    omega (arith, most, same, few)

all_few : (ts : List OpenTxn) → AllByRecursion (λ (t : OpenTxn). IsTxn t.txn) ts → length (all_held ts) ≤ length ts * 65536
all_few [] all = omega arith
all_few (t ∷ ts) all =
    let one = held_few t.txn all.0 in
    let rest = all_few ts all.1 in
    let both : length (t.txn.held ++ all_held ts) ≡ length t.txn.held + length (all_held ts) = length-append t.txn.held (all_held ts) in
    omega (arith, one, rest, both)

numbers_below : (ts : List OpenTxn) → AllByRecursion (λ (t : OpenTxn). (1 ≤ t.number) × (t.number ≤ 64)) ts → (q : ℕ) → list_any (nat_eq q) (numbers_of ts) ≡ true → q < 65
numbers_below [] all q is = absurd (cc)
numbers_below (t ∷ ts) all q is = elim (cases_Bool (nat_eq q t.number)) [
  | inl same ↦ (let at = all.0.1 in let e = eqb-true q t.number same in omega (arith, at, e))
  | inr other ↦ numbers_below ts all.1 q (ap (λ (b : Bool). b || list_any (nat_eq q) (numbers_of ts)) (sym other) ∙ is)
]

pub few_pins : (c : Blocks) (ts : List OpenTxn) → AreOpenIn c ts → (slot : ℕ) → pin_count slot c.entries < 4294967295
few_pins c ts is slot = by (entry_in slot c.entries) refl
  where
    most : length ts ≤ 65
    most =
        let le = length-le_from_distinct_below (numbers_of ts) 65 is.differ (numbers_below ts is.numbers) in
        let same : length (numbers_of ts) ≡ length ts = length-map ts (λ (t : OpenTxn). t.number) in
        omega (arith, le, same)

    by : (o : Option Entry) → entry_in slot c.entries ≡ o → option_map_or (λ (e : Entry). e.count) o 0 < 4294967295
    by None at = omega arith
    by (Some e) at =
        let one : e.count ≤ pins_in e.slot (all_held ts) = found_in (λ (x : Entry). x.count ≤ pins_in x.slot (all_held ts)) (has_slot slot) c.entries e is.no_others at in
        let two : pins_in e.slot (all_held ts) ≤ length (all_held ts) = count_by-le-length (is_in e.slot) (all_held ts) in
        let three = all_few ts is.txns in
        let four = most in
        omega (arith, one, two, three, four)
