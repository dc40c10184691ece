-- The entry of a slot that gets one more pin, and what a hold leaves of it.
use Rattle.std.proofs.Common.{◌≡◌, ℕ, ◌+◌, ◌≤◌, Bool, true, false, cond, nat_eq, List, [], ◌∷◌, map, Option, Some, None, Result, Ok, Err, option_map, IsSomeAnd, refl, sym, subst, arith}
use Rattle.bcv_base.specs.declared.id.Id16.{Id16}
use Rattle.bcv_cache.specs.Entry.{Entry, Blocks}
use Rattle.bcv_cache.specs.Cache.{entry_in, counted_up, IsSlotOf}
use Rattle.bcv_snapshot.specs.Opened.{Opened}
use Rattle.bcv_snapshot.specs.TxnCalls.{TxnHolds}

slot_up : (slot : ℕ) (e : Entry) → (counted_up slot e).slot ≡ e.slot
slot_up slot e = elim (nat_eq slot e.slot) as (λ b. (cond b (record e { count = e.count + 1 }) e).slot ≡ e.slot) [ true ↦ refl | false ↦ refl ]

-- the entry of each slot, with the pin where it is the pinned one
entry_up : (slot : ℕ) (es : List Entry) (k : ℕ) → entry_in k (map (counted_up slot) es) ≡ option_map (counted_up slot) (entry_in k es)
entry_up slot [] k = refl
entry_up slot (e ∷ es) k =
    subst (λ (n : ℕ). cond (nat_eq k n) (Some (counted_up slot e)) (entry_in k (map (counted_up slot) es)) ≡ option_map (counted_up slot) (cond (nat_eq k e.slot) (Some e) (entry_in k es)))
    (sym (slot_up slot e)) (by (nat_eq k e.slot) (entry_up slot es k))
  where
    by : (b : Bool) → entry_in k (map (counted_up slot) es) ≡ option_map (counted_up slot) (entry_in k es)
        → cond b (Some (counted_up slot e)) (entry_in k (map (counted_up slot) es)) ≡ option_map (counted_up slot) (cond b (Some e) (entry_in k es))
    by true rest = refl
    by false rest = rest

-- a fact on a count of which one more knows no other
few_up : (slot n : ℕ) (o : Option Entry) → IsSomeAnd o (λ e. e.count ≤ n) → IsSomeAnd (option_map (counted_up slot) o) (λ e. e.count ≤ n + 1)
few_up slot n None few = few
few_up slot n (Some e) few = by (nat_eq slot e.slot)
  where
    by : (b : Bool) → (cond b (record e { count = e.count + 1 }) e).count ≤ n + 1
    by true = omega (arith, few)
    by false = omega (arith, few)

more_pins : (slot n : ℕ) (es : List Entry) → IsSomeAnd (entry_in slot es) (λ e. e.count ≤ n) → IsSomeAnd (entry_in slot (map (counted_up slot) es)) (λ e. e.count ≤ n + 1)
more_pins slot n es few = subst (λ (o : Option Entry). IsSomeAnd o (λ e. e.count ≤ n + 1)) (sym (entry_up slot es slot)) (few_up slot n (entry_in slot es) few)

-- no fewer where there is none more
as_few : (n : ℕ) (o : Option Entry) → IsSomeAnd o (λ e. e.count ≤ n) → IsSomeAnd o (λ e. e.count ≤ n + 1)
as_few n None few = few
as_few n (Some e) few = omega (arith, few)

same_block : (slot : ℕ) (id : Id16) (o : Option Entry) → IsSomeAnd o (λ e. e.id ≡ id) → IsSomeAnd (option_map (counted_up slot) o) (λ e. e.id ≡ id)
same_block slot id None is = is
same_block slot id (Some e) is = by (nat_eq slot e.slot)
  where
    by : (b : Bool) → (cond b (record e { count = e.count + 1 }) e).id ≡ id
    by true = is
    by false = is

still_there : (slot : ℕ) (id : Id16) (es : List Entry) → IsSlotOf slot id es → IsSlotOf slot id (map (counted_up slot) es)
still_there slot id es is = subst (λ (o : Option Entry). IsSomeAnd o (λ e. e.id ≡ id)) (sym (entry_up slot es slot)) (same_block slot id (entry_in slot es) is)

-- a fact that stays where an entry stays or gets one more pin, stays in a hold
kept_by_hold : {E : Type 0} (P Q : List Entry → Type 0) (slot : ℕ) → ((es : List Entry) → P es → Q es) → ((es : List Entry) → P es → Q (map (counted_up slot) es))
    → (held : Bool) (t u : Opened) (c d : Blocks) (p : ℕ) (r : Result (Unit {0}) E) → TxnHolds held t c p slot r u d → P c.entries → Q d.entries
kept_by_hold P Q slot same more true t u c d p (Ok done) holds before = subst (λ (b : Blocks). Q b.entries) (sym holds.1) (same c.entries before)
kept_by_hold P Q slot same more true t u c d p (Err e) holds before = absurd holds
kept_by_hold P Q slot same more false t u c d p (Ok done) holds before = subst (λ (b : Blocks). Q b.entries) (sym holds.pinned) (more c.entries before)
kept_by_hold P Q slot same more false t u c d p (Err e) holds before = subst (λ (b : Blocks). Q b.entries) (sym holds.1) (same c.entries before)

pub few_after : {E : Type 0} (n slot : ℕ) (held : Bool) (t u : Opened) (c d : Blocks) (p : ℕ) (r : Result (Unit {0}) E) → TxnHolds held t c p slot r u d
    → IsSomeAnd (entry_in slot c.entries) (λ e. e.count ≤ n) → IsSomeAnd (entry_in slot d.entries) (λ e. e.count ≤ n + 1)
few_after n slot =
    kept_by_hold (λ es. IsSomeAnd (entry_in slot es) (λ e. e.count ≤ n)) (λ es. IsSomeAnd (entry_in slot es) (λ e. e.count ≤ n + 1)) slot
    (λ es. as_few n (entry_in slot es)) (more_pins slot n)

pub there_after : {E : Type 0} (id : Id16) (slot : ℕ) (held : Bool) (t u : Opened) (c d : Blocks) (p : ℕ) (r : Result (Unit {0}) E) → TxnHolds held t c p slot r u d
    → IsSlotOf slot id c.entries → IsSlotOf slot id d.entries
there_after id slot = kept_by_hold (IsSlotOf slot id) (IsSlotOf slot id) slot (λ es is. is) (still_there slot id)
