-- Pins on the entries of a cache, where one more is given or some are given back.
use Rattle.std.proofs.Common.{◌≡◌, ◌∙◌, ℕ, zero, suc, ◌+◌, ◌-◌, ◌<◌, ◌≤◌, Bool, true, false, cond, nat_eq, List, [], ◌∷◌, ◌++◌, length, map, slice_get, Option, Some, None, option_map, append-nil, if◌then◌else◌, rules, refl, sym, ap, subst, inl, inr, arith}
use Rattle.std.specs.List.{AllByRecursion, find}
use Rattle.std.specs.Option.{option_map_or, IsSomeAnd}
use Rattle.std.proofs.lemmas.Bool.{cases_Bool, eqb-true}
use Rattle.std.proofs.lemmas.List.Sums.{sum_by-append}
use Rattle.bcv_cache.specs.Entry.{Entry}
use Rattle.bcv_cache.specs.Cache.{entry_in, without, counted_up, counted_down, IsHeld, IsSlotOf, KeepsEntries, KeepsPinned}
use Rattle.bcv_snapshot.specs.declared.held_block.HeldBlock.{HeldBlock}
use Rattle.bcv_snapshot.specs.Pins.{is_in, pins_in, pin_count, given_back, HasPins, KeepsPins, PinsStay}
use Rattle.bcv_snapshot.proofs.HeldBlocks.{all_imply, all_both, all_front, all_rest, all_at, all_without}

-- ---- how many pins are on a slot

-- 1 where it holds
abbrev one_if : Bool → ℕ
one_if b = if b then 1 else 0

pub pins_both : (slot : ℕ) (a b : List HeldBlock) → pins_in slot (a ++ b) ≡ pins_in slot a + pins_in slot b
pins_both slot a b = sum_by-append _ a b

pins_first : (slot : ℕ) (h : HeldBlock) (hs : List HeldBlock) → pins_in slot (h ∷ hs) ≡ one_if (is_in slot h) + pins_in slot hs
pins_first slot h hs = pins_both slot (h ∷ []) hs ∙ omega arith

pins_without : (slot : ℕ) (test : HeldBlock → Bool) (hs : List HeldBlock) (h : HeldBlock) → find test hs ≡ Some h → pins_in slot hs ≡ one_if (is_in slot h) + pins_in slot (without test hs)
pins_without slot test [] h found = absurd (cc)
pins_without slot test (x ∷ xs) h found = elim (cases_Bool (test x)) [
  | inl t ↦ let same : x ≡ h = (let some = rw t at found in cc) in rw t (subst (λ (y : HeldBlock). pins_in slot (x ∷ xs) ≡ one_if (is_in slot y) + pins_in slot xs) same (pins_first slot x xs))
  | inr t ↦ rw t (omega (arith, pins_first slot x xs, pins_first slot x (without test xs), pins_without slot test xs h (rw t at found)))
]

pins_at : (hs : List HeldBlock) (n : ℕ) (h : HeldBlock) → slice_get hs n ≡ Some h → 1 ≤ pins_in h.pin.slot hs
pins_at [] n h at = absurd (cc)
pins_at (x ∷ xs) zero h at =
    let same : x ≡ h = cc in
    omega (arith, pins_first h.pin.slot x xs, ap one_if (subst (λ (y : HeldBlock). is_in y.pin.slot x ≡ true) same (itself x.pin.slot)))
  where
    itself : (k : ℕ) → nat_eq k k ≡ true
    itself k = search rules
pins_at (x ∷ xs) (suc n) h at = omega (arith, pins_first h.pin.slot x xs, pins_at xs n h at)

-- ---- entries that change in their counts alone

pub record IsRecounted (f : Entry → Entry) (before after : List Entry) : Type 0 where
  pub slots : (k : ℕ) → entry_in k after ≡ option_map f (entry_in k before)
  pub ids : (e : Entry) → (f e).id ≡ e.id

-- the entry of a slot is in it
pub slot_is : (k : ℕ) (es : List Entry) (e : Entry) → entry_in k es ≡ Some e → e.slot ≡ k
slot_is k [] e h = absurd (cc)
slot_is k (x ∷ xs) e h = elim (cases_Bool (nat_eq k x.slot)) [
  | inl t ↦ let same : x ≡ e = (let some = rw t at h in cc) in subst (λ (y : Entry). y.slot ≡ k) same (sym (eqb-true k x.slot t))
  | inr t ↦ slot_is k xs e (rw t at h)
]

-- the count of the entry that may be there
abbrev count_of : Option Entry → ℕ
count_of o = option_map_or (λ e. e.count) o 0

id_kept : (f : Entry → Entry) → ((e : Entry) → (f e).id ≡ e.id) → (o : Option Entry) (h : HeldBlock) → IsSomeAnd o (λ e. e.id ≡ h.pin.id) → IsSomeAnd (option_map f o) (λ e. e.id ≡ h.pin.id)
id_kept f same None h is = is
id_kept f same (Some e) h is = same e ∙ is

pub pins_after : (f : Entry → Entry) (all left : List HeldBlock) (before after : List Entry) → IsRecounted f before after
    → AllByRecursion (λ h. IsSlotOf h.pin.slot h.pin.id before) left
    → ((k : ℕ) (o : Option Entry) → entry_in k before ≡ o → pins_in k all ≤ count_of o → pins_in k left ≤ count_of (option_map f o))
    → HasPins all before → HasPins left after
pins_after f all left before after r ids counts has = record {
  ids = all_imply (λ (h : HeldBlock). IsSlotOf h.pin.slot h.pin.id before) (λ (h : HeldBlock). IsSlotOf h.pin.slot h.pin.id after)
      (λ h is. subst (λ (o : Option Entry). IsSomeAnd o (λ e. e.id ≡ h.pin.id)) (sym (r.slots h.pin.slot)) (id_kept f r.ids (entry_in h.pin.slot before) h is)) left ids;
  counts = λ k. subst (λ (o : Option Entry). pins_in k left ≤ count_of o) (sym (r.slots k)) (counts k (entry_in k before) refl (has.counts k));
}

-- what a pin holds
held_by : (k : ℕ) (id : _) (o : Option Entry) → IsSomeAnd o (λ e. e.id ≡ id) → 1 ≤ count_of o → IsSomeAnd o (λ e. (e.id ≡ id) × (0 < e.count))
held_by k id None is some = is
held_by k id (Some e) is some = (is, omega arith)

pub pin_held : (hs : List HeldBlock) (n : ℕ) (h : HeldBlock) (es : List Entry) → HasPins hs es → slice_get hs n ≡ Some h → IsHeld h.pin es
pin_held hs n h es has at =
    held_by h.pin.slot h.pin.id (entry_in h.pin.slot es) (all_at (λ (x : HeldBlock). IsSlotOf x.pin.slot x.pin.id es) hs n h has.ids at)
    (omega (arith, has.counts h.pin.slot, pins_at hs n h at))

-- ---- one pin less

freed_count : (b : Bool) (e : Entry) (before left : ℕ) → before ≡ one_if b + left → before ≤ e.count → left ≤ (cond b (record e { count = e.count - 1 }) e).count
freed_count true e before left is le = omega arith
freed_count false e before left is le = omega arith

pub freed : (test : HeldBlock → Bool) (hs : List HeldBlock) (h : HeldBlock) (before after : List Entry) → find test hs ≡ Some h
    → ((k : ℕ) → entry_in k after ≡ option_map (counted_down h.pin.slot) (entry_in k before)) → KeepsPins hs before (without test hs) after
freed test hs h before after found slots others has =
    pins_after (counted_down h.pin.slot) (hs ++ others) (without test hs ++ others) before after (record { slots = slots; ids = same_id })
    (all_both _ (without test hs) others (all_without _ test hs (all_front _ hs others has.ids)) (all_rest _ hs others has.ids))
    counts has
  where
    same_id : (e : Entry) → (counted_down h.pin.slot e).id ≡ e.id
    same_id e = elim (nat_eq h.pin.slot e.slot) as (λ b. (cond b (record e { count = e.count - 1 }) e).id ≡ e.id) [ true ↦ refl | false ↦ refl ]

    counts : (k : ℕ) (o : Option Entry) → entry_in k before ≡ o → pins_in k (hs ++ others) ≤ count_of o → pins_in k (without test hs ++ others) ≤ count_of (option_map (counted_down h.pin.slot) o)
    counts k None is le = omega (arith, pins_both k hs others, pins_both k (without test hs) others, pins_without k test hs h found)
    counts k (Some e) is le =
        let slot : e.slot ≡ k = slot_is k before e is in
        let split : pins_in k (hs ++ others) ≡ one_if (nat_eq h.pin.slot k) + pins_in k (without test hs ++ others) = omega (arith, pins_both k hs others, pins_both k (without test hs) others, pins_without k test hs h found) in
        freed_count (nat_eq h.pin.slot e.slot) e (pins_in k (hs ++ others)) (pins_in k (without test hs ++ others)) (subst (λ (n : ℕ). pins_in k (hs ++ others) ≡ one_if (nat_eq h.pin.slot n) + pins_in k (without test hs ++ others)) (sym slot) split) le

-- ---- one pin more

held_count : (b : Bool) (e : Entry) (before after : ℕ) → after ≡ one_if b + before → before ≤ e.count → after ≤ (cond b (record e { count = e.count + 1 }) e).count
held_count true e before after is le = omega arith
held_count false e before after is le = omega arith

pub held_more : (hs : List HeldBlock) (h : HeldBlock) (before after : List Entry) → IsSlotOf h.pin.slot h.pin.id before
    → ((k : ℕ) → entry_in k after ≡ option_map (counted_up h.pin.slot) (entry_in k before)) → KeepsPins hs before (hs ++ h ∷ []) after
held_more hs h before after there slots others has =
    pins_after (counted_up h.pin.slot) (hs ++ others) ((hs ++ h ∷ []) ++ others) before after (record { slots = slots; ids = same_id })
    (all_both _ (hs ++ h ∷ []) others (all_both _ hs (h ∷ []) (all_front _ hs others has.ids) (there, tt)) (all_rest _ hs others has.ids))
    counts has
  where
    same_id : (e : Entry) → (counted_up h.pin.slot e).id ≡ e.id
    same_id e = elim (nat_eq h.pin.slot e.slot) as (λ b. (cond b (record e { count = e.count + 1 }) e).id ≡ e.id) [ true ↦ refl | false ↦ refl ]

    split : (k : ℕ) → pins_in k ((hs ++ h ∷ []) ++ others) ≡ one_if (nat_eq h.pin.slot k) + pins_in k (hs ++ others)
    split k = omega (arith, pins_both k (hs ++ h ∷ []) others, pins_both k hs (h ∷ []), pins_first k h [], pins_both k hs others)

    elsewhere : (k : ℕ) (b : Bool) → nat_eq h.pin.slot k ≡ b → entry_in k before ≡ None → b ≡ false
    elsewhere k false e none = refl
    elsewhere k true e none = absurd (subst (λ (o : Option Entry). IsSomeAnd o (λ x. x.id ≡ h.pin.id)) none (subst (λ (n : ℕ). IsSlotOf n h.pin.id before) (eqb-true h.pin.slot k e) there))

    counts : (k : ℕ) (o : Option Entry) → entry_in k before ≡ o → pins_in k (hs ++ others) ≤ count_of o → pins_in k ((hs ++ h ∷ []) ++ others) ≤ count_of (option_map (counted_up h.pin.slot) o)
    counts k None is le = omega (arith, split k, ap one_if (elsewhere k (nat_eq h.pin.slot k) refl is))
    counts k (Some e) is le =
        held_count (nat_eq h.pin.slot e.slot) e (pins_in k (hs ++ others)) (pins_in k ((hs ++ h ∷ []) ++ others))
        (subst (λ (n : ℕ). pins_in k ((hs ++ h ∷ []) ++ others) ≡ one_if (nat_eq h.pin.slot n) + pins_in k (hs ++ others)) (sym (slot_is k before e is)) (split k)) le

-- ---- all pins of some held blocks less

back_slots : (hs : List HeldBlock) (es : List Entry) (k : ℕ) → entry_in k (map (given_back hs) es) ≡ option_map (given_back hs) (entry_in k es)
back_slots hs [] k = refl
back_slots hs (e ∷ es) k = elim (nat_eq k e.slot) as (λ b. cond b (Some (given_back hs e)) (entry_in k (map (given_back hs) es)) ≡ option_map (given_back hs) (cond b (Some e) (entry_in k es))) [ true ↦ refl | false ↦ back_slots hs es k ]

pub back : (hs : List HeldBlock) (es : List Entry) → KeepsPins hs es [] (map (given_back hs) es)
back hs es others has =
    pins_after (given_back hs) (hs ++ others) others es (map (given_back hs) es) (record { slots = back_slots hs es; ids = λ e. refl })
    (all_rest _ hs others has.ids) counts has
  where
    counts : (k : ℕ) (o : Option Entry) → entry_in k es ≡ o → pins_in k (hs ++ others) ≤ count_of o → pins_in k others ≤ count_of (option_map (given_back hs) o)
    counts k None is le = omega (arith, pins_both k hs others)
    counts k (Some e) is le =
        let slot : e.slot ≡ k = slot_is k es e is in
        let split : pins_in e.slot (hs ++ others) ≡ pins_in e.slot hs + pins_in e.slot others = pins_both e.slot hs others in
        let fits : pins_in e.slot (hs ++ others) ≤ e.count = subst (λ (n : ℕ). pins_in n (hs ++ others) ≤ e.count) (sym slot) le in
        subst (λ (n : ℕ). pins_in n others ≤ e.count - pins_in e.slot hs) slot (omega (arith, split, fits))

-- the pins that go first, the last one of the held blocks first
pub none_back : (es : List Entry) → map (given_back []) es ≡ es
none_back [] = refl
none_back (e ∷ es) = ap (λ (n : ℕ). record e { count = n } ∷ map (given_back []) es) (let same : e.count - 0 ≡ e.count = omega arith in same) ∙ ap (λ (xs : List Entry). e ∷ xs) (none_back es)

one_back : (h : HeldBlock) (gone : List HeldBlock) (e : Entry) → counted_down h.pin.slot (given_back gone e) ≡ given_back (h ∷ gone) e
one_back h gone e =
    by (nat_eq h.pin.slot e.slot) (pins_in e.slot (h ∷ gone)) (pins_first e.slot h gone)
  where
    by : (b : Bool) (n : ℕ) → n ≡ one_if b + pins_in e.slot gone
        → (cond b (record (given_back gone e) { count = e.count - pins_in e.slot gone - 1 }) (given_back gone e)) ≡ record e { count = e.count - n }
    by true n is = ap (λ (k : ℕ). record e { count = k }) (let less : e.count - pins_in e.slot gone - 1 ≡ e.count - n = omega arith in less)
    by false n is = ap (λ (k : ℕ). record e { count = e.count - k }) (let same : pins_in e.slot gone ≡ n = omega arith in same)

pub more_back : (h : HeldBlock) (gone : List HeldBlock) (es : List Entry) → map (counted_down h.pin.slot) (map (given_back gone) es) ≡ map (given_back (h ∷ gone)) es
more_back h gone [] = refl
more_back h gone (e ∷ es) = ap (λ (x : Entry). x ∷ map (counted_down h.pin.slot) (map (given_back gone) es)) (one_back h gone e) ∙ ap (λ (xs : List Entry). given_back (h ∷ gone) e ∷ xs) (more_back h gone es)

-- ---- held blocks in another order

pub pins_swap : (a b : List HeldBlock) (es : List Entry) → HasPins (a ++ b) es → HasPins (b ++ a) es
pins_swap a b es has = record {
  ids = all_both _ b a (all_rest _ a b has.ids) (all_front _ a b has.ids);
  counts = λ k. omega (arith, has.counts k, pins_both k a b, pins_both k b a);
}

last_there : (a : List HeldBlock) (h : HeldBlock) → slice_get (a ++ h ∷ []) (length a) ≡ Some h
last_there [] h = refl
last_there (x ∷ xs) h = last_there xs h

-- the last of the held blocks is pinned when those after it are given back
pub next_held : (a gone : List HeldBlock) (h : HeldBlock) (es : List Entry) → HasPins ((a ++ h ∷ []) ++ gone) es → IsHeld h.pin (map (given_back gone) es)
next_held a gone h es has = pin_held (a ++ h ∷ []) (length a) h (map (given_back gone) es) (back gone es (a ++ h ∷ []) (pins_swap (a ++ h ∷ []) gone es has)) (last_there a h)

-- ---- other changes of the cache

pub pins_found : (hs : List HeldBlock) (old new : List Entry) → KeepsEntries old new → HasPins hs old → HasPins hs new
pins_found hs old new keeps has = record {
  ids = all_imply (λ (h : HeldBlock). IsSlotOf h.pin.slot h.pin.id old) (λ (h : HeldBlock). IsSlotOf h.pin.slot h.pin.id new)
      (λ h is. subst (λ (o : Option Entry). IsSomeAnd o (λ e. e.id ≡ h.pin.id)) (sym (keeps h.pin.slot)) is) hs has.ids;
  counts = λ k. subst (λ (o : Option Entry). pins_in k hs ≤ count_of o) (sym (keeps k)) (has.counts k);
}

pub pins_some : (hs others : List HeldBlock) (es : List Entry) → HasPins (hs ++ others) es → HasPins hs es
pins_some hs others es has = record { ids = all_front _ hs others has.ids; counts = λ k. omega (arith, has.counts k, pins_both k hs others) }

-- an entry that has pins stays with its count
counts_kept : (k n : ℕ) (old new : List Entry) → KeepsPinned old new → n ≤ pin_count k old → n ≤ pin_count k new
counts_kept k n old new keeps le = by (entry_in k old) refl le
  where
    by : (o : Option Entry) → entry_in k old ≡ o → n ≤ count_of o → n ≤ pin_count k new
    by None is le = omega arith
    by (Some e) is le = counted e is le e.count refl
      where
        counted : (e : Entry) → entry_in k old ≡ Some e → n ≤ e.count → (c : ℕ) → e.count ≡ c → n ≤ pin_count k new
        counted e is le zero none = omega arith
        counted e is le (suc c) some = subst (λ (o : Option Entry). n ≤ count_of o) (sym (keeps k e is (omega arith))) le

-- so does its id
id_pinned : (h : HeldBlock) (old new : List Entry) → KeepsPinned old new → 1 ≤ pin_count h.pin.slot old → IsSlotOf h.pin.slot h.pin.id old → IsSlotOf h.pin.slot h.pin.id new
id_pinned h old new keeps some there = by (entry_in h.pin.slot old) refl some there
  where
    by : (o : Option Entry) → entry_in h.pin.slot old ≡ o → 1 ≤ count_of o → IsSomeAnd o (λ e. e.id ≡ h.pin.id) → IsSlotOf h.pin.slot h.pin.id new
    by None is some there = absurd there
    by (Some e) is some there = subst (λ (o : Option Entry). IsSomeAnd o (λ x. x.id ≡ h.pin.id)) (sym (keeps h.pin.slot e is some)) there

-- each of the pins is counted
each_counted : (hs all : List HeldBlock) (es : List Entry) → ((k : ℕ) → pins_in k hs ≤ pins_in k all) → HasPins all es → AllByRecursion (λ h. 1 ≤ pin_count h.pin.slot es) hs
each_counted [] all es fewer has = tt
each_counted (h ∷ hs) all es fewer has =
    (omega (arith, fewer h.pin.slot, has.counts h.pin.slot, pins_at (h ∷ hs) 0 h refl), each_counted hs all es (λ k. omega (arith, fewer k, pins_first k h hs)) has)

all_pinned : (hs : List HeldBlock) (old new : List Entry) → KeepsPinned old new → AllByRecursion (λ h. 1 ≤ pin_count h.pin.slot old) hs → AllByRecursion (λ h. IsSlotOf h.pin.slot h.pin.id old) hs
    → AllByRecursion (λ h. IsSlotOf h.pin.slot h.pin.id new) hs
all_pinned [] old new keeps counted ids = tt
all_pinned (h ∷ hs) old new keeps counted ids = (id_pinned h old new keeps counted.0 ids.0, all_pinned hs old new keeps counted.1 ids.1)

pub pins_filled : (hs : List HeldBlock) (old new : List Entry) → KeepsPinned old new → HasPins hs old → HasPins hs new
pins_filled hs old new keeps has = record {
  ids = all_pinned hs old new keeps (each_counted hs hs old (λ k. omega arith) has) has.ids;
  counts = λ k. counts_kept k (pins_in k hs) old new keeps (has.counts k);
}

pub own_pins : (old new : List HeldBlock) (before after : List Entry) → KeepsPins old before new after → HasPins old before → HasPins new after
own_pins old new before after keeps has =
    subst (λ (hs : List HeldBlock). HasPins hs after) (append-nil new) (keeps [] (subst (λ (hs : List HeldBlock). HasPins hs before) (sym (append-nil old)) has))

pub pins_stay : PinsStay
pins_stay = record { found = pins_found; filled = pins_filled; own = own_pins; some = pins_some; swapped = pins_swap }
