-- What filling a slot and counting a pin do to the places and the slots.
use Rattle.std.proofs.Common.{◌≡◌, ℕ, ◌<◌, ◌≤◌, Bool, true, false, cond, List, [], ◌∷◌, ◌++◌, length, map, reverse, set, get_or, Option, Some, None, Result, Ok, Err, IfOk, IfErr, nat_eq, nat_lt, refl, sym, ap, ◌∙◌, subst, inl, inr, arith, lit<}
use Rattle.std.specs.List.{find, slice_get}
use Rattle.std.specs.Option.{option_map, option_or}
use Rattle.std.specs.Map.{lookup, lookup_entry, remove_entry}
use Rattle.std.proofs.lemmas.Option.{some_pair_parts, slice_get_within, slice_get-get_or}
use Rattle.std.proofs.lemmas.Bool.{cases_Bool, cases_eq, eq-eqb, eqb-true, ne_eqb, false_from_ne_true, lt-ltb, le-ltb}
use Rattle.std.proofs.lemmas.List.{length-map, length-set, length_push, map-append, reverse-append}
use Rattle.lru.specs.LruCache.{LruCache, lru_cache}
use Rattle.bcv_base.specs.declared.id.Id16.{Id16}
use Rattle.bcv_cache.specs.declared.held.Held.{Held}
use Rattle.bcv_cache.specs.Entry.{Entry, Blocks}
use Rattle.bcv_cache.specs.Cache.{id_eq, has_id, has_slot, is_unpinned, entry_in, last_unpinned, last_unpinned_dropped, room_made, filled, IsSlotOf, IsPinnable, KeepsPinned}
use Rattle.bcv_cache.specs.Inside.{seen, entry_at, block_in, ArePlaced, IsSound}
use Rattle.bcv_cache.proofs.Entries.{id_eq_refl, id_eq-true, find_passes, entry_in-without, entry_in_found, entry_in-cons, last_unpinned-cons}
use Rattle.bcv_cache.proofs.Places.{find-seen, without-seen, lookup-removed, ArePlaced-removed, removed_once, place_found, seen-same, ArePlaced-same, slice_get_push, SameSlots-push, slice_get-set_same, slice_get-set_other, SameSlots-set, slots_differ}

no_lookup : (t : Id16 → Bool) (qs : List (Id16 × ℕ)) (q : Id16 × ℕ) → lookup t qs ≡ None → lookup_entry t qs ≡ Some q → ⊥
no_lookup t [] q n s = cc
no_lookup t (r ∷ qs) q n s = elim (cases_Bool (t r.0)) [
  | inl y ↦ let g = rw y at n in cc
  | inr y ↦ no_lookup t qs q (rw y at n) (rw y at s)
]

last_passes : (es : List Entry) (e : Entry) → last_unpinned es ≡ Some e → is_unpinned e ≡ true
last_passes es e h = find_passes is_unpinned (reverse es) e h

-- the last entry that no pin holds is found by its name
pub last_unpinned_placed : (block : ℕ) (slots : List Held) (ps : List (Id16 × ℕ)) (e : Entry) → ArePlaced block slots ps → last_unpinned (seen slots ps) ≡ Some e → lookup_entry (id_eq e.id) ps ≡ Some (e.id, e.slot)
last_unpinned_placed block slots [] e a h = cc
last_unpinned_placed block slots (p ∷ ps) e a h = let last = last_unpinned-cons (entry_at slots p) (seen slots ps) in
    (elim (last_unpinned (seen slots ps)) as (λ o. last_unpinned (seen slots ps) ≡ o → option_or o (cond (is_unpinned (entry_at slots p)) (Some (entry_at slots p)) None) ≡ Some e → lookup_entry (id_eq e.id) (p ∷ ps) ≡ Some (e.id, e.slot)) [
      | None ↦ λ was is. elim (cases_Bool (is_unpinned (entry_at slots p))) [
        | inl t ↦ let g = rw t at is in let same : entry_at slots p ≡ e = cc in subst (λ (x : Entry). lookup_entry (id_eq x.id) (p ∷ ps) ≡ Some (x.id, x.slot)) same (rw (id_eq_refl p.0) refl)
        | inr t ↦ let g = rw t at is in cc
      ]
      | Some x ↦ λ was is. let same : x ≡ e = cc in
          let later : lookup_entry (id_eq e.id) ps ≡ Some (e.id, e.slot) = last_unpinned_placed block slots ps e a.2 (was ∙ is) in
          let unlike : id_eq e.id p.0 ≡ false = false_from_ne_true (id_eq e.id p.0) (λ t. let none : lookup (id_eq e.id) ps ≡ None = rw (id_eq-true e.id p.0 t) a.1 in no_lookup (id_eq e.id) ps (e.id, e.slot) none later) in
          rw unlike later
    ]) refl (sym last ∙ h)

-- a new block in its slot
abbrev new_at : ℕ → Id16 → List ℕ → Entry
new_at new_slot new_id new_bytes = record { slot = new_slot; id = new_id; count = 0; bytes = new_bytes }

-- what filling a slot owes: the fields are sound, the entries are the new one before those that stay, and pinned ones stay
pub record IsFilled (old rest : List Entry) (slot : ℕ) (new : Held) (slots' : List Held) (ps' : List (Id16 × ℕ)) (cap most block : ℕ) : Type 0 where
  pub sound : IsSound slots' ps' cap most block
  pub entries : seen slots' ps' ≡ new_at slot new.id new.bytes.items ∷ rest
  pub pinned_stay : KeepsPinned old (seen slots' ps')

module _ (slots : List Held) (ps : List (Id16 × ℕ)) (cap most block : ℕ) (s : IsSound slots ps cap most block) (new : Held) (unpinned : new.count ≡ 0) (absent : lookup (id_eq new.id) ps ≡ None) (fits : length new.bytes.items ≡ block) where
  entry_at-new : (slots' : List Held) (k : ℕ) → slice_get slots' k ≡ Some new → entry_at slots' (new.id, k) ≡ new_at k new.id new.bytes.items
  entry_at-new slots' k is = rw is (rw unpinned refl)

  block_in-new : (slots' : List Held) (k : ℕ) → slice_get slots' k ≡ Some new → block_in slots' k ≡ Some (new.id, block)
  block_in-new slots' k is = rw is (rw fits refl)

  pub filled_free : (k : ℕ) → k ≡ length slots → length slots < most → IsFilled (seen slots ps) (seen slots ps) k new (slots ++ new ∷ []) ((new.id, k) ∷ ps) cap most block
  filled_free k at free =
      let here : slice_get (slots ++ new ∷ []) k ≡ Some new = rw at (slice_get_push slots new) in
      let same = SameSlots-push block slots new ps s.placed in
      let placed : ArePlaced block (slots ++ new ∷ []) ((new.id, k) ∷ ps) = (block_in-new (slots ++ new ∷ []) k here, absent, ArePlaced-same block slots (slots ++ new ∷ []) ps same s.placed) in
      let stay = seen-same slots (slots ++ new ∷ []) ps same in
      record {
        sound = record { placed = placed; one_each = omega (arith, s.one_each, length_push slots new); at_most = omega (arith, length_push slots new); spare = s.spare };
        entries = rw (entry_at-new (slots ++ new ∷ []) k here) (rw stay refl);
        pinned_stay = λ slot e is held. entry_in-cons (entry_at (slots ++ new ∷ []) (new.id, k)) (seen (slots ++ new ∷ []) ps) slot e (slots_differ block (slots ++ new ∷ []) ((new.id, k) ∷ ps) placed) (rw stay is);
      }

  pub filled_used : (p : Id16 × ℕ) → last_unpinned (seen slots ps) ≡ Some (entry_at slots p) → IsFilled (seen slots ps) (last_unpinned_dropped (seen slots ps)) p.1 new (set slots p.1 new) (remove_entry (id_eq p.0) ((new.id, p.1) ∷ ps)) cap most block
  filled_used p last =
      let there : lookup_entry (id_eq p.0) ps ≡ Some p = last_unpinned_placed block slots ps (entry_at slots p) s.placed last in
      let old = place_found p.0 block slots ps p s.placed there in
      let unlike : id_eq p.0 new.id ≡ false = false_from_ne_true (id_eq p.0 new.id) (λ t. no_lookup (id_eq p.0) ps p (rw (id_eq-true p.0 new.id t) absent) there) in
      let rest : List (Id16 × ℕ) = remove_entry (id_eq p.0) ps in
      let slots' : List Held = set slots p.1 new in
      let rest_placed : ArePlaced block slots rest = ArePlaced-removed (id_eq p.0) block slots ps s.placed in
      let here : slice_get slots' p.1 ≡ Some new = slice_get-set_same slots p.1 new (p.0, block) old.whole in
      let same = SameSlots-set block slots p.0 p.1 new rest old.whole (removed_once p.0 block slots ps s.placed) rest_placed in
      let placed : ArePlaced block slots' ((new.id, p.1) ∷ rest) = (block_in-new slots' p.1 here, lookup-removed (id_eq new.id) (id_eq p.0) ps absent, ArePlaced-same block slots slots' rest same rest_placed) in
      let stay = seen-same slots slots' rest same in
      let found : find (has_id p.0) (seen slots ps) ≡ Some (entry_at slots p) = find-seen p.0 slots ps ∙ ap (option_map (entry_at slots)) there in
      rw unlike (record {
        sound = record { placed = placed; one_each = omega (arith, s.one_each, old.one_less, length-set slots p.1 new); at_most = omega (arith, s.at_most, length-set slots p.1 new); spare = s.spare };
        entries = rw (entry_at-new slots' p.1 here) (rw (stay, last, without-seen p.0 slots ps) refl);
        pinned_stay = λ slot e is held. entry_in-cons (entry_at slots' (new.id, p.1)) (seen slots' rest) slot e (slots_differ block slots' ((new.id, p.1) ∷ rest) placed)
            (rw (stay, ← without-seen p.0 slots ps) (entry_in-without (has_id p.0) (seen slots ps) (entry_at slots p) slot found (λ at. other slot e is held found at) ∙ is));
      })
    where
      other : (slot : ℕ) (e : Entry) → entry_in slot (seen slots ps) ≡ Some e → 0 < e.count → find (has_id p.0) (seen slots ps) ≡ Some (entry_at slots p) → slot ≡ p.1 → ⊥
      other slot e is held found at =
          let there : entry_in slot (seen slots ps) ≡ Some (entry_at slots p) = rw at (entry_in_found (has_id p.0) (seen slots ps) (entry_at slots p) (slots_differ block slots ps s.placed) found) in
          let same : entry_at slots p ≡ e = cc in
          let none : e.count ≡ 0 = subst (λ (x : Entry). x.count ≡ 0) same (eqb-true (entry_at slots p).count 0 (last_passes (seen slots ps) (entry_at slots p) last)) in
          omega arith

-- the slot of an entry
pub record IsEntryOf (slots : List Held) (k : ℕ) (h : Held) (e : Entry) : Type 0 where
  pub at : slice_get slots k ≡ Some h
  pub slot : e.slot ≡ k
  pub id : e.id ≡ h.id
  pub count : e.count ≡ h.count
  pub bytes : e.bytes ≡ h.bytes.items

IsEntryOf-found : (slots : List Held) (k : ℕ) (block : ℕ) (ps : List (Id16 × ℕ)) (e : Entry) (h : Held) → ArePlaced block slots ps → entry_in k (seen slots ps) ≡ Some e → slice_get slots k ≡ Some h → IsEntryOf slots k h e
IsEntryOf-found slots k block [] e h a is at = cc
IsEntryOf-found slots k block (p ∷ ps) e h a is at = elim (cases_Bool (nat_eq k p.1)) [
  | inl t ↦ let g = rw t at is in let same : entry_at slots p ≡ e = cc in let here : k ≡ p.1 = eqb-true k p.1 t in let at' : slice_get slots p.1 ≡ Some h = rw (← here) at in
      subst (IsEntryOf slots k h) same (record {
        at = at;
        slot = sym here;
        id = sym (some_pair_parts h.id p.0 (length h.bytes.items) block (rw at' at a.0)).0;
        count = rw at' refl;
        bytes = rw at' refl;
      })
  | inr t ↦ IsEntryOf-found slots k block ps e h a.2 (rw t at is) at
]

-- a slot that holds a block is in use
pub block_in_use : (slots : List Held) (k : ℕ) (v : Id16 × ℕ) → block_in slots k ≡ Some v → k < length slots
block_in_use slots k v h = by_cases (slice_get slots k) refl
  where
    by_cases : (o : Option Held) → slice_get slots k ≡ o → k < length slots
    by_cases None n = let g = rw n at h in cc
    by_cases (Some x) n = slice_get_within slots k x n

pub slot_in_use : (slots : List Held) (k : ℕ) (block : ℕ) (ps : List (Id16 × ℕ)) (e : Entry) → ArePlaced block slots ps → entry_in k (seen slots ps) ≡ Some e → k < length slots
slot_in_use slots k block [] e a is = cc
slot_in_use slots k block (p ∷ ps) e a is = elim (cases_Bool (nat_eq k p.1)) [
  | inl t ↦ rw (eqb-true k p.1 t) (block_in_use slots p.1 (p.0, block) a.0)
  | inr t ↦ slot_in_use slots k block ps e a.2 (rw t at is)
]

pub IsEntryOf-read : (slots : List Held) (k : ℕ) (block : ℕ) (ps : List (Id16 × ℕ)) (e : Entry) (h : Held) → ArePlaced block slots ps → entry_in k (seen slots ps) ≡ Some e → h ≡ get_or slots k h → IsEntryOf slots k h e
IsEntryOf-read slots k block ps e h a is read =
    let used = slot_in_use slots k block ps e a is in
    IsEntryOf-found slots k block ps e h a is (slice_get-get_or slots k h used ∙ ap (λ (x : Held). Some x) (sym read))

-- the slot with another count of pins
abbrev pub counted : (ℕ → ℕ) → Held → Held
counted n h = record h { count = n h.count }

-- an entry with another count of pins
abbrev pub recounted : (ℕ → ℕ) → ℕ → Entry → Entry
recounted n slot e = cond (has_slot slot e) (record e { count = n e.count }) e

module _ (n : ℕ → ℕ) (slots : List Held) (k : ℕ) (h : Held) (at : slice_get slots k ≡ Some h) where
  here_now : slice_get (set slots k (counted n h)) k ≡ Some (counted n h)
  here_now = slice_get-set_same slots k (counted n h) (h.id, length h.bytes.items) (rw at refl)

  pub recounted-seen : (ps : List (Id16 × ℕ)) → map (recounted n k) (seen slots ps) ≡ seen (set slots k (counted n h)) ps
  recounted-seen [] = refl
  recounted-seen (p ∷ ps) = elim (cases_eq k p.1) [
    | inl same ↦ let t : nat_eq k p.1 ≡ true = eq-eqb k p.1 same in
        let old : slice_get slots p.1 ≡ Some h = rw (← same) at in
        let new : slice_get (set slots k (counted n h)) p.1 ≡ Some (counted n h) = rw (← same) here_now in
        rw t (rw (old, new, recounted-seen ps) refl)
    | inr ne ↦ let t : nat_eq k p.1 ≡ false = ne_eqb k p.1 ne in
        rw t (rw (slice_get-set_other slots k p.1 (counted n h) ne, recounted-seen ps) refl)
  ]

  pub ArePlaced-counted : (block : ℕ) (ps : List (Id16 × ℕ)) → ArePlaced block slots ps → ArePlaced block (set slots k (counted n h)) ps
  ArePlaced-counted block [] a = tt
  ArePlaced-counted block (p ∷ ps) a = (
    elim (cases_eq k p.1) [
      | inl same ↦ let old : slice_get slots p.1 ≡ Some h = rw (← same) at in
          let new : slice_get (set slots k (counted n h)) p.1 ≡ Some (counted n h) = rw (← same) here_now in
          rw new (rw old at a.0)
      | inr ne ↦ rw (slice_get-set_other slots k p.1 (counted n h) ne) a.0
    ],
    a.1,
    ArePlaced-counted block ps a.2,
  )

  pub IsSound-counted : (ps : List (Id16 × ℕ)) (cap most block : ℕ) → IsSound slots ps cap most block → IsSound (set slots k (counted n h)) ps cap most block
  IsSound-counted ps cap most block s = record { placed = ArePlaced-counted block ps s.placed; one_each = omega (arith, s.one_each, length-set slots k (counted n h)); at_most = omega (arith, s.at_most, length-set slots k (counted n h)); spare = s.spare }

-- each slot's entry after a change of one count
pub entry_in-recounted : (n : ℕ → ℕ) (k : ℕ) (es : List Entry) (slot : ℕ) → entry_in slot (map (recounted n k) es) ≡ option_map (recounted n k) (entry_in slot es)
entry_in-recounted n k [] slot = refl
entry_in-recounted n k (x ∷ es) slot = elim (cases_Bool (nat_eq k x.slot)) [
  | inl t ↦ rw t (elim (nat_eq slot x.slot) as (λ b. cond b (Some (record x { count = n x.count })) (entry_in slot (map (recounted n k) es)) ≡ option_map (recounted n k) (cond b (Some x) (entry_in slot es))) [ true ↦ rw t refl | false ↦ entry_in-recounted n k es slot ])
  | inr t ↦ rw t (elim (nat_eq slot x.slot) as (λ b. cond b (Some x) (entry_in slot (map (recounted n k) es)) ≡ option_map (recounted n k) (cond b (Some x) (entry_in slot es))) [ true ↦ rw t refl | false ↦ entry_in-recounted n k es slot ])
]

-- the last entry that no pin holds, with one more place at the end
pub last_unpinned_push : (slots : List Held) (ps : List (Id16 × ℕ)) (p : Id16 × ℕ) → last_unpinned (seen slots (ps ++ p ∷ [])) ≡ cond (is_unpinned (entry_at slots p)) (Some (entry_at slots p)) (last_unpinned (seen slots ps))
last_unpinned_push slots ps p = rw (map-append (entry_at slots) ps (p ∷ [])) (ap (find is_unpinned) (reverse-append (seen slots ps) (entry_at slots p ∷ [])))

pub has_free_slot-is : (slots : List Held) (ps : List (Id16 × ℕ)) (cap most block : ℕ) → IsSound slots ps cap most block → nat_lt (length (seen slots ps)) most ≡ nat_lt (length slots) most
has_free_slot-is slots ps cap most block s = ap (λ n. nat_lt n most) (length-map ps (entry_at slots) ∙ s.one_each)

-- how a call of `fill` ends, by its answer
pub record Ends {E : Type 0} (r : Result ℕ E) (old : Blocks) (new : Held) (slots' : List Held) (places' : LruCache Id16 ℕ) : Type 0 where
  pub sound : IsSound slots' places'.entries places'.cap old.most old.block
  pub entry : IfOk r (λ k. IsSlotOf k new.id (seen slots' places'.entries))
  pub pinnable : IfOk r (λ k. IsPinnable k (seen slots' places'.entries))
  pub fills : IfOk r (λ k. record { entries = seen slots' places'.entries; most = old.most; block = old.block } ≡ filled k new.id new.bytes.items old)
  pub pinned_stay : KeepsPinned old.entries (seen slots' places'.entries)

module _ (slots : List Held) (ps : List (Id16 × ℕ)) (cap most block : ℕ) (s : IsSound slots ps cap most block) (new : Held) where
  abbrev was : Blocks
  was = record { entries = seen slots ps; most = most; block = block }

  pub ends : {E : Type 0} (r : Result ℕ E) (slots' : List Held) (places' : LruCache Id16 ℕ) (rest : List Entry) → room_made was ≡ rest → IfOk r (λ k. IsFilled (seen slots ps) rest k new slots' places'.entries places'.cap most block) → IfErr r (λ _. places' ≡ lru_cache ps cap) → IfErr r (λ _. slots' ≡ slots) → Ends r was new slots' places'
  ends (Ok k) slots' places' rest made i p q = record { sound = i.sound; entry = rw i.entries (rw (eq-eqb k k refl) refl); pinnable = rw i.entries (rw (eq-eqb k k refl) (lit< tt)); fills = rw (i.entries, made) refl; pinned_stay = i.pinned_stay }
  ends (Err e) slots' places' rest made i p q = record { sound = rw (p, q) s; entry = tt; pinnable = tt; fills = tt; pinned_stay = rw (p, q) (λ slot e is held. is) }

  IfOk_all : {E : Type 0} (r : Result ℕ E) (A B C D : ℕ → Type 0) → IfOk r A → IfOk r B → IfOk r C → ((k : ℕ) → A k → B k → C k → D k) → IfOk r D
  IfOk_all (Ok k) A B C D a b c f = f k a b c
  IfOk_all (Err e) A B C D a b c f = tt

  module _ (unpinned : new.count ≡ 0) (absent : lookup (id_eq new.id) ps ≡ None) (fits : length new.bytes.items ≡ block) where
    pub ends_free : {E : Type 0} (r : Result ℕ E) (slots' : List Held) (places' : LruCache Id16 ℕ) (len : ℕ) → len ≡ length slots → len < most → IfOk r (λ k. k ≡ len) → IfOk r (λ k. places' ≡ lru_cache ((new.id, k) ∷ ps) cap) → IfOk r (λ _. slots' ≡ slots ++ new ∷ []) → IfErr r (λ _. places' ≡ lru_cache ps cap) → IfErr r (λ _. slots' ≡ slots) → Ends r was new slots' places'
    ends_free r slots' places' len is free a b c p q =
        let fewer : length slots < most = omega arith in
        ends r slots' places' (seen slots ps) (rw (has_free_slot-is slots ps cap most block s, lt-ltb (length slots) most fewer) refl)
        (IfOk_all r (λ k. k ≡ len) (λ k. places' ≡ lru_cache ((new.id, k) ∷ ps) cap) (λ _. slots' ≡ slots ++ new ∷ []) (λ k. IsFilled (seen slots ps) (seen slots ps) k new slots' places'.entries places'.cap most block) a b c
        (λ k a b c. rw (b, c) (filled_free slots ps cap most block s new unpinned absent fits k (a ∙ is) fewer))) p q

    pub ends_used : {E : Type 0} (r : Result ℕ E) (slots' : List Held) (places' : LruCache Id16 ℕ) (old : Id16 × ℕ) → last_unpinned (seen slots ps) ≡ Some (entry_at slots old) → most ≤ length slots → IfOk r (λ k. k ≡ old.1) → IfOk r (λ k. places' ≡ lru_cache (remove_entry (id_eq old.0) ((new.id, k) ∷ ps)) cap) → IfOk r (λ k. slots' ≡ set slots k new) → IfErr r (λ _. places' ≡ lru_cache ps cap) → IfErr r (λ _. slots' ≡ slots) → Ends r was new slots' places'
    ends_used r slots' places' old last full a b c p q =
        ends r slots' places' (last_unpinned_dropped (seen slots ps)) (rw (has_free_slot-is slots ps cap most block s, le-ltb (length slots) most full) refl)
        (IfOk_all r (λ k. k ≡ old.1) (λ k. places' ≡ lru_cache (remove_entry (id_eq old.0) ((new.id, k) ∷ ps)) cap) (λ k. slots' ≡ set slots k new) (λ k. IsFilled (seen slots ps) (last_unpinned_dropped (seen slots ps)) k new slots' places'.entries places'.cap most block) a b c
        (λ k a b c. rw (b, c, a) (filled_used slots ps cap most block s new unpinned absent fits old last))) p q
