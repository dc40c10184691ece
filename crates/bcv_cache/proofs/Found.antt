-- What is read in the slot of an entry.
use Rattle.std.proofs.Common.{◌≡◌, ℕ, ◌<◌, ◌≤◌, true, List, [], ◌∷◌, ◌++◌, length, Option, Some, None, All, get_or, refl, sym, ◌∙◌}
use Rattle.std.specs.List.{AllByRecursion, slice_get}
use Rattle.std.specs.Option.{IsSomeAnd, is_some, option_map, option_map_or}
use Rattle.std.proofs.lemmas.List.Elements.{All-from_recursion, All-pop}
use Rattle.std.proofs.lemmas.Option.{slice_get-get_or}
use Rattle.std.proofs.lemmas.Bool.{eq-eqb, ne_eqb, lt-ltb, le-ltb}
use Rattle.bcv_base.specs.declared.id.Id16.{Id16}
use Rattle.bcv_cache.specs.declared.held.Held.{Held}
use Rattle.bcv_cache.specs.Entry.{Entry}
use Rattle.bcv_cache.specs.Cache.{entry_in, last_unpinned, has_room}
use Rattle.bcv_cache.specs.Inside.{seen, entry_at, ArePlaced, IsSound}
use Rattle.bcv_cache.proofs.Steps.{IsEntryOf, IsEntryOf-read, slot_in_use, block_in_use, last_unpinned_push, last_unpinned_placed, has_free_slot-is}
use Rattle.bcv_cache.proofs.Places.{place_found}
use Rattle.bcv_cache.proofs.Entries.{list_any-last_unpinned}

-- the entry of a slot, of which P holds
pub record Finds (P : Entry → Type 0) (es : List Entry) (k : ℕ) : Type 0 where
  pub entry : Entry
  pub is : entry_in k es ≡ Some entry
  pub holds : P entry

pub finds : (P : Entry → Type 0) (es : List Entry) (k : ℕ) → IsSomeAnd (entry_in k es) P → Finds P es k
finds P es k h = by_cases (entry_in k es) refl h
  where
    by_cases : (o : Option Entry) → entry_in k es ≡ o → IsSomeAnd o P → Finds P es k
    by_cases None is h = absurd h
    by_cases (Some e) is h = record { entry = e; is = is; holds = h }

pub in_use : (P : Entry → Type 0) (slots : List Held) (ps : List (Id16 × ℕ)) (cap most block k : ℕ) → IsSound slots ps cap most block → IsSomeAnd (entry_in k (seen slots ps)) P → k < length slots
in_use P slots ps cap most block k s h = let f = finds P (seen slots ps) k h in slot_in_use slots k block ps f.entry s.placed f.is

-- the same with what was read there
pub record Reads (P : Entry → Type 0) (slots : List Held) (ps : List (Id16 × ℕ)) (k : ℕ) (h : Held) : Type 0 where
  pub found : Finds P (seen slots ps) k
  pub entry : IsEntryOf slots k h found.entry

pub reads : (P : Entry → Type 0) (slots : List Held) (ps : List (Id16 × ℕ)) (cap most block k : ℕ) (h : Held) → IsSound slots ps cap most block → IsSomeAnd (entry_in k (seen slots ps)) P → h ≡ get_or slots k h → Reads P slots ps k h
reads P slots ps cap most block k h s some read = let f = finds P (seen slots ps) k some in record { found = f; entry = IsEntryOf-read slots k block ps f.entry h s.placed f.is read }

-- each place is of a slot in use
pub in_range : (slots : List Held) (ps : List (Id16 × ℕ)) (cap most block : ℕ) → IsSound slots ps cap most block → All (λ (p : Id16 × ℕ). p.1 < length slots) ps
in_range slots ps cap most block s = All-from_recursion (λ (p : Id16 × ℕ). p.1 < length slots) ps (each ps s.placed)
  where
    each : (qs : List (Id16 × ℕ)) → ArePlaced block slots qs → AllByRecursion (λ (p : Id16 × ℕ). p.1 < length slots) qs
    each [] a = tt
    each (q ∷ qs) a = (block_in_use slots q.1 (q.0, block) a.0, each qs a.2)

-- the last place, and those before it
pub turned : (slots : List Held) (rest before : List (Id16 × ℕ)) (p : Id16 × ℕ) → rest ≡ before ++ p ∷ [] → All (λ (q : Id16 × ℕ). q.1 < length slots) rest → All (λ (q : Id16 × ℕ). q.1 < length slots) before × (p.1 < length slots)
turned slots rest before p is all = All-pop (λ (q : Id16 × ℕ). q.1 < length slots) rest before (Some p) is all

count_read : (slots : List Held) (k : ℕ) (h : Held) → k < length slots → option_map_or (λ (x : Held). x.count) (slice_get slots k) 0 ≡ (get_or slots k h).count
count_read slots k h used = rw (slice_get-get_or slots k h used) refl

pub last_is_unpinned : (slots : List Held) (before : List (Id16 × ℕ)) (p : Id16 × ℕ) (k : ℕ) (h : Held) → k ≡ p.1 → p.1 < length slots → (get_or slots k h).count ≡ 0 → last_unpinned (seen slots (before ++ p ∷ [])) ≡ Some (entry_at slots p)
last_is_unpinned slots before p k h at used none =
    let zero_there : (entry_at slots p).count ≡ 0 = count_read slots p.1 h used ∙ rw (← at) none in
    rw (last_unpinned_push slots before p) (rw (eq-eqb (entry_at slots p).count 0 zero_there) refl)

pub last_is_pinned : (slots : List Held) (before : List (Id16 × ℕ)) (p : Id16 × ℕ) (k : ℕ) (h : Held) → k ≡ p.1 → p.1 < length slots → ((get_or slots k h).count ≡ 0 → ⊥) → last_unpinned (seen slots (before ++ p ∷ [])) ≡ last_unpinned (seen slots before)
last_is_pinned slots before p k h at used some =
    let pinned : (entry_at slots p).count ≡ 0 → ⊥ = λ z. some (rw at (sym (count_read slots p.1 h used) ∙ z)) in
    rw (last_unpinned_push slots before p) (rw (ne_eqb (entry_at slots p).count 0 pinned) refl)

-- where no slot is free, there is room where a last entry without a pin was found
pub has_room-full : (slots : List Held) (ps : List (Id16 × ℕ)) (cap most block : ℕ) (r : Option (Id16 × ℕ)) → IsSound slots ps cap most block → most ≤ length slots → option_map (entry_at slots) r ≡ last_unpinned (seen slots ps) → has_room (record { entries = seen slots ps; most = most; block = block }) ≡ is_some r
has_room-full slots ps cap most block r s full last =
    rw (has_free_slot-is slots ps cap most block s, le-ltb (length slots) most full) (list_any-last_unpinned (seen slots ps) ∙ rw (← last) (elim r as (λ o. is_some (option_map (entry_at slots) o) ≡ is_some o) [ None ↦ refl | Some p ↦ refl ]))

pub has_room-free : (slots : List Held) (ps : List (Id16 × ℕ)) (cap most block : ℕ) → IsSound slots ps cap most block → length slots < most → has_room (record { entries = seen slots ps; most = most; block = block }) ≡ true
has_room-free slots ps cap most block s free = rw (has_free_slot-is slots ps cap most block s, lt-ltb (length slots) most free) refl

-- the slot of the last entry that no pin holds is in use
pub last_in_use : (slots : List Held) (ps : List (Id16 × ℕ)) (cap most block : ℕ) (p : Id16 × ℕ) → IsSound slots ps cap most block → last_unpinned (seen slots ps) ≡ Some (entry_at slots p) → p.1 < length slots
last_in_use slots ps cap most block p s last =
    let there = last_unpinned_placed block slots ps (entry_at slots p) s.placed last in
    block_in_use slots p.1 (p.0, block) (place_found p.0 block slots ps p s.placed there).whole
