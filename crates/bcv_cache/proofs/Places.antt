-- How the places and the slots of a cache stand for its entries.
use Rattle.std.proofs.Common.{◌≡◌, ℕ, zero, suc, ◌+◌, ◌-◌, ◌<◌, Bool, true, false, cond, List, [], ◌∷◌, ◌++◌, length, map, set, Option, Some, None, nat_eq, refl, sym, ap, ◌∙◌, subst, inl, inr, arith}
use Rattle.std.specs.List.{find, slice_get, IsDistinct, AllByRecursion}
use Rattle.std.specs.Option.{option_map, option_map_or}
use Rattle.std.specs.Map.{lookup, lookup_entry, remove_entry}
use Rattle.std.proofs.lemmas.Bool.{cases_Bool, false≢true, ne_eqb}
use Rattle.std.proofs.lemmas.Option.{some_pair_parts}
use Rattle.std.proofs.lemmas.List.{length-map, take_all}
use Rattle.std.proofs.lemmas.List.Elements.{All-from_recursion, All-nil}
use Rattle.lru.specs.LruCache.{promoted, put_entries, lru_cache}
use Rattle.bcv_base.specs.declared.id.Id16.{Id16}
use Rattle.bcv_cache.specs.declared.held.Held.{Held}
use Rattle.bcv_cache.specs.Entry.{Entry}
use Rattle.bcv_cache.specs.Cache.{id_eq, has_id, without, found_first, slot_of, IsCache}
use Rattle.bcv_cache.specs.Inside.{seen, entry_at, block_in, ArePlaced, IsSound}
use Rattle.bcv_cache.proofs.Entries.{id_eq_refl, id_eq-true}

-- what is found in the entries is what is found in the places
pub find-seen : (id : Id16) (slots : List Held) (ps : List (Id16 × ℕ)) → find (has_id id) (seen slots ps) ≡ option_map (entry_at slots) (lookup_entry (id_eq id) ps)
find-seen id slots [] = refl
find-seen id slots (p ∷ ps) = elim (id_eq id p.0) as (λ b. cond b (Some (entry_at slots p)) (find (has_id id) (seen slots ps)) ≡ option_map (entry_at slots) (cond b (Some p) (lookup_entry (id_eq id) ps))) [
  | true ↦ refl
  | false ↦ find-seen id slots ps
]

pub slot_of-seen : (id : Id16) (slots : List Held) (ps : List (Id16 × ℕ)) → slot_of id (seen slots ps) ≡ lookup (id_eq id) ps
slot_of-seen id slots [] = refl
slot_of-seen id slots (p ∷ ps) = elim (id_eq id p.0) as (λ b. option_map (λ (e : Entry). e.slot) (cond b (Some (entry_at slots p)) (find (has_id id) (seen slots ps))) ≡ cond b (Some p.1) (lookup (id_eq id) ps)) [
  | true ↦ refl
  | false ↦ slot_of-seen id slots ps
]

pub without-seen : (id : Id16) (slots : List Held) (ps : List (Id16 × ℕ)) → without (has_id id) (seen slots ps) ≡ seen slots (remove_entry (id_eq id) ps)
without-seen id slots [] = refl
without-seen id slots (p ∷ ps) = elim (id_eq id p.0) as (λ b. cond b (seen slots ps) (entry_at slots p ∷ without (has_id id) (seen slots ps)) ≡ seen slots (cond b ps (p ∷ remove_entry (id_eq id) ps))) [
  | true ↦ refl
  | false ↦ ap (λ l. entry_at slots p ∷ l) (without-seen id slots ps)
]

pub found_first-seen : (id : Id16) (slots : List Held) (ps : List (Id16 × ℕ)) → found_first id (seen slots ps) ≡ seen slots (promoted (id_eq id) ps)
found_first-seen id slots ps = rw (find-seen id slots ps, without-seen id slots ps) (elim (lookup_entry (id_eq id) ps) as (λ o. option_map_or (λ e. e ∷ seen slots (remove_entry (id_eq id) ps)) (option_map (entry_at slots) o) (seen slots ps) ≡ seen slots (option_map_or (λ e. e ∷ remove_entry (id_eq id) ps) o ps)) [
  | None ↦ refl
  | Some e ↦ refl
])

-- what is not there is not there after another was taken out
pub lookup-removed : (t u : Id16 → Bool) (ps : List (Id16 × ℕ)) → lookup t ps ≡ None → lookup t (remove_entry u ps) ≡ None
lookup-removed t u [] h = h
lookup-removed t u (p ∷ ps) h = elim (cases_Bool (t p.0)) [
  | inl e ↦ let g = rw e at h in cc
  | inr e ↦ let g = rw e at h in elim (cases_Bool (u p.0)) [
    | inl f ↦ rw f g
    | inr f ↦ rw f (rw e (lookup-removed t u ps g))
  ]
]

pub ArePlaced-removed : (u : Id16 → Bool) (block : ℕ) (slots : List Held) (ps : List (Id16 × ℕ)) → ArePlaced block slots ps → ArePlaced block slots (remove_entry u ps)
ArePlaced-removed u block slots [] a = a
ArePlaced-removed u block slots (p ∷ ps) a = elim (u p.0) as (λ b. ArePlaced block slots (cond b ps (p ∷ remove_entry u ps))) [
  | true ↦ a.2
  | false ↦ (a.0, lookup-removed (id_eq p.0) u ps a.1, ArePlaced-removed u block slots ps a.2)
]

-- what was taken out is not there again
pub removed_once : (id : Id16) (block : ℕ) (slots : List Held) (ps : List (Id16 × ℕ)) → ArePlaced block slots ps → lookup (id_eq id) (remove_entry (id_eq id) ps) ≡ None
removed_once id block slots [] a = refl
removed_once id block slots (p ∷ ps) a = elim (cases_Bool (id_eq id p.0)) [
  | inl e ↦ rw e (rw (id_eq-true id p.0 e) a.1)
  | inr e ↦ rw e (rw e (removed_once id block slots ps a.2))
]

-- a place that is found
pub record IsPlaceOf (id : Id16) (block : ℕ) (slots : List Held) (ps : List (Id16 × ℕ)) (p : Id16 × ℕ) : Type 0 where
  pub same : id ≡ p.0
  pub whole : block_in slots p.1 ≡ Some (p.0, block)
  pub one_less : length (remove_entry (id_eq id) ps) + 1 ≡ length ps

pub place_found : (id : Id16) (block : ℕ) (slots : List Held) (ps : List (Id16 × ℕ)) (p : Id16 × ℕ) → ArePlaced block slots ps → lookup_entry (id_eq id) ps ≡ Some p → IsPlaceOf id block slots ps p
place_found id block slots [] p a h = cc
place_found id block slots (q ∷ ps) p a h = elim (cases_Bool (id_eq id q.0)) [
  | inl e ↦ let g = rw e at h in let is : q ≡ p = cc in subst (λ r. IsPlaceOf id block slots (q ∷ ps) r) is (record { same = id_eq-true id q.0 e; whole = a.0; one_less = rw e (omega arith) })
  | inr e ↦ let g = place_found id block slots ps p a.2 (rw e at h) in record { same = g.same; whole = g.whole; one_less = rw e (omega (arith, g.one_less)) }
]

pub ArePlaced-promoted : (id : Id16) (block : ℕ) (slots : List Held) (ps : List (Id16 × ℕ)) → ArePlaced block slots ps → ArePlaced block slots (promoted (id_eq id) ps) × (length (promoted (id_eq id) ps) ≡ length ps)
ArePlaced-promoted id block slots ps a = (elim (lookup_entry (id_eq id) ps) as (λ o. lookup_entry (id_eq id) ps ≡ o → ArePlaced block slots (option_map_or (λ e. e ∷ remove_entry (id_eq id) ps) o ps) × (length (option_map_or (λ e. e ∷ remove_entry (id_eq id) ps) o ps) ≡ length ps)) [
  | None ↦ λ h. (a, refl)
  | Some p ↦ λ h. let g = place_found id block slots ps p a h in
      ((g.whole, (rw (← g.same) (removed_once id block slots ps a)), ArePlaced-removed (id_eq id) block slots ps a), omega (arith, g.one_less))
]) refl

pub IsSound-promoted : (id : Id16) (slots : List Held) (ps : List (Id16 × ℕ)) (cap most block : ℕ) → IsSound slots ps cap most block → IsSound slots (promoted (id_eq id) ps) cap most block
IsSound-promoted id slots ps cap most block s = let a = ArePlaced-promoted id block slots ps s.placed in
    record { placed = a.0; one_each = a.1 ∙ s.one_each; at_most = s.at_most; spare = s.spare }

-- every place's slot holds the same in both
abbrev pub SameSlots : List Held → List Held → List (Id16 × ℕ) → Type 0
SameSlots slots slots' [] = Unit {0}
SameSlots slots slots' (p ∷ ps) = (slice_get slots' p.1 ≡ slice_get slots p.1) × SameSlots slots slots' ps

pub seen-same : (slots slots' : List Held) (ps : List (Id16 × ℕ)) → SameSlots slots slots' ps → seen slots' ps ≡ seen slots ps
seen-same slots slots' [] s = refl
seen-same slots slots' (p ∷ ps) s = rw s.0 (ap (λ l. entry_at slots p ∷ l) (seen-same slots slots' ps s.1))

pub ArePlaced-same : (block : ℕ) (slots slots' : List Held) (ps : List (Id16 × ℕ)) → SameSlots slots slots' ps → ArePlaced block slots ps → ArePlaced block slots' ps
ArePlaced-same block slots slots' [] s a = tt
ArePlaced-same block slots slots' (p ∷ ps) s a = (rw s.0 a.0, a.1, ArePlaced-same block slots slots' ps s.1 a.2)

pub slice_get_push : (slots : List Held) (h : Held) → slice_get (slots ++ h ∷ []) (length slots) ≡ Some h
slice_get_push [] h = refl
slice_get_push (x ∷ slots) h = slice_get_push slots h

slice_get-push : (slots : List Held) (h : Held) (k : ℕ) (v : Id16 × ℕ) → block_in slots k ≡ Some v → slice_get (slots ++ h ∷ []) k ≡ slice_get slots k
slice_get-push [] h k v is = cc
slice_get-push (x ∷ slots) h zero v is = refl
slice_get-push (x ∷ slots) h (suc k) v is = slice_get-push slots h k v is

pub SameSlots-push : (block : ℕ) (slots : List Held) (h : Held) (ps : List (Id16 × ℕ)) → ArePlaced block slots ps → SameSlots slots (slots ++ h ∷ []) ps
SameSlots-push block slots h [] a = tt
SameSlots-push block slots h (p ∷ ps) a = (slice_get-push slots h p.1 (p.0, block) a.0, SameSlots-push block slots h ps a.2)

pub slice_get-set_same : (slots : List Held) (k : ℕ) (h : Held) (v : Id16 × ℕ) → block_in slots k ≡ Some v → slice_get (set slots k h) k ≡ Some h
slice_get-set_same [] k h v is = cc
slice_get-set_same (x ∷ slots) zero h v is = refl
slice_get-set_same (x ∷ slots) (suc k) h v is = slice_get-set_same slots k h v is

pub slice_get-set_other : (slots : List Held) (k j : ℕ) (h : Held) → (k ≡ j → ⊥) → slice_get (set slots k h) j ≡ slice_get slots j
slice_get-set_other [] k j h ne = refl
slice_get-set_other (x ∷ slots) zero zero h ne = absurd (ne refl)
slice_get-set_other (x ∷ slots) zero (suc j) h ne = refl
slice_get-set_other (x ∷ slots) (suc k) zero h ne = refl
slice_get-set_other (x ∷ slots) (suc k) (suc j) h ne = slice_get-set_other slots k j h (λ e. ne (ap (λ n. suc n) e))

-- another name has another slot
apart : (block : ℕ) (slots : List Held) (id : Id16) (k : ℕ) (p : Id16 × ℕ) → block_in slots k ≡ Some (id, block) → block_in slots p.1 ≡ Some (p.0, block) → id_eq id p.0 ≡ false → k ≡ p.1 → ⊥
apart block slots id k p held is unlike e = let g : block_in slots k ≡ Some (p.0, block) = rw e is in let same : id ≡ p.0 = (some_pair_parts id p.0 block block (sym held ∙ g)).0 in false≢true (sym unlike ∙ rw (← same) (id_eq_refl id))

tail_none : (id : Id16) (p : Id16 × ℕ) (ps : List (Id16 × ℕ)) → lookup (id_eq id) (p ∷ ps) ≡ None → (id_eq id p.0 ≡ false) × (lookup (id_eq id) ps ≡ None)
tail_none id p ps h = elim (cases_Bool (id_eq id p.0)) [
  | inl e ↦ let g = rw e at h in cc
  | inr e ↦ (e, rw e at h)
]

pub SameSlots-set : (block : ℕ) (slots : List Held) (id : Id16) (k : ℕ) (h : Held) (ps : List (Id16 × ℕ)) → block_in slots k ≡ Some (id, block) → lookup (id_eq id) ps ≡ None → ArePlaced block slots ps → SameSlots slots (set slots k h) ps
SameSlots-set block slots id k h [] held none a = tt
SameSlots-set block slots id k h (p ∷ ps) held none a = let g = tail_none id p ps none in
    (slice_get-set_other slots k p.1 h (apart block slots id k p held a.0 g.0), SameSlots-set block slots id k h ps held g.1 a.2)

-- no two entries are in one slot, and none are of one block
slot_differs : (block : ℕ) (slots : List Held) (id : Id16) (k : ℕ) (ps : List (Id16 × ℕ)) → block_in slots k ≡ Some (id, block) → lookup (id_eq id) ps ≡ None → ArePlaced block slots ps → AllByRecursion (λ y. nat_eq k y ≡ false) (map (λ (e : Entry). e.slot) (seen slots ps))
slot_differs block slots id k [] held none a = tt
slot_differs block slots id k (p ∷ ps) held none a = let g = tail_none id p ps none in
    (ne_eqb k p.1 (apart block slots id k p held a.0 g.0), slot_differs block slots id k ps held g.1 a.2)

id_differs : (slots : List Held) (id : Id16) (ps : List (Id16 × ℕ)) → lookup (id_eq id) ps ≡ None → AllByRecursion (λ y. id_eq id y ≡ false) (map (λ (e : Entry). e.id) (seen slots ps))
id_differs slots id [] none = tt
id_differs slots id (p ∷ ps) none = let g = tail_none id p ps none in (g.0, id_differs slots id ps g.1)

pub slots_differ : (block : ℕ) (slots : List Held) (ps : List (Id16 × ℕ)) → ArePlaced block slots ps → IsDistinct nat_eq (map (λ (e : Entry). e.slot) (seen slots ps))
unfolding IsDistinct
slots_differ block slots [] a = tt
slots_differ block slots (p ∷ ps) a = (slot_differs block slots p.0 p.1 ps a.0 a.1 a.2, slots_differ block slots ps a.2)

ids_differ : (block : ℕ) (slots : List Held) (ps : List (Id16 × ℕ)) → ArePlaced block slots ps → IsDistinct id_eq (map (λ (e : Entry). e.id) (seen slots ps))
unfolding IsDistinct
ids_differ block slots [] a = tt
ids_differ block slots (p ∷ ps) a = (id_differs slots p.0 ps a.1, ids_differ block slots ps a.2)

whole_at : (block : ℕ) (o : Option Held) (id : Id16) → option_map {U = Id16 × ℕ} (λ h. (h.id, length h.bytes.items)) o ≡ Some (id, block) → length (option_map_or (λ h. h.bytes.items) o []) ≡ block
whole_at block None id h = cc
whole_at block (Some x) id h = (some_pair_parts x.id id (length x.bytes.items) block h).1

whole : (block : ℕ) (slots : List Held) (ps : List (Id16 × ℕ)) → ArePlaced block slots ps → AllByRecursion (λ (e : Entry). length e.bytes ≡ block) (seen slots ps)
whole block slots [] a = tt
whole block slots (p ∷ ps) a = (whole_at block (slice_get slots p.1) p.0 a.0, whole block slots ps a.2)

pub IsCache-seen : (slots : List Held) (ps : List (Id16 × ℕ)) (cap most block : ℕ) → IsSound slots ps cap most block → IsCache (record { entries = seen slots ps; most = most; block = block })
IsCache-seen slots ps cap most block s = record {
  slots_differ = slots_differ block slots ps s.placed;
  ids_differ = ids_differ block slots ps s.placed;
  at_most = omega (arith, length-map ps (entry_at slots), s.one_each, s.at_most);
  whole = All-from_recursion (λ (e : Entry). length e.bytes ≡ block) (seen slots ps) (whole block slots ps s.placed);
}

-- the order after a new name was put into it
pub put_entries-absent : (id : Id16) (slot : ℕ) (ps : List (Id16 × ℕ)) (cap : ℕ) → lookup (id_eq id) ps ≡ None → length ps < cap → put_entries id_eq (lru_cache ps cap) id slot ≡ (id, slot) ∷ ps
put_entries-absent id slot ps cap none spare =
    let absent : lookup_entry (id_eq id) ps ≡ None = lookup_entry-none (id_eq id) ps none in
    rw absent (ap (λ l. (id, slot) ∷ l) (take_all (cap - 1) ps (omega arith)))
  where
    lookup_entry-none : (t : Id16 → Bool) (qs : List (Id16 × ℕ)) → lookup t qs ≡ None → lookup_entry t qs ≡ None
    lookup_entry-none t [] n = refl
    lookup_entry-none t (q ∷ qs) n = elim (cases_Bool (t q.0)) [
      | inl y ↦ let g = rw y at n in cc
      | inr y ↦ rw y (lookup_entry-none t qs (rw y at n))
    ]

-- an empty cache
pub IsCache-empty : (most block : ℕ) → IsCache (record { entries = []; most = most; block = block })
unfolding IsDistinct
IsCache-empty most block = record { slots_differ = tt; ids_differ = tt; at_most = omega arith; whole = All-nil (λ (e : Entry). length e.bytes ≡ block) }
