-- The ids that the index keeps are those of the blocks that are there.
use Rattle.std.proofs.Common.{◌≡◌, ◌∙◌, ℕ, zero, suc, ◌<◌, ◌≤◌, Bool, true, false, ◌&&◌, List, [], ◌∷◌, ◌++◌, length, take, nat_lt, Option, Some, None, if◌then◌else◌, refl, sym, ap, subst, arith}
use Rattle.std.proofs.Common.{length-append}
use Rattle.std.proofs.lemmas.Bool.Decides.{Decides-ltb}
use Rattle.std.proofs.lemmas.Bool.{le-ltb}
use Rattle.std.proofs.lemmas.List.{append-nil, take_all}
use Rattle.std.proofs.Math.Seq.{take-append_seam}
use Rattle.std.specs.Option.{is_some}
use Rattle.std.specs.List.{filter, list_all, AllByRecursion}
use Rattle.std.specs.List.Sorted.{IsStrictlySortedBy}
use Rattle.std.specs.Ordering.{is_lt}
use Rattle.std.specs.declared.cmp.Ordering.TheVariants.{Less}
use Rattle.std.specs.Map.{keys_of, lookup}
use Rattle.std.specs.BTreeMap.{is_at, IsOrdered}
use Rattle.std.specs.BTreeMap.Range.{range_contains, entries_between}
use Rattle.std.specs.declared.ops.Bound.TheVariants as bound
use Rattle.std.proofs.lemmas.Map.Text.{is_eq-slice_cmp}
use Rattle.std.specs.Cmp.{first_so, second_so}
use Rattle.std.proofs.lemmas.Slice.Eq.{bytes_eq-Decides}
use Rattle.std.proofs.lemmas.Cmp.{nat_list_eq_equiv}
use Rattle.std.proofs.lemmas.List.Kept.{IsStrictlySortedBy-filter}
use Rattle.std.proofs.Common.{ltb-true}
use Rattle.bcv_base.specs.declared.id.Id16.{Id16}
use Rattle.bcv_base.specs.declared.object.ObjName.TheVariants as object
use Rattle.bcv_base.specs.declared.log.Entry.{Entry}
use Rattle.bcv_base.specs.Ids.{id_eq, has_id}
use Rattle.std.proofs.Common.{length-take-le}
use Rattle.std.proofs.lemmas.Bool.{ltb-false}
use Rattle.bcv_base.specs.declared.outcome.Outcome.TheVariants as outcome
use Rattle.bcv_store.specs.declared.store.Listed.TheVariants as listed
use Rattle.bcv_store.specs.Asked.{ListAnswers, is_past, id_before, are_ascending, AreIdsAbove}
use Rattle.bcv_store.specs.Within.{IsListedWithin}
use Rattle.bcv_memstore.specs.declared.places.Places.{Places}
use Rattle.bcv_memstore.specs.Index.{id_cmp, IsIndex, start_of, ids_past}

both : (a b : Bool) → a ≡ true → b ≡ true → (a && b) ≡ true
both a b g h = ap (λ (x : Bool). x && b) g ∙ h

-- ---- in order

all_less : (i : Id16) (ids : List Id16) → AllByRecursion (λ (j : Id16). id_cmp i j ≡ Less) ids → list_all (id_before i) ids ≡ true
all_less i [] h = refl
all_less i (j ∷ js) h = both _ _ (ap is_lt h.0) (all_less i js h.1)

ascending_sorted : (ids : List Id16) → IsStrictlySortedBy id_cmp ids → are_ascending ids ≡ true
unfolding IsStrictlySortedBy
ascending_sorted [] h = refl
ascending_sorted (i ∷ is) h = both _ _ (all_less i is h.0) (ascending_sorted is h.1)

-- what holds of each of some values holds of the first of them
pub all_take : (p : Id16 → Bool) (n : ℕ) (ids : List Id16) → list_all p ids ≡ true → list_all p (take n ids) ≡ true
all_take p zero ids h = refl
all_take p (suc n) [] h = refl
all_take p (suc n) (i ∷ is) h = both _ _ (first_so _ _ h) (all_take p n is (second_so _ _ h))

pub ascending_take : (n : ℕ) (ids : List Id16) → are_ascending ids ≡ true → are_ascending (take n ids) ≡ true
ascending_take zero ids h = refl
ascending_take (suc n) [] h = refl
ascending_take (suc n) (i ∷ is) h = both _ _ (all_take (id_before i) n is (first_so _ _ h)) (ascending_take n is (second_so _ _ h))

-- ---- the kept ids above one

passes : Option Id16 → Id16 × ℕ → Bool
passes after e = range_contains id_cmp (start_of after) bound.Unbounded e.0

-- ---- the first of them

-- a full list, with one more id left
pub more_listed : (into all rest : List Id16) (i : Id16) → into ++ i ∷ rest ≡ all → length into ≡ 1024 → (true ≡ nat_lt 1024 (length all)) × (into ≡ take 1024 all)
more_listed into all rest i is full =
    let longer : 1024 < length all = omega (arith, length-append into (i ∷ rest), ap length is) in (
      sym ((Decides-ltb 1024 (length all)).1 longer),
      sym (ap (take 1024) (sym is) ∙ ap (λ (n : ℕ). take n (into ++ i ∷ rest)) (sym full) ∙ take-append_seam into (i ∷ rest)),
    )

-- a list with no id left
pub end_listed : (into all : List Id16) → into ++ [] ≡ all → length into ≤ 1024 → (false ≡ nat_lt 1024 (length all)) × (into ≡ take 1024 all)
end_listed into all is most =
    let same : into ≡ all = sym (append-nil into) ∙ is in
    let short : length all ≤ 1024 = subst (λ (ids : List Id16). length ids ≤ 1024) same most in
    (sym (le-ltb 1024 (length all) short), same ∙ sym (take_all 1024 all short))

-- ---- they are those that are there

-- an id passes the range where it is above the one from which the list goes on
in_range : (after : Option Id16) (i : Id16) → range_contains id_cmp (start_of after) bound.Unbounded i ≡ is_past after i
in_range None i = refl
in_range (Some a) i = and-true (id_before a i)
  where
    and-true : (b : Bool) → (b && true) ≡ b
    and-true true = refl
    and-true false = refl

-- among the kept ids above one is each that is kept and above it
has_kept : (after : Option Id16) (i : Id16) (es : List (Id16 × ℕ))
    → has_id i (keys_of (entries_between id_cmp (start_of after) bound.Unbounded es)) ≡ (is_past after i && is_some (lookup (is_at (id_cmp i)) es))
has_kept after i [] = none (is_past after i)
  where
    none : (b : Bool) → false ≡ (b && false)
    none true = refl
    none false = refl
has_kept after i (e ∷ es) = pick (is_at (id_cmp i) e.0) (range_contains id_cmp (start_of after) bound.Unbounded e.0) refl refl (has_kept after i es)
  where
    same : is_at (id_cmp i) e.0 ≡ true → i.0 ≡ e.0.0
    same at = (bytes_eq-Decides i.0 e.0.0).0 (sym (is_eq-slice_cmp i.0 e.0.0) ∙ at)

    own : is_at (id_cmp i) e.0 ≡ true → id_eq e.0 i ≡ true
    own at = (bytes_eq-Decides e.0.0 i.0).1 (sym (same at))

    other : is_at (id_cmp i) e.0 ≡ false → id_eq e.0 i ≡ false
    other at = nat_list_eq_equiv.symm e.0.0 i.0 ∙ sym (is_eq-slice_cmp i.0 e.0.0) ∙ at

    past_at : {b : Bool} → is_at (id_cmp i) e.0 ≡ true → b ≡ range_contains id_cmp (start_of after) bound.Unbounded e.0 → is_past after i ≡ b
    past_at at is = ap (λ (bytes : List ℕ). is_past after (record { 0 = bytes })) (same at) ∙ sym (is ∙ in_range after e.0)

    kept : Bool → List Id16
    kept b = keys_of (if b then e ∷ entries_between id_cmp (start_of after) bound.Unbounded es else entries_between id_cmp (start_of after) bound.Unbounded es)

    pick : (at b : Bool) → at ≡ is_at (id_cmp i) e.0 → b ≡ range_contains id_cmp (start_of after) bound.Unbounded e.0
        → has_id i (keys_of (entries_between id_cmp (start_of after) bound.Unbounded es)) ≡ (is_past after i && is_some (lookup (is_at (id_cmp i)) es))
        → has_id i (kept b) ≡ (is_past after i && is_some (if at then Some e.1 else lookup (is_at (id_cmp i)) es))
    pick true true at_is b_is h = let past : is_past after i ≡ true = past_at (sym at_is) b_is in rw (own (sym at_is), past) refl
    pick true false at_is b_is h = let past : is_past after i ≡ false = past_at (sym at_is) b_is in h ∙ rw past refl
    pick false true at_is b_is h = rw (other (sym at_is)) h
    pick false false at_is b_is h = h

-- the keys of the entries that pass a test of keys
keys_filter : (p : Id16 → Bool) (es : List (Id16 × ℕ)) → keys_of (filter (λ (e : Id16 × ℕ). p e.0) es) ≡ filter p (keys_of es)
keys_filter p [] = refl
keys_filter p (e ∷ es) = pick (p e.0) (keys_filter p es)
  where
    pick : (b : Bool) → keys_of (filter (λ (e : Id16 × ℕ). p e.0) es) ≡ filter p (keys_of es)
        → keys_of (if b then e ∷ filter (λ (e : Id16 × ℕ). p e.0) es else filter (λ (e : Id16 × ℕ). p e.0) es) ≡ (if b then e.0 ∷ filter p (keys_of es) else filter p (keys_of es))
    pick true h = ap (λ (ids : List Id16). e.0 ∷ ids) h
    pick false h = h

-- each of the kept ids above one is above it
all_past : (after : Option Id16) (ids : List Id16) → list_all (is_past after) (filter (λ (i : Id16). range_contains id_cmp (start_of after) bound.Unbounded i) ids) ≡ true
all_past after [] = refl
all_past after (i ∷ is) = pick (range_contains id_cmp (start_of after) bound.Unbounded i) refl (all_past after is)
  where
    pick : (b : Bool) → b ≡ range_contains id_cmp (start_of after) bound.Unbounded i
        → list_all (is_past after) (filter (λ (i : Id16). range_contains id_cmp (start_of after) bound.Unbounded i) is) ≡ true
        → list_all (is_past after) (if b then i ∷ filter (λ (i : Id16). range_contains id_cmp (start_of after) bound.Unbounded i) is
        else filter (λ (i : Id16). range_contains id_cmp (start_of after) bound.Unbounded i) is) ≡ true
    pick true is_b h = both _ _ (sym (is_b ∙ in_range after i)) h
    pick false is_b h = h

module _ (places : Places) (log : List Entry) (after : Option Id16) (ordered : IsOrdered id_cmp places.blocks) where
  -- they are all that are there
  pub ids_are : IsIndex places log → AreIdsAbove log after (ids_past after places)
  ids_are index = record {
    ascending = rw (keys_filter (λ (i : Id16). range_contains id_cmp (start_of after) bound.Unbounded i) places.blocks.entries)
        (ascending_sorted _ (IsStrictlySortedBy-filter id_cmp (λ (i : Id16). range_contains id_cmp (start_of after) bound.Unbounded i) (keys_of places.blocks.entries) ordered));
    there = λ (i : Id16). has_kept after i places.blocks.entries ∙ ap (λ (b : Bool). is_past after i && b) (index.each (object.Block i)).there;
  }

  all_above : list_all (is_past after) (ids_past after places) ≡ true
  all_above = rw (keys_filter (λ (i : Id16). range_contains id_cmp (start_of after) bound.Unbounded i) places.blocks.entries) (all_past after (keys_of places.blocks.entries))

  pub listed_more : (into : List Id16) → IsIndex places log → (true ≡ nat_lt 1024 (length (ids_past after places))) × (into ≡ take 1024 (ids_past after places))
      → ListAnswers outcome.Ok log after into listed.More
  listed_more into index h = (refl, (ids_past after places, ids_are index, ltb-true _ _ (sym h.0), h.1))

  pub listed_end : (into : List Id16) → IsIndex places log → (false ≡ nat_lt 1024 (length (ids_past after places))) × (into ≡ take 1024 (ids_past after places))
      → ListAnswers outcome.Ok log after into listed.End
  listed_end into index h =
      let short : length (ids_past after places) ≤ 1024 = ltb-false _ _ (sym h.0) in
      let same : into ≡ ids_past after places = h.1 ∙ take_all 1024 (ids_past after places) short in
      (refl, rw same (ids_are index), rw same short)

  pub within_more : (into : List Id16) → (true ≡ nat_lt 1024 (length (ids_past after places))) × (into ≡ take 1024 (ids_past after places))
      → IsIndex places log → IsListedWithin after into listed.More
  within_more into h index =
      let longer : 1024 < length (ids_past after places) = ltb-true _ _ (sym h.0) in (
        rw h.1 (record { ascending = ascending_take 1024 (ids_past after places) (ids_are index).ascending; past = all_take (is_past after) 1024 (ids_past after places) all_above }),
        rw h.1 (omega (arith, length-take-le 1024 (ids_past after places) (omega arith))),
      )

  pub within_end : (into : List Id16) → (false ≡ nat_lt 1024 (length (ids_past after places))) × (into ≡ take 1024 (ids_past after places))
      → IsIndex places log → IsListedWithin after into listed.End
  within_end into h index =
      let short : length (ids_past after places) ≤ 1024 = ltb-false _ _ (sym h.0) in
      let same : into ≡ ids_past after places = h.1 ∙ take_all 1024 (ids_past after places) short in
      (rw same (record { ascending = (ids_are index).ascending; past = all_above }), rw same short)
