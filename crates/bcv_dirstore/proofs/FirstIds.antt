-- Ids that are put into a map stand there in order, each once, and its range gives the first of them.
use Rattle.std.proofs.Common.{◌≡◌, ◌∙◌, ℕ, zero, suc, ◌<◌, ◌≤◌, Bool, true, false, ◌&&◌, ◌||◌, List, [], ◌∷◌, ◌++◌, length, take, nat_lt, Option, Some, None, if◌then◌else◌, refl, sym, ap, subst, arith}
use Rattle.std.proofs.Common.{length-append, length-take-le, ltb-true}
use Rattle.std.proofs.lemmas.Bool.Decides.{Decides-ltb}
use Rattle.std.proofs.lemmas.Bool.{le-ltb, ltb-false}
use Rattle.std.proofs.lemmas.List.{append-nil, take_all}
use Rattle.std.proofs.lemmas.List.Kept.{IsStrictlySortedBy-filter}
use Rattle.std.proofs.Math.Seq.{take-append_seam}
use Rattle.std.proofs.lemmas.Map.Text.{is_eq-slice_cmp}
use Rattle.std.proofs.lemmas.Slice.Eq.{bytes_eq-Decides}
use Rattle.std.proofs.lemmas.Cmp.{nat_list_eq_equiv}
use Rattle.std.specs.Option.{is_some}
use Rattle.std.specs.List.{filter, list_all, AllByRecursion}
use Rattle.std.specs.List.Sorted.{IsStrictlySortedBy}
use Rattle.std.specs.Ordering.{is_lt}
use Rattle.std.specs.declared.cmp.Ordering.TheVariants.{Less}
use Rattle.std.specs.Cmp.{first_so, second_so}
use Rattle.std.specs.Map.{keys_of, lookup}
use Rattle.std.specs.BTreeMap.{BTreeMap, get, is_at, IsOrdered, Updates}
use Rattle.std.specs.BTreeMap.Range.{range_contains}
use Rattle.std.specs.declared.ops.Bound.TheVariants as bound
use Rattle.bcv_base.specs.declared.id.Id16.{Id16}
use Rattle.bcv_base.specs.Ids.{id_eq, has_id}
use Rattle.bcv_store.specs.declared.store.Listed.{Listed}
use Rattle.bcv_store.specs.declared.store.Listed.TheVariants as listed
use Rattle.bcv_store.specs.Asked.{is_past, id_before, are_ascending}
use Rattle.bcv_store.specs.Within.{IsListedWithin}
use Rattle.bcv_dirstore.specs.FolderShown.{Files}
use Rattle.bcv_dirstore.specs.FolderCalls.{AreBlocks}
use Rattle.bcv_dirstore.specs.Answers.{AreFilesAbove, ListAnswersFiles}
use Rattle.bcv_dirstore.specs.Index.{id_cmp, start_of, ids_past, HasIds, AreIdsAbove, ListsFirst}

both : (a b : Bool) → a ≡ true → b ≡ true → (a && b) ≡ true
both a b g h = ap (λ (x : Bool). x && b) g ∙ h

-- ---- into the map

-- the keys and the ids that are still to come are all ids
abbrev pub Comes : {V : Type 0} → BTreeMap Id16 V → List Id16 → List Id16 → Type 0
Comes sorted rest all = (i : Id16) → (is_some (get id_cmp sorted i) || has_id i rest) ≡ has_id i all

-- one more id
pub comes_more : {V : Type 0} (old new : BTreeMap Id16 V) (id : Id16) (v : V) (rest all : List Id16) → Updates id_cmp old new id (Some v)
    → Comes old (id ∷ rest) all → Comes new rest all
comes_more old new id v rest all updates comes i =
    ap (λ (x : Option _). is_some x || has_id i rest) (updates.0 i) ∙ pick (id_eq id i) (is_at (id_cmp id) i) (is_some (get id_cmp old i)) (sym (is_eq-slice_cmp id.0 i.0)) refl ∙ comes i
  where
    or-true : (b : Bool) → true ≡ (b || true)
    or-true true = refl
    or-true false = refl

    pick : (b at had : Bool) → b ≡ at → had ≡ is_some (get id_cmp old i)
        → (is_some (if at then Some v else get id_cmp old i) || has_id i rest) ≡ (is_some (get id_cmp old i) || (b || has_id i rest))
    pick true true had same is = or-true (is_some (get id_cmp old i))
    pick true false had same is = absurd (cc same)
    pick false true had same is = absurd (cc same)
    pick false false had same is = refl

-- ---- in order

all_less : (i : Id16) (ids : List Id16) → AllByRecursion (λ (j : Id16). id_cmp i j ≡ Less) ids → list_all (id_before i) ids ≡ true
all_less i [] h = refl
all_less i (j ∷ js) h = both _ _ (ap is_lt h.0) (all_less i js h.1)

ascending_sorted : (ids : List Id16) → IsStrictlySortedBy id_cmp ids → are_ascending ids ≡ true
unfolding IsStrictlySortedBy
ascending_sorted [] h = refl
ascending_sorted (i ∷ is) h = both _ _ (all_less i is h.0) (ascending_sorted is h.1)

-- what holds of each of some ids holds of the first of them
all_take : (p : Id16 → Bool) (n : ℕ) (ids : List Id16) → list_all p ids ≡ true → list_all p (take n ids) ≡ true
all_take p zero ids h = refl
all_take p (suc n) [] h = refl
all_take p (suc n) (i ∷ is) h = both _ _ (first_so _ _ h) (all_take p n is (second_so _ _ h))

ascending_take : (n : ℕ) (ids : List Id16) → are_ascending ids ≡ true → are_ascending (take n ids) ≡ true
ascending_take zero ids h = refl
ascending_take (suc n) [] h = refl
ascending_take (suc n) (i ∷ is) h = both _ _ (all_take (id_before i) n is (first_so _ _ h)) (ascending_take n is (second_so _ _ h))

-- ---- out of the range

-- a full list, with one more id left
pub more_listed : (into all rest : List Id16) (i : Id16) → into ++ i ∷ rest ≡ all → length into ≡ 1024 → (true ≡ nat_lt 1024 (length all)) × (into ≡ take 1024 all)
more_listed into all rest i is full =
    let longer : 1024 < length all = omega (arith, length-append into (i ∷ rest), ap length is) in (
      sym ((Decides-ltb 1024 (length all)).1 longer),
      sym (ap (take 1024) (sym is) ∙ ap (λ (n : ℕ). take n (into ++ i ∷ rest)) (sym full) ∙ take-append_seam into (i ∷ rest)),
    )

-- a list with no id left
pub end_listed : (into all : List Id16) → into ++ [] ≡ all → length into ≤ 1024 → (false ≡ nat_lt 1024 (length all)) × (into ≡ take 1024 all)
end_listed into all is most =
    let same : into ≡ all = sym (append-nil into) ∙ is in
    let short : length all ≤ 1024 = subst (λ (ids : List Id16). length ids ≤ 1024) same most in
    (sym (le-ltb 1024 (length all) short), same ∙ sym (take_all 1024 all short))

-- an id passes the range where it is above the one from which the list goes on
in_range : (after : Option Id16) (i : Id16) → range_contains id_cmp (start_of after) bound.Unbounded i ≡ is_past after i
in_range None i = refl
in_range (Some a) i = and-true (id_before a i)
  where
    and-true : (b : Bool) → (b && true) ≡ b
    and-true true = refl
    and-true false = refl

module _ {V : Type 0} where
  -- the keys of some entries are the ids that are found there
  pub has_key : (i : Id16) (es : List (Id16 × V)) → has_id i (keys_of es) ≡ is_some (lookup (is_at (id_cmp i)) es)
  has_key i [] = refl
  has_key i (e ∷ es) = pick (is_at (id_cmp i) e.0) (nat_list_eq_equiv.symm e.0.0 i.0 ∙ sym (is_eq-slice_cmp i.0 e.0.0)) (has_key i es)
    where
      pick : (at : Bool) → id_eq e.0 i ≡ at → has_id i (keys_of es) ≡ is_some (lookup (is_at (id_cmp i)) es)
          → (id_eq e.0 i || has_id i (keys_of es)) ≡ is_some (if at then Some e.1 else lookup (is_at (id_cmp i)) es)
      pick true is h = ap (λ (b : Bool). b || has_id i (keys_of es)) is
      pick false is h = ap (λ (b : Bool). b || has_id i (keys_of es)) is ∙ h

  -- the keys of the entries that pass a test of keys
  keys_filter : (p : Id16 → Bool) (es : List (Id16 × V)) → keys_of (filter (λ (e : Id16 × V). p e.0) es) ≡ filter p (keys_of es)
  keys_filter p [] = refl
  keys_filter p (e ∷ es) = pick (p e.0) (keys_filter p es)
    where
      pick : (b : Bool) → keys_of (filter (λ (e : Id16 × V). p e.0) es) ≡ filter p (keys_of es)
          → keys_of (if b then e ∷ filter (λ (e : Id16 × V). p e.0) es else filter (λ (e : Id16 × V). p e.0) es) ≡ (if b then e.0 ∷ filter p (keys_of es) else filter p (keys_of es))
      pick true h = ap (λ (ids : List Id16). e.0 ∷ ids) h
      pick false h = h

-- the ids that pass a test
abbrev past_of : Option Id16 → List Id16 → List Id16
past_of after ids = filter (λ (i : Id16). range_contains id_cmp (start_of after) bound.Unbounded i) ids

-- among them is each that is there and passes
has_past : (after : Option Id16) (i : Id16) (ids : List Id16) → has_id i (past_of after ids) ≡ (is_past after i && has_id i ids)
has_past after i [] = none (is_past after i)
  where
    none : (b : Bool) → false ≡ (b && false)
    none true = refl
    none false = refl
has_past after i (j ∷ js) = pick (range_contains id_cmp (start_of after) bound.Unbounded j) (id_eq j i) refl refl (has_past after i js)
  where
    same : id_eq j i ≡ true → is_past after i ≡ range_contains id_cmp (start_of after) bound.Unbounded j
    same is = ap (λ (bytes : List ℕ). is_past after (record { 0 = bytes })) (sym ((bytes_eq-Decides j.0 i.0).0 is)) ∙ sym (in_range after j)

    kept : Bool → List Id16
    kept b = if b then j ∷ past_of after js else past_of after js

    pick : (b own : Bool) → b ≡ range_contains id_cmp (start_of after) bound.Unbounded j → own ≡ id_eq j i
        → has_id i (past_of after js) ≡ (is_past after i && has_id i js)
        → has_id i (kept b) ≡ (is_past after i && (own || has_id i js))
    pick true true b_is own_is h = ap (λ (x : Bool). x || has_id i (past_of after js)) (sym own_is) ∙ sym (ap (λ (x : Bool). x && true) (same (sym own_is) ∙ sym b_is))
    pick true false b_is own_is h = ap (λ (x : Bool). x || has_id i (past_of after js)) (sym own_is) ∙ h
    pick false true b_is own_is h =
        let past : is_past after i ≡ false = same (sym own_is) ∙ sym b_is in
        h ∙ ap (λ (x : Bool). x && has_id i js) past ∙ sym (ap (λ (x : Bool). x && true) past)
    pick false false b_is own_is h = h

-- each of them passes
all_past : (after : Option Id16) (ids : List Id16) → list_all (is_past after) (past_of after ids) ≡ true
all_past after [] = refl
all_past after (i ∷ is) = pick (range_contains id_cmp (start_of after) bound.Unbounded i) refl (all_past after is)
  where
    pick : (b : Bool) → b ≡ range_contains id_cmp (start_of after) bound.Unbounded i → list_all (is_past after) (past_of after is) ≡ true
        → list_all (is_past after) (if b then i ∷ past_of after is else past_of after is) ≡ true
    pick true is_b h = both _ _ (sym (is_b ∙ in_range after i)) h
    pick false is_b h = h

module _ {V : Type 0} (sorted : BTreeMap Id16 V) (found : List Id16) (after : Option Id16) (ordered : IsOrdered id_cmp sorted) where
  ids_are_past : ids_past after sorted ≡ past_of after (keys_of sorted.entries)
  ids_are_past = keys_filter (λ (i : Id16). range_contains id_cmp (start_of after) bound.Unbounded i) sorted.entries

  ids_are : HasIds sorted found → AreIdsAbove found after (ids_past after sorted)
  ids_are has = record {
    ascending = rw ids_are_past (ascending_sorted _ (IsStrictlySortedBy-filter id_cmp (λ (i : Id16). range_contains id_cmp (start_of after) bound.Unbounded i) (keys_of sorted.entries) ordered));
    there = λ (i : Id16). rw ids_are_past (has_past after i (keys_of sorted.entries) ∙ ap (λ (b : Bool). is_past after i && b) (has_key i sorted.entries ∙ has i));
  }

  all_above : list_all (is_past after) (ids_past after sorted) ≡ true
  all_above = rw ids_are_past (all_past after (keys_of sorted.entries))

  ascending : are_ascending (ids_past after sorted) ≡ true
  ascending = rw ids_are_past (ascending_sorted _ (IsStrictlySortedBy-filter id_cmp (λ (i : Id16). range_contains id_cmp (start_of after) bound.Unbounded i) (keys_of sorted.entries) ordered))

  pub listed_more : (into : List Id16) → HasIds sorted found → (true ≡ nat_lt 1024 (length (ids_past after sorted))) × (into ≡ take 1024 (ids_past after sorted))
      → ListsFirst found after into listed.More
  listed_more into has h = (ids_past after sorted, ids_are has, ltb-true _ _ (sym h.0), h.1)

  pub listed_end : (into : List Id16) → HasIds sorted found → (false ≡ nat_lt 1024 (length (ids_past after sorted))) × (into ≡ take 1024 (ids_past after sorted))
      → ListsFirst found after into listed.End
  listed_end into has h =
      let short : length (ids_past after sorted) ≤ 1024 = ltb-false _ _ (sym h.0) in
      let same : into ≡ ids_past after sorted = h.1 ∙ take_all 1024 (ids_past after sorted) short in
      (rw same (ids_are has), rw same short)

  pub within_more : (into : List Id16) → (true ≡ nat_lt 1024 (length (ids_past after sorted))) × (into ≡ take 1024 (ids_past after sorted))
      → IsListedWithin after into listed.More
  within_more into h =
      let longer : 1024 < length (ids_past after sorted) = ltb-true _ _ (sym h.0) in (
        rw h.1 (record { ascending = ascending_take 1024 (ids_past after sorted) ascending; past = all_take (is_past after) 1024 (ids_past after sorted) all_above }),
        rw h.1 (omega (arith, length-take-le 1024 (ids_past after sorted) (omega arith))),
      )

  pub within_end : (into : List Id16) → (false ≡ nat_lt 1024 (length (ids_past after sorted))) × (into ≡ take 1024 (ids_past after sorted))
      → IsListedWithin after into listed.End
  within_end into h =
      let short : length (ids_past after sorted) ≤ 1024 = ltb-false _ _ (sym h.0) in
      let same : into ≡ ids_past after sorted = h.1 ∙ take_all 1024 (ids_past after sorted) short in
      (rw same (record { ascending = ascending; past = all_above }), rw same short)

-- ---- the files of a folder

-- the first of the ids that a folder gave are the first of its blocks
pub lists_files : (files : Files) (found : List Id16) (from : Option Id16) (into : List Id16) (failed : Type 0) (result : Listed) → AreBlocks files found
    → ListsFirst found from into result → ListAnswersFiles files from into failed result
lists_files files found from into failed result are = by_result result
  where
    above : (ids : List Id16) → AreIdsAbove found from ids → AreFilesAbove files from ids
    above ids a = record { ascending = a.ascending; there = λ (i : Id16). a.there i ∙ ap (λ (b : Bool). is_past from i && b) (are i) }

    by_result : (result : Listed) → ListsFirst found from into result → ListAnswersFiles files from into failed result
    by_result listed.More p = (p.0, above p.0 p.1, p.2, p.3)
    by_result listed.End p = (above into p.0, p.1)
    by_result listed.Failed p = absurd p
    by_result listed.NoMemory p = p
