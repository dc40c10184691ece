-- The delete list with ascending ids merged into it.
use Rattle.std.proofs.Common.{◌≡◌, ◌∙◌, ℕ, ◌+◌, ◌<◌, ◌≤◌, Bool, true, false, cond, List, [], ◌∷◌, ◌++◌, length, get_or, drop, map, Option, Some, refl, sym, ap, subst, append_assoc, arith, inl, inr}
use Rattle.std.specs.Prelude.{◌||◌, ◌⊎◌}
use Rattle.std.specs.Cmp.Lexicographic.{slice_cmp, nat_list_cmp_total, texts_ties}
use Rattle.std.specs.Ordering.{nat_cmp, is_lt, is_eq, ordering_reverse}
use Rattle.std.specs.Str.{bytes_eq}
use Rattle.std.specs.declared.cmp.Ordering.{Ordering}
use Rattle.std.specs.declared.cmp.Ordering.TheVariants.{Less, Equal, Greater}
use Rattle.std.proofs.lemmas.List.{drop_more, drop_all, append-nil}
use Rattle.bcv_base.specs.declared.id.Id16.{Id16}
use Rattle.bcv_base.specs.declared.manifest.Dead.{Dead}
use Rattle.bcv_base.specs.Ids.{has_id}
use Rattle.bcv_base.specs.Keyed.{comes_before, keyed, with_keyed}
use Rattle.bcv_base.specs.ManifestRules.{IsAbove, Ascends, dead_id}
use Rattle.bcv_dbmap.specs.Merged.{own_key, dead_of, with_dead, step_by, step_of}
use Rattle.bcv_dbmap.proofs.Keys.{same_key, keyed_with, ascends_with, above_with, above_all, with_over, with_front, with_later, before_other, behind_other, before_back}
use Rattle.bcv_dbmap.proofs.Chosen.{id_at, same_id}

-- ---- what a look-up finds

twice : (a b : Bool) (x : Option Dead) (y : Option Dead) → cond a x (cond b x y) ≡ cond (a || b) x y
twice true b x y = refl
twice false b x y = refl

pub keyed_dead : (stamp : ℕ) (k : List ℕ) (ids : List Id16) (dead : List Dead)
    → keyed dead_id k (with_dead stamp ids dead) ≡ cond (has_id (id_at k) ids) (Some (dead_of stamp (id_at k))) (keyed dead_id k dead)
keyed_dead stamp k [] dead = refl
keyed_dead stamp k (i ∷ is) dead =
    keyed_with dead_id (dead_of stamp i) k (with_dead stamp is dead)
    ∙ ap (λ (o : Option Dead). cond (bytes_eq i.0 k) (Some (dead_of stamp i)) o) (keyed_dead stamp k is dead)
    ∙ own (bytes_eq i.0 k) refl
    ∙ twice (bytes_eq i.0 k) (has_id (id_at k) is) (Some (dead_of stamp (id_at k))) (keyed dead_id k dead)
  where
    own : (b : Bool) → bytes_eq i.0 k ≡ b
        → cond (bytes_eq i.0 k) (Some (dead_of stamp i)) (cond (has_id (id_at k) is) (Some (dead_of stamp (id_at k))) (keyed dead_id k dead))
        ≡ cond (bytes_eq i.0 k) (Some (dead_of stamp (id_at k))) (cond (has_id (id_at k) is) (Some (dead_of stamp (id_at k))) (keyed dead_id k dead))
    own true e = ap (λ (z : Id16). cond (bytes_eq i.0 k) (Some (dead_of stamp z)) (cond (has_id (id_at k) is) (Some (dead_of stamp (id_at k))) (keyed dead_id k dead))) (same_id i (id_at k) e)
    own false e =
        ap (λ (b : Bool). cond b (Some (dead_of stamp i)) (cond (has_id (id_at k) is) (Some (dead_of stamp (id_at k))) (keyed dead_id k dead))) e
        ∙ sym (ap (λ (b : Bool). cond b (Some (dead_of stamp (id_at k))) (cond (has_id (id_at k) is) (Some (dead_of stamp (id_at k))) (keyed dead_id k dead))) e)

pub ascends_dead : (stamp : ℕ) (ids : List Id16) (dead : List Dead) → Ascends dead_id dead → Ascends dead_id (with_dead stamp ids dead)
ascends_dead stamp [] dead asc = asc
ascends_dead stamp (i ∷ is) dead asc = ascends_with dead_id (dead_of stamp i) (with_dead stamp is dead) (ascends_dead stamp is dead asc)

-- ---- one step of a merge

above_dead : (stamp : ℕ) (k : List ℕ) (ids : List Id16) (dead : List Dead) → IsAbove own_key k ids → IsAbove dead_id k dead → IsAbove dead_id k (with_dead stamp ids dead)
above_dead stamp k [] dead above after = after
above_dead stamp k (i ∷ is) dead above after = above_with dead_id k (dead_of stamp i) (with_dead stamp is dead) above.0 (above_dead stamp k is dead above.1 after)

-- a value that stands before all
put_first : (a : Dead) (es : List Dead) → IsAbove dead_id a.id.0 es → with_keyed dead_id a es ≡ a ∷ es
put_first a [] above = refl
put_first a (e ∷ es) above = with_front dead_id a e es (behind_other a.id.0 e.id.0 above.0) above.0

-- a dead block that stands before all of the ids
pub dead_first : (stamp : ℕ) (ids : List Id16) (e : Dead) (es : List Dead) → IsAbove own_key e.id.0 ids → with_dead stamp ids (e ∷ es) ≡ e ∷ with_dead stamp ids es
dead_first stamp [] e es above = refl
dead_first stamp (i ∷ is) e es above =
    ap (with_keyed dead_id (dead_of stamp i)) (dead_first stamp is e es above.1)
    ∙ with_later dead_id (dead_of stamp i) e (with_dead stamp is es) (before_other e.id.0 i.0 above.0) (before_back e.id.0 i.0 above.0)

pub step_less : (stamp : ℕ) (i : Id16) (is : List Id16) (e : Dead) (es : List Dead) → Ascends own_key (i ∷ is) → Ascends dead_id (e ∷ es) → slice_cmp nat_cmp i.0 e.id.0 ≡ Less
    → with_dead stamp (i ∷ is) (e ∷ es) ≡ dead_of stamp i ∷ with_dead stamp is (e ∷ es)
step_less stamp i is e es ids dead o =
    let first : comes_before i.0 e.id.0 ≡ true = ap is_lt o in
    put_first (dead_of stamp i) (with_dead stamp is (e ∷ es)) (above_dead stamp i.0 is (e ∷ es) ids.0 (first, above_all dead_id i.0 e es first dead.0))

pub step_equal : (stamp : ℕ) (i : Id16) (is : List Id16) (e : Dead) (es : List Dead) → Ascends own_key (i ∷ is) → Ascends dead_id (e ∷ es) → slice_cmp nat_cmp i.0 e.id.0 ≡ Equal
    → with_dead stamp (i ∷ is) (e ∷ es) ≡ dead_of stamp i ∷ with_dead stamp is es
step_equal stamp i is e es ids dead o =
    let same : i.0 ≡ e.id.0 = same_key i.0 e.id.0 (texts_ties i.0 e.id.0 ∙ ap is_eq o) in
    let turned : bytes_eq e.id.0 i.0 ≡ true = ap (λ (k : List ℕ). bytes_eq k i.0) (sym same) ∙ texts_ties i.0 i.0 ∙ ap (λ (k : List ℕ). is_eq (slice_cmp nat_cmp i.0 k)) same ∙ ap is_eq o in
    ap (with_keyed dead_id (dead_of stamp i)) (dead_first stamp is e es (subst (λ (k : List ℕ). IsAbove own_key k is) same ids.0))
    ∙ with_over dead_id (dead_of stamp i) e (with_dead stamp is es) turned

pub step_greater : (stamp : ℕ) (i : Id16) (is : List Id16) (e : Dead) (es : List Dead) → Ascends own_key (i ∷ is) → Ascends dead_id (e ∷ es) → slice_cmp nat_cmp i.0 e.id.0 ≡ Greater
    → with_dead stamp (i ∷ is) (e ∷ es) ≡ e ∷ with_dead stamp (i ∷ is) es
step_greater stamp i is e es ids dead o =
    let first : comes_before e.id.0 i.0 ≡ true = ap is_lt (nat_list_cmp_total.antisymm e.id.0 i.0 ∙ ap ordering_reverse o) in
    dead_first stamp (i ∷ is) e es (first, above_all own_key e.id.0 i is first ids.0)

-- ids behind all dead blocks
pub ids_last : (stamp : ℕ) (ids : List Id16) → Ascends own_key ids → with_dead stamp ids [] ≡ map (dead_of stamp) ids
ids_last stamp [] asc = refl
ids_last stamp (i ∷ is) asc =
    put_first (dead_of stamp i) (with_dead stamp is []) (above_dead stamp i.0 is [] asc.0 tt) ∙ ap (λ (l : List Dead). dead_of stamp i ∷ l) (ids_last stamp is asc.1)

-- ---- the whole merge

ascends_drop : {A : Type 0} (key : A → List ℕ) (xs : List A) (n : ℕ) (d : A) → n < length xs → Ascends key (drop n xs) → Ascends key (get_or xs n d ∷ drop (n + 1) xs)
ascends_drop key xs n d lt asc = subst (Ascends key) (drop_more xs n d lt) asc

-- the first so many ids and dead blocks were merged
pub record IsMerged (stamp : ℕ) (ids : List Id16) (dead merged : List Dead) (n m : ℕ) : Type 0 where
  pub few_ids : n ≤ length ids
  pub few_dead : m ≤ length dead
  pub ids_ascend : Ascends own_key (drop n ids)
  pub dead_ascend : Ascends dead_id (drop m dead)
  pub is : merged ++ with_dead stamp (drop n ids) (drop m dead) ≡ with_dead stamp ids dead

pub merged_none : (stamp : ℕ) (ids : List Id16) (dead : List Dead) → Ascends own_key ids → Ascends dead_id dead → IsMerged stamp ids dead [] 0 0
merged_none stamp ids dead asc up = record { few_ids = omega arith; few_dead = omega arith; ids_ascend = asc; dead_ascend = up; is = refl }

goes : (merged rest : List Dead) (a : Dead) (l whole : List Dead) → merged ++ l ≡ whole → l ≡ a ∷ rest → (merged ++ a ∷ []) ++ rest ≡ whole
goes merged rest a l whole so_far e = append_assoc merged (a ∷ []) rest ∙ sym (ap (λ (z : List Dead). merged ++ z) e) ∙ so_far

module _ (stamp : ℕ) (ids : List Id16) (dead merged : List Dead) (n m : ℕ) (i : Id16) (e : Dead) (in_ids : n < length ids) (in_dead : m < length dead) (h : IsMerged stamp ids dead merged n m) where
  abbrev is : List Id16
  is = drop (n + 1) ids

  abbrev es : List Dead
  es = drop (m + 1) dead

  both : with_dead stamp (drop n ids) (drop m dead) ≡ with_dead stamp (get_or ids n i ∷ is) (get_or dead m e ∷ es)
  both = ap (λ (l : List Id16). with_dead stamp l (drop m dead)) (drop_more ids n i in_ids) ∙ ap (with_dead stamp (get_or ids n i ∷ is)) (drop_more dead m e in_dead)

  up : Ascends own_key (get_or ids n i ∷ is)
  up = ascends_drop own_key ids n i in_ids h.ids_ascend

  dead_up : Ascends dead_id (get_or dead m e ∷ es)
  dead_up = ascends_drop dead_id dead m e in_dead h.dead_ascend

  abbrev Goes : Dead × ℕ × ℕ → Type 0
  Goes s = IsMerged stamp ids dead (merged ++ s.0 ∷ []) (n + s.1) (m + s.2)

  abbrev own : Dead
  own = dead_of stamp (get_or ids n i)

  -- each way of going on, where the numbers are plain
  less : slice_cmp nat_cmp (get_or ids n i).0 (get_or dead m e).id.0 ≡ Less → IsMerged stamp ids dead (merged ++ own ∷ []) (n + 1) m
  less o = record {
    few_ids = omega arith;
    few_dead = omega arith;
    ids_ascend = up.1;
    dead_ascend = h.dead_ascend;
    is = goes merged (with_dead stamp is (drop m dead)) own (with_dead stamp (drop n ids) (drop m dead)) (with_dead stamp ids dead) h.is
        (both ∙ step_less stamp (get_or ids n i) is (get_or dead m e) es up dead_up o
        ∙ ap (λ (l : List Dead). own ∷ with_dead stamp is l) (sym (drop_more dead m e in_dead)));
  }

  equal : slice_cmp nat_cmp (get_or ids n i).0 (get_or dead m e).id.0 ≡ Equal → IsMerged stamp ids dead (merged ++ own ∷ []) (n + 1) (m + 1)
  equal o = record {
    few_ids = omega arith;
    few_dead = omega arith;
    ids_ascend = up.1;
    dead_ascend = dead_up.1;
    is = goes merged (with_dead stamp is es) own (with_dead stamp (drop n ids) (drop m dead)) (with_dead stamp ids dead) h.is
        (both ∙ step_equal stamp (get_or ids n i) is (get_or dead m e) es up dead_up o);
  }

  greater : slice_cmp nat_cmp (get_or ids n i).0 (get_or dead m e).id.0 ≡ Greater → IsMerged stamp ids dead (merged ++ get_or dead m e ∷ []) n (m + 1)
  greater o = record {
    few_ids = omega arith;
    few_dead = omega arith;
    ids_ascend = h.ids_ascend;
    dead_ascend = dead_up.1;
    is = goes merged (with_dead stamp (drop n ids) es) (get_or dead m e) (with_dead stamp (drop n ids) (drop m dead)) (with_dead stamp ids dead) h.is
        (both ∙ step_greater stamp (get_or ids n i) is (get_or dead m e) es up dead_up o
        ∙ ap (λ (l : List Id16). get_or dead m e ∷ with_dead stamp l es) (sym (drop_more ids n i in_ids)));
  }

  goes_by : (o : Ordering) → slice_cmp nat_cmp (get_or ids n i).0 (get_or dead m e).id.0 ≡ o → Goes (step_by o stamp (get_or ids n i) (get_or dead m e))
  goes_by Less o = let none : m ≡ m + 0 = omega arith in subst (λ (k : ℕ). IsMerged stamp ids dead (merged ++ own ∷ []) (n + 1) k) none (less o)
  goes_by Equal o = equal o
  goes_by Greater o = let none : n ≡ n + 0 = omega arith in subst (λ (k : ℕ). IsMerged stamp ids dead (merged ++ get_or dead m e ∷ []) k (m + 1)) none (greater o)

  pub merged_more : Goes (step_of stamp (get_or ids n i) (get_or dead m e))
  merged_more = goes_by (slice_cmp nat_cmp (get_or ids n i).0 (get_or dead m e).id.0) refl

-- one of the two lists has ended
pub merged_all : (stamp : ℕ) (ids : List Id16) (dead merged : List Dead) (n m : ℕ) → IsMerged stamp ids dead merged n m → (length ids ≤ n) ⊎ (length dead ≤ m)
    → (merged ++ map (dead_of stamp) (drop n ids)) ++ drop m dead ≡ with_dead stamp ids dead
merged_all stamp ids dead merged n m h ended =
    append_assoc merged (map (dead_of stamp) (drop n ids)) (drop m dead)
    ∙ ap (λ (l : List Dead). merged ++ l) (elim ended [
      | inl ids_end ↦
          let none : drop n ids ≡ [] = drop_all n ids ids_end in
          ap (λ (l : List Id16). map (dead_of stamp) l ++ drop m dead) none ∙ sym (ap (λ (l : List Id16). with_dead stamp l (drop m dead)) none)
      | inr dead_end ↦
          let none : drop m dead ≡ [] = drop_all m dead dead_end in
          ap (λ (l : List Dead). map (dead_of stamp) (drop n ids) ++ l) none ∙ append-nil (map (dead_of stamp) (drop n ids))
          ∙ sym (ids_last stamp (drop n ids) h.ids_ascend) ∙ sym (ap (with_dead stamp (drop n ids)) none)
    ])
    ∙ h.is
