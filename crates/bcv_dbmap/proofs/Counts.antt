-- How many dead blocks a plan leaves: what is counted in pieces is the length of the whole.
use Rattle.std.proofs.Common.{◌≡◌, ◌∙◌, ℕ, ◌+◌, ◌*◌, ◌≤◌, zero, suc, Bool, true, false, cond, List, [], ◌∷◌, ◌++◌, length, take, drop, map, replicate, Option, Some, None, Result, Ok, Err, refl, sym, ap, subst, arith, inl, inr}
use Rattle.std.specs.Prelude.{◌||◌, ◌&&◌, not, max, is_some, is_none, nat_lt, nat_le}
use Rattle.std.specs.List.{filter, AllByRecursion}
use Rattle.std.specs.Str.{bytes_eq}
use Rattle.std.specs.Result.{MatchResult, is_ok}
use Rattle.std.proofs.lemmas.Bool.{and_parts, or_left, or_right, cases_lt, lt-ltb, le-ltb, le-leb, lt-leb, ltb-false}
use Rattle.std.proofs.lemmas.List.{length-append, take-append-drop}
use Rattle.std.proofs.lemmas.List.Elements.{filter-append}
use Rattle.bcv_base.specs.declared.id.Id16.{Id16}
use Rattle.bcv_base.specs.declared.manifest.DbEntry.{DbEntry}
use Rattle.bcv_base.specs.declared.manifest.Dead.{Dead}
use Rattle.bcv_base.specs.declared.manifest.Manifest.{Manifest}
use Rattle.bcv_base.specs.Ids.{id_eq, has_id}
use Rattle.bcv_base.specs.Keyed.{keyed, with_keyed, without_keyed}
use Rattle.bcv_base.specs.ManifestRules.{IsAbove, Ascends, MeetsDeadRules, MeetsEntryRules, MeetsRules, db_name, dead_id, lists}
use Rattle.bcv_dbmap.specs.declared.fault.EditFault.{EditFault}
use Rattle.bcv_dbmap.specs.declared.fault.EditFault.TheVariants as fault
use Rattle.bcv_dbmap.specs.declared.plan.EditPlan.{EditPlan}
use Rattle.bcv_dbmap.specs.declared.plan.EditPlan.TheVariants as plan
use Rattle.bcv_dbmap.specs.Applied.{dbs_after, dead_after}
use Rattle.bcv_dbmap.specs.Checked.{zero_id, counted, without_zeros, plan_fault, dead_length}
use Rattle.bcv_dbmap.specs.Counted.{lists_other, is_filled, lists_behind, gone_length, too_large}
use Rattle.bcv_dbmap.specs.Merged.{own_key, blocks_of, chosen, marked, leaving, taken_off, dead_of, with_dead}
use Rattle.bcv_dbmap.proofs.Chosen.{same_id, keyed_ids, has_chosen, ascends_chosen}
use Rattle.bcv_dbmap.proofs.Keys.{by_test, by_place, by_removal, same_key, key_same, keyed_here, keyed_there, above_none, above_all, all_found, length_new, length_over}
use Rattle.bcv_dbmap.proofs.Merging.{keyed_dead}
use Rattle.bcv_dbmap.proofs.Moved.{dead_after_is, found_listed}
use Rattle.bcv_dbmap.proofs.Passes.{not_then, then_not}

-- ---- marks

length_cond : {A : Type 0} (b : Bool) (xs ys : List A) → length (cond b xs ys) ≡ cond b (length xs) (length ys)
length_cond true xs ys = refl
length_cond false xs ys = refl

-- the marks that are not there are of the ids that no test takes
pub count_marked : (test : Id16 → Bool) (ids : List Id16) → length (filter (λ b. not b) (marked test ids (replicate (length ids) false))) ≡ length (filter (λ i. not (test i)) ids)
count_marked test [] = refl
count_marked test (i ∷ is) = step (test i) (marked test is (replicate (length is) false)) (count_marked test is)
  where
    step : (b : Bool) (marks : List Bool) → length (filter (λ b. not b) marks) ≡ length (filter (λ i. not (test i)) is)
        → length (cond (not b) (b ∷ filter (λ b. not b) marks) (filter (λ b. not b) marks)) ≡ length (cond (not b) (i ∷ filter (λ i. not (test i)) is) (filter (λ i. not (test i)) is))
    step true marks e = e
    step false marks e = ap suc e

-- ---- ids, each counted once

length_with : (i : Id16) (ids : List Id16) → Ascends own_key ids → length (with_keyed own_key i ids) ≡ cond (has_id i ids) (length ids) (length ids + 1)
length_with i ids asc = by (has_id i ids) (keyed_ids i ids)
  where
    by : (b : Bool) → keyed own_key i.0 ids ≡ cond b (Some i) None → length (with_keyed own_key i ids) ≡ cond b (length ids) (length ids + 1)
    by true e = length_over own_key i i ids asc e
    by false e = length_new own_key i ids e

has_both : (i : Id16) (xs ys : List Id16) → has_id i (xs ++ ys) ≡ (has_id i xs || has_id i ys)
has_both i [] ys = refl
has_both i (x ∷ xs) ys = ap (λ (b : Bool). id_eq x i || b) (has_both i xs ys) ∙ either (id_eq x i) (has_id i xs) (has_id i ys)
  where
    either : (a b c : Bool) → (a || (b || c)) ≡ ((a || b) || c)
    either true b c = refl
    either false b c = refl

last_step : (out more again : Bool) (whole with_whole part with_part rest : ℕ) → whole ≡ part + rest
    → with_whole ≡ cond ((again || more) && not out) whole (whole + 1) → with_part ≡ cond (again && not (out || more)) part (part + 1)
    → cond (not out) with_whole whole ≡ cond (not (out || more)) with_part part + rest
last_step true more again whole with_whole part with_part rest e w p = e
last_step false true true whole with_whole part with_part rest e w p = w ∙ e
last_step false true false whole with_whole part with_part rest e w p = w ∙ e
last_step false false true whole with_whole part with_part rest e w p = omega arith
last_step false false false whole with_whole part with_part rest e w p = omega arith

-- an id that comes again is counted where it comes last
pub counted_last : (out : Id16 → Bool) (first later : List Id16)
    → length (chosen (λ i. not (out i)) (first ++ later)) ≡ length (chosen (λ i. not (out i || has_id i later)) first) + length (chosen (λ i. not (out i)) later)
counted_last out [] later = omega arith
counted_last out (i ∷ is) later =
    let whole : List Id16 = chosen (λ j. not (out j)) (is ++ later) in
    let part : List Id16 = chosen (λ j. not (out j || has_id j later)) is in
    let rest : List Id16 = chosen (λ j. not (out j)) later in
    length_cond (not (out i)) (with_keyed own_key i whole) whole
    ∙ last_step (out i) (has_id i later) (has_id i is) (length whole) (length (with_keyed own_key i whole)) (length part) (length (with_keyed own_key i part)) (length rest)
    (counted_last out is later)
    (length_with i whole (ascends_chosen (λ j. not (out j)) (is ++ later))
    ∙ ap (λ (b : Bool). cond b (length whole) (length whole + 1)) (has_chosen (λ j. not (out j)) i (is ++ later) ∙ ap (λ (b : Bool). b && not (out i)) (has_both i is later)))
    (length_with i part (ascends_chosen (λ j. not (out j || has_id j later)) is)
    ∙ ap (λ (b : Bool). cond b (length part) (length part + 1)) (has_chosen (λ j. not (out j || has_id j later)) i is))
    ∙ sym (ap (λ (n : ℕ). n + length rest) (length_cond (not (out i || has_id i later)) (with_keyed own_key i part) part))

-- a piece and what is left of the ids
pub counted_piece : (out : Id16 → Bool) (ids : List Id16) (n count : ℕ) (whole : ℕ) → count + length (chosen (λ i. not (out i)) ids) ≡ whole
    → (count + length (chosen (λ i. not (out i || has_id i (drop n ids))) (take n ids))) + length (chosen (λ i. not (out i)) (drop n ids)) ≡ whole
counted_piece out ids n count whole e =
    let both : length (chosen (λ i. not (out i)) ids) ≡ length (chosen (λ i. not (out i || has_id i (drop n ids))) (take n ids)) + length (chosen (λ i. not (out i)) (drop n ids)) =
    ap (λ (l : List Id16). length (chosen (λ i. not (out i)) l)) (sym (take-append-drop n ids)) ∙ counted_last out (take n ids) (drop n ids) in
    omega arith

-- no more than the ids
pub few_chosen : (test : Id16 → Bool) (ids : List Id16) → length (chosen test ids) ≤ length ids
few_chosen test [] = omega arith
few_chosen test (i ∷ is) = step (test i) (few_chosen test is)
  where
    one : (b : Bool) → length (chosen test is) ≤ length is → cond b (length (chosen test is)) (length (chosen test is) + 1) ≤ length (i ∷ is)
    one true h = omega arith
    one false h = omega arith

    step : (b : Bool) → length (chosen test is) ≤ length is → length (cond b (with_keyed own_key i (chosen test is)) (chosen test is)) ≤ length (i ∷ is)
    step true h = subst (λ (n : ℕ). n ≤ length (i ∷ is)) (sym (length_with i (chosen test is) (ascends_chosen test is))) (one (has_id i (chosen test is)) h)
    step false h = omega arith

-- ---- dead blocks in pieces

pub ascends_take : {A : Type 0} (key : A → List ℕ) (n : ℕ) (xs : List A) → Ascends key xs → Ascends key (take n xs)
ascends_take key zero xs asc = tt
ascends_take key (suc n) [] asc = tt
ascends_take {A = A} key (suc n) (x ∷ xs) asc = (above (key x) n xs asc.0, ascends_take key n xs asc.1)
  where
    above : (k : List ℕ) (n : ℕ) (xs : List A) → IsAbove key k xs → IsAbove key k (take n xs)
    above k zero xs h = tt
    above k (suc n) [] h = tt
    above k (suc n) (x ∷ xs) h = (h.0, above k n xs h.1)

pub ascends_drop : {A : Type 0} (key : A → List ℕ) (n : ℕ) (xs : List A) → Ascends key xs → Ascends key (drop n xs)
ascends_drop key zero xs asc = asc
ascends_drop key (suc n) [] asc = tt
ascends_drop key (suc n) (x ∷ xs) asc = ascends_drop key n xs asc.1

ids_above : (k : List ℕ) (dead : List Dead) → IsAbove dead_id k dead → IsAbove own_key k (map (λ e. e.id) dead)
ids_above k [] above = tt
ids_above k (e ∷ es) above = (above.0, ids_above k es above.1)

pub ids_ascend : (dead : List Dead) → Ascends dead_id dead → Ascends own_key (map (λ e. e.id) dead)
ids_ascend [] asc = tt
ids_ascend (e ∷ es) asc = (ids_above e.id.0 es asc.0, ids_ascend es asc.1)

pub count_of_ids : (out : Id16 → Bool) (dead : List Dead) → length (filter (λ i. not (out i)) (map (λ e. e.id) dead)) ≡ length (filter (λ e. not (out e.id)) dead)
count_of_ids out [] = refl
count_of_ids out (e ∷ es) = step (out e.id) (count_of_ids out es)
  where
    step : (b : Bool) → length (filter (λ i. not (out i)) (map (λ e. e.id) es)) ≡ length (filter (λ e. not (out e.id)) es)
        → length (cond (not b) (e.id ∷ filter (λ i. not (out i)) (map (λ e. e.id) es)) (filter (λ i. not (out i)) (map (λ e. e.id) es))) ≡ length (cond (not b) (e ∷ filter (λ e. not (out e.id)) es) (filter (λ e. not (out e.id)) es))
    step true h = h
    step false h = ap suc h

pub filtered_piece : (test : Dead → Bool) (dead : List Dead) (n count : ℕ) (whole : ℕ) → count + length (filter test dead) ≡ whole
    → (count + length (filter test (take n dead))) + length (filter test (drop n dead)) ≡ whole
filtered_piece test dead n count whole e =
    let both : length (filter test dead) ≡ length (filter test (take n dead)) + length (filter test (drop n dead)) =
    ap (λ (l : List Dead). length (filter test l)) (sym (take-append-drop n dead)) ∙ ap length (filter-append test (take n dead) (drop n dead)) ∙ length-append (filter test (take n dead)) (filter test (drop n dead)) in
    omega arith

pub few_filtered : (test : Dead → Bool) (dead : List Dead) → length (filter test dead) ≤ length dead
few_filtered test [] = omega arith
few_filtered test (e ∷ es) = step (test e) (few_filtered test es)
  where
    step : (b : Bool) → length (filter test es) ≤ length es → length (cond b (e ∷ filter test es) (filter test es)) ≤ length (e ∷ es)
    step true h = omega arith
    step false h = omega arith

-- ---- ids that are filled in

pub filled_is : (i : Id16) (ids : List Id16) → is_filled ids i ≡ has_id i (filter (λ x. not (id_eq x zero_id)) ids)
filled_is i [] = refl
filled_is i (x ∷ xs) = step (id_eq x zero_id) (filled_is i xs)
  where
    step : (b : Bool) → is_filled xs i ≡ has_id i (filter (λ x. not (id_eq x zero_id)) xs)
        → ((not b && id_eq x i) || is_filled xs i) ≡ has_id i (cond (not b) (x ∷ filter (λ x. not (id_eq x zero_id)) xs) (filter (λ x. not (id_eq x zero_id)) xs))
    step true h = h
    step false h = ap (λ (b : Bool). id_eq x i || b) h

-- ---- what is listed behind a plan

either : (a b c : Bool) → (a || (b || c)) ≡ ((a || b) || c)
either true b c = refl
either false b c = refl

turned : (a b : Bool) → (a || b) ≡ (b || a)
turned true true = refl
turned true false = refl
turned false true = refl
turned false false = refl

-- where no database has the name, all are others
all_others : (i : Id16) (name : List ℕ) (dbs : List DbEntry) → keyed db_name name dbs ≡ None → lists_other name dbs i ≡ lists dbs i
all_others i name [] none = refl
all_others i name (d ∷ ds) none =
    by_test (bytes_eq d.name name)
    (λ t. let found : Some d ≡ None = sym (keyed_here db_name name d ds t) ∙ none in absurd cc)
    (λ t. ap (λ (b : Bool). (not b && has_id i d.blocks) || lists_other name ds i) t
    ∙ ap (λ (b : Bool). has_id i d.blocks || b) (all_others i name ds (sym (keyed_there db_name name d ds t) ∙ none)))

pub removal_lists : (i : Id16) (name : List ℕ) (dbs : List DbEntry) → lists (without_keyed db_name name dbs) i ≡ lists_other name dbs i
removal_lists i name [] = refl
removal_lists i name (d ∷ ds) =
    by_removal db_name (λ (l : List DbEntry). lists l i ≡ lists_other name (d ∷ ds) i) name d ds
    (λ t. removal_lists i name ds ∙ sym (ap (λ (b : Bool). (not b && has_id i d.blocks) || lists_other name ds i) t))
    (λ t. ap (λ (b : Bool). has_id i d.blocks || b) (removal_lists i name ds) ∙ sym (ap (λ (b : Bool). (not b && has_id i d.blocks) || lists_other name ds i) t))

pub put_lists : (i : Id16) (e : DbEntry) (dbs : List DbEntry) → Ascends db_name dbs → lists (with_keyed db_name e dbs) i ≡ (lists_other e.name dbs i || has_id i e.blocks)
put_lists i e [] asc = turned (has_id i e.blocks) false
put_lists i e (d ∷ ds) asc =
    by_place db_name (λ (l : List DbEntry). lists l i ≡ (lists_other e.name (d ∷ ds) i || has_id i e.blocks)) e d ds
    (λ t.
    let none : keyed db_name e.name ds ≡ None = above_none db_name e.name ds (subst (λ (k : List ℕ). IsAbove db_name k ds) (same_key d.name e.name t) asc.0) in
    turned (has_id i e.blocks) (lists ds i)
    ∙ ap (λ (b : Bool). b || has_id i e.blocks) (sym (all_others i e.name ds none) ∙ sym (ap (λ (b : Bool). (not b && has_id i d.blocks) || lists_other e.name ds i) t)))
    (λ t f.
    let none : keyed db_name e.name (d ∷ ds) ≡ None = above_none db_name e.name (d ∷ ds) (f, above_all db_name e.name d ds f asc.0) in
    turned (has_id i e.blocks) (lists (d ∷ ds) i) ∙ ap (λ (b : Bool). b || has_id i e.blocks) (sym (all_others i e.name (d ∷ ds) none)))
    (λ t f.
    ap (λ (b : Bool). has_id i d.blocks || b) (put_lists i e ds asc.1) ∙ either (has_id i d.blocks) (lists_other e.name ds i) (has_id i e.blocks)
    ∙ ap (λ (b : Bool). b || has_id i e.blocks) (sym (ap (λ (b : Bool). (not b && has_id i d.blocks) || lists_other e.name ds i) t)))

same_tests : (f g : Id16 → Bool) (ids : List Id16) → ((i : Id16) → f i ≡ g i) → length (chosen f ids) ≡ length (chosen g ids)
same_tests f g ids same =
    let alike : f ≡ g = λ j i. same i j in
    ap (λ (h : Id16 → Bool). length (chosen h ids)) alike

-- how many blocks a plan lists no longer
pub gone_is : (p : EditPlan) (dbs : List DbEntry) → Ascends db_name dbs
    → length (chosen (λ i. not (lists (dbs_after (counted p) zero_id dbs) i)) (leaving p dbs)) ≡ gone_length p dbs
gone_is (plan.New e) dbs asc = refl
gone_is (plan.Upload from e) dbs asc =
    let made : DbEntry = record (without_zeros e) { tag = zero_id } in
    same_tests (λ i. not (lists (with_keyed db_name made dbs) i)) (λ i. not (lists_behind e.name e.blocks dbs i)) (blocks_of (keyed db_name e.name dbs))
    (λ i. ap not (put_lists i made dbs asc ∙ ap (λ (b : Bool). lists_other e.name dbs i || b) (sym (filled_is i e.blocks))))
gone_is (plan.Copy from to) dbs asc = refl
gone_is (plan.Remove name) dbs asc =
    same_tests (λ i. not (lists (without_keyed db_name name dbs) i)) (λ i. not (lists_behind name [] dbs i)) (blocks_of (keyed db_name name dbs))
    (λ i. ap not (removal_lists i name dbs ∙ turned false (lists_other name dbs i)))
gone_is (plan.Sweep ids) dbs asc = refl

-- no more than leave
pub few_gone : (p : EditPlan) (dbs : List DbEntry) → Ascends db_name dbs → gone_length p dbs ≤ length (leaving p dbs)
few_gone p dbs asc =
    subst (λ (n : ℕ). n ≤ length (leaving p dbs)) (gone_is p dbs asc) (few_chosen (λ i. not (lists (dbs_after (counted p) zero_id dbs) i)) (leaving p dbs))

-- ---- the delete list

some_is : (a : Bool) (x : Dead) (o : Option Dead) → a ≡ false → o ≡ None → cond a (Some x) o ≡ None
some_is a x o e none = ap (λ (b : Bool). cond b (Some x) o) e ∙ none

above_has_none : (i : Id16) (ids : List Id16) → IsAbove own_key i.0 ids → has_id i ids ≡ false
above_has_none i ids above = by (has_id i ids) (sym (keyed_ids i ids) ∙ above_none own_key i.0 ids above)
  where
    by : (b : Bool) → cond b (Some i) None ≡ None → b ≡ false
    by true e = absurd cc
    by false e = refl

-- ids that are not dead are so many more
pub length_dead : (stamp : ℕ) (ids : List Id16) (dead : List Dead) → Ascends own_key ids → ((i : Id16) → has_id i ids ≡ true → keyed dead_id i.0 dead ≡ None)
    → length (with_dead stamp ids dead) ≡ length dead + length ids
length_dead stamp [] dead asc apart = omega arith
length_dead stamp (i ∷ is) dead asc apart =
    let rest : length (with_dead stamp is dead) ≡ length dead + length is =
    length_dead stamp is dead asc.1 (λ j h. apart j (or_right (id_eq i j) (has_id j is) h)) in
    let new : keyed dead_id i.0 (with_dead stamp is dead) ≡ None =
    keyed_dead stamp i.0 is dead
    ∙ some_is (has_id i is) (dead_of stamp i) (keyed dead_id i.0 dead) (above_has_none i is asc.0) (apart i (or_left (id_eq i i) (has_id i is) (key_same i.0))) in
    let one : length (with_keyed dead_id (dead_of stamp i) (with_dead stamp is dead)) ≡ length (with_dead stamp is dead) + 1 = length_new dead_id (dead_of stamp i) (with_dead stamp is dead) new in
    omega arith

-- a block that is listed is not in the delete list
listed_apart : (i : Id16) (dbs : List DbEntry) (dead : List Dead) → AllByRecursion (MeetsDeadRules dbs) dead → lists dbs i ≡ true → keyed dead_id i.0 dead ≡ None
listed_apart i dbs [] all h = refl
listed_apart i dbs (e ∷ es) all h =
    let of_e : MeetsDeadRules dbs e = all.0 in
    by_test (bytes_eq e.id.0 i.0)
    (λ t. let both : true ≡ false = sym h ∙ ap (lists dbs) (sym (same_id e.id i t)) ∙ of_e.unlisted in absurd cc)
    (λ t. keyed_there dead_id i.0 e es t ∙ listed_apart i dbs es all.1 h)

none_filtered : (k : List ℕ) (test : Dead → Bool) (dead : List Dead) → keyed dead_id k dead ≡ None → keyed dead_id k (filter test dead) ≡ None
none_filtered k test [] none = refl
none_filtered k test (e ∷ es) none =
    by_test (bytes_eq e.id.0 k)
    (λ t. let found : Some e ≡ None = sym (keyed_here dead_id k e es t) ∙ none in absurd cc)
    (λ t. step (test e) t (none_filtered k test es (sym (keyed_there dead_id k e es t) ∙ none)))
  where
    step : (b : Bool) → bytes_eq e.id.0 k ≡ false → keyed dead_id k (filter test es) ≡ None → keyed dead_id k (cond b (e ∷ filter test es) (filter test es)) ≡ None
    step true t h = keyed_there dead_id k e (filter test es) t ∙ h
    step false t h = h

leaving_listed : (p : EditPlan) (dbs : List DbEntry) (i : Id16) → has_id i (leaving p dbs) ≡ true → lists dbs i ≡ true
leaving_listed (plan.New e) dbs i h = absurd cc
leaving_listed (plan.Upload from e) dbs i h = found_listed i e.name dbs h
leaving_listed (plan.Copy from to) dbs i h = absurd cc
leaving_listed (plan.Remove name) dbs i h = found_listed i name dbs h
leaving_listed (plan.Sweep ids) dbs i h = absurd cc

counted_fault : (block : ℕ) (dbs : List DbEntry) (p : EditPlan) → plan_fault block dbs (counted p) ≡ plan_fault block dbs p
counted_fault block dbs (plan.New e) = refl
counted_fault block dbs (plan.Upload from e) = refl
counted_fault block dbs (plan.Copy from to) = refl
counted_fault block dbs (plan.Remove name) = refl
counted_fault block dbs (plan.Sweep ids) = refl

counted_leaving : (dbs : List DbEntry) (p : EditPlan) → leaving (counted p) dbs ≡ leaving p dbs
counted_leaving dbs (plan.New e) = refl
counted_leaving dbs (plan.Upload from e) = refl
counted_leaving dbs (plan.Copy from to) = refl
counted_leaving dbs (plan.Remove name) = refl
counted_leaving dbs (plan.Sweep ids) = refl

-- the dead blocks that stay, and the blocks that are listed no longer
pub dead_length_is : (m : Manifest) (p : EditPlan) → MeetsRules m → plan_fault m.block m.dbs p ≡ None
    → dead_length m p ≡ length (filter (λ e. not (has_id e.id (taken_off (counted p)))) m.dead) + gone_length p m.dbs
dead_length_is m p rules passes =
    let stamp : ℕ = max m.moment 0 in
    let now : List DbEntry = dbs_after (counted p) zero_id m.dbs in
    let test = λ (i : Id16). not (lists now i) in
    let gone : List Id16 = chosen test (leaving (counted p) m.dbs) in
    let stays : List Dead = filter (λ e. not (has_id e.id (taken_off (counted p)))) m.dead in
    let whole : dead_after (counted p) stamp now m.dbs m.dead ≡ with_dead stamp gone stays =
    sym (dead_after_is (counted p) stamp m.block zero_id m.dbs m.dead rules.dbs rules.dead rules.each_dead (counted_fault m.block m.dbs p ∙ passes)) in
    ap length whole
    ∙ length_dead stamp gone stays (ascends_chosen test (leaving (counted p) m.dbs))
    (λ i h. none_filtered i.0 (λ e. not (has_id e.id (taken_off (counted p)))) m.dead
    (listed_apart i m.dbs m.dead rules.each_dead (leaving_listed (counted p) m.dbs i (and_parts (has_id i (leaving (counted p) m.dbs)) (test i) (sym (has_chosen test i (leaving (counted p) m.dbs)) ∙ h)).0)))
    ∙ ap (λ (n : ℕ). length stays + n) (ap (λ (l : List Id16). length (chosen test l)) (counted_leaving m.dbs p) ∙ gone_is p m.dbs rules.dbs)

-- at most the dead blocks and the blocks of the database that goes
pub few_dead_after : (m : Manifest) (p : EditPlan) → MeetsRules m → plan_fault m.block m.dbs p ≡ None → dead_length m p ≤ length m.dead + length (leaving p m.dbs)
few_dead_after m p rules passes =
    let is = dead_length_is m p rules passes in
    let stays : length (filter (λ e. not (has_id e.id (taken_off (counted p)))) m.dead) ≤ length m.dead = few_filtered (λ e. not (has_id e.id (taken_off (counted p)))) m.dead in
    let gone : gone_length p m.dbs ≤ length (leaving p m.dbs) = few_gone p m.dbs rules.dbs in
    omega arith

-- a database has no more blocks than it may
pub few_leaving : (p : EditPlan) (block : ℕ) (dbs : List DbEntry) → AllByRecursion (MeetsEntryRules block) dbs → length (leaving p dbs) ≤ 65536
few_leaving p block dbs all = of p
  where
    few : (o : Option DbEntry) → ((d : DbEntry) → o ≡ Some d → MeetsEntryRules block d) → length (blocks_of o) ≤ 65536
    few None each = omega arith
    few (Some d) each = let of_d : MeetsEntryRules block d = each d refl in of_d.few

    of : (p : EditPlan) → length (leaving p dbs) ≤ 65536
    of (plan.New e) = omega arith
    of (plan.Upload from e) = few (keyed db_name e.name dbs) (λ d found. all_found db_name (MeetsEntryRules block) e.name dbs d all found)
    of (plan.Copy from to) = omega arith
    of (plan.Remove name) = few (keyed db_name name dbs) (λ d found. all_found db_name (MeetsEntryRules block) name dbs d all found)
    of (plan.Sweep ids) = omega arith

-- ---- a put in a table

module _ {A : Type 0} (key : A → List ℕ) where
  pub length_there : (a : A) (xs : List A) → Ascends key xs → is_some (keyed key (key a) xs) ≡ true → length (with_keyed key a xs) ≡ length xs
  length_there a xs asc there = by (keyed key (key a) xs) refl there
    where
      by : (o : Option A) → keyed key (key a) xs ≡ o → is_some o ≡ true → length (with_keyed key a xs) ≡ length xs
      by None e h = absurd cc
      by (Some b) e h = length_over key a b xs asc e

  pub length_missing : (a : A) (xs : List A) → is_some (keyed key (key a) xs) ≡ false → length (with_keyed key a xs) ≡ length xs + 1
  length_missing a xs missing = by (keyed key (key a) xs) refl missing
    where
      by : (o : Option A) → keyed key (key a) xs ≡ o → is_some o ≡ false → length (with_keyed key a xs) ≡ length xs + 1
      by None e h = length_new key a xs e
      by (Some b) e h = absurd cc

-- one more than the most is more, just where the table is full
pub full_there : {A : Type 0} (o : Option A) (n : ℕ) → n ≤ 4096 → is_some o ≡ true → nat_lt 4096 n ≡ (is_none o && nat_le 4096 n)
full_there None n few h = absurd cc
full_there (Some a) n few h = le-ltb 4096 n few

pub full_missing : {A : Type 0} (o : Option A) (n : ℕ) → is_some o ≡ false → nat_lt 4096 (n + 1) ≡ (is_none o && nat_le 4096 n)
full_missing None n h = elim (cases_lt n 4096) [
  | inl less ↦ le-ltb 4096 (n + 1) (omega arith) ∙ sym (lt-leb 4096 n less)
  | inr more ↦ lt-ltb 4096 (n + 1) (omega arith) ∙ sym (le-leb 4096 n more)
]
full_missing (Some a) n h = absurd cc

-- ---- the size of the result

pub none_from_ok : (r : Result (Unit {0}) EditFault) (o : Option EditFault) → MatchResult r (λ _. o ≡ None) (λ f. o ≡ Some f) → is_ok r ≡ true → o ≡ None
none_from_ok (Ok u) o h ok = h
none_from_ok (Err f) o h ok = absurd cc

pub not_larger : (bytes most dead : ℕ) → dead ≤ most → too_large bytes most ≡ None → too_large bytes dead ≡ None
not_larger bytes most dead le h =
    let full = not_then (nat_lt 1048576 most) fault.DeleteListFull (cond (nat_lt 67108864 (bytes + 24 * most)) (Some fault.ManifestTooLong) None) h in
    let long = not_then (nat_lt 67108864 (bytes + 24 * most)) fault.ManifestTooLong None full.1 in
    let few : most ≤ 1048576 = ltb-false 1048576 most full.0 in
    let short : bytes + 24 * most ≤ 67108864 = ltb-false 67108864 (bytes + 24 * most) long.0 in
    then_not (nat_lt 1048576 dead) fault.DeleteListFull (cond (nat_lt 67108864 (bytes + 24 * dead)) (Some fault.ManifestTooLong) None) (le-ltb 1048576 dead (omega arith))
    (then_not (nat_lt 67108864 (bytes + 24 * dead)) fault.ManifestTooLong None (le-ltb 67108864 (bytes + 24 * dead) (omega arith)) refl)
