-- Which blocks a plan moves: off the databases, and off the delete list.
use Rattle.std.proofs.Common.{◌≡◌, ◌∙◌, ℕ, Bool, true, false, cond, List, [], ◌∷◌, Option, Some, None, refl, sym, ap, subst}
use Rattle.std.specs.Prelude.{◌||◌, ◌&&◌, not, is_some, is_none}
use Rattle.std.specs.List.{AllByRecursion, filter}
use Rattle.std.specs.Option.{option_map}
use Rattle.std.specs.Str.{bytes_eq}
use Rattle.std.proofs.lemmas.Bool.{or_parts, or_left, or_right}
use Rattle.bcv_base.specs.declared.id.Id16.{Id16}
use Rattle.bcv_base.specs.declared.manifest.DbEntry.{DbEntry}
use Rattle.bcv_base.specs.declared.manifest.Dead.{Dead}
use Rattle.bcv_base.specs.Ids.{has_id}
use Rattle.bcv_base.specs.Keyed.{keyed, with_keyed, without_keyed, with_made}
use Rattle.bcv_base.specs.ManifestRules.{IsAbove, Ascends, MeetsDeadRules, db_name, dead_id, lists}
use Rattle.bcv_dbmap.specs.declared.plan.EditPlan.{EditPlan}
use Rattle.bcv_dbmap.specs.declared.plan.EditPlan.TheVariants as plan
use Rattle.bcv_dbmap.specs.declared.fault.EditFault.TheVariants as fault
use Rattle.bcv_dbmap.specs.Applied.{dbs_after, swept_ids, still_dead, dead_after}
use Rattle.bcv_dbmap.specs.Checked.{plan_fault}
use Rattle.bcv_dbmap.specs.Merged.{blocks_of, leaving, taken_off, chosen, dead_of, with_dead}
use Rattle.bcv_dbmap.proofs.Keys.{by_test, by_place, by_removal, same_key, keyed_here, keyed_there, above_none, same_lookups}
use Rattle.bcv_dbmap.proofs.Chosen.{id_at, has_chosen}
use Rattle.bcv_dbmap.proofs.DeadLaws.{bury_all_found, still_ascends, dead_after_ascends}
use Rattle.bcv_dbmap.proofs.Merging.{keyed_dead, ascends_dead}
use Rattle.bcv_dbmap.proofs.Passes.{not_then}

or_none : (b : Bool) → (b || false) ≡ b
or_none true = refl
or_none false = refl

-- ---- a put and a removal

-- a block that no database lists is listed behind a put just where the new database lists it
pub put_unlisted : (i : Id16) (e : DbEntry) (dbs : List DbEntry) → lists dbs i ≡ false → lists (with_keyed db_name e dbs) i ≡ has_id i e.blocks
put_unlisted i e [] h = or_none (has_id i e.blocks)
put_unlisted i e (d ∷ ds) h =
    let parts = or_parts (has_id i d.blocks) (lists ds i) h in
    by_place db_name (λ (l : List DbEntry). lists l i ≡ has_id i e.blocks) e d ds
    (λ t. ap (λ (b : Bool). has_id i e.blocks || b) parts.1 ∙ or_none (has_id i e.blocks))
    (λ t f. ap (λ (b : Bool). has_id i e.blocks || b) h ∙ or_none (has_id i e.blocks))
    (λ t f. ap (λ (b : Bool). b || lists (with_keyed db_name e ds) i) parts.0 ∙ put_unlisted i e ds parts.1)

-- a listed block that the old database of the name hasn't stays listed behind a put
pub put_listed : (i : Id16) (e : DbEntry) (dbs : List DbEntry) → lists dbs i ≡ true → has_id i (blocks_of (keyed db_name e.name dbs)) ≡ false → lists (with_keyed db_name e dbs) i ≡ true
put_listed i e [] h none = absurd cc
put_listed i e (d ∷ ds) h none =
    by_place db_name (λ (l : List DbEntry). lists l i ≡ true) e d ds
    (λ t.
    let other : has_id i d.blocks ≡ false = ap (λ (o : Option DbEntry). has_id i (blocks_of o)) (sym (keyed_here db_name e.name d ds t)) ∙ none in
    let rest : lists ds i ≡ true = sym (ap (λ (b : Bool). b || lists ds i) other) ∙ h in
    or_right (has_id i e.blocks) (lists ds i) rest)
    (λ t f. or_right (has_id i e.blocks) (lists (d ∷ ds) i) h)
    (λ t f.
    by_test (has_id i d.blocks)
    (λ own. or_left (has_id i d.blocks) (lists (with_keyed db_name e ds) i) own)
    (λ own.
    let rest : lists ds i ≡ true = sym (ap (λ (b : Bool). b || lists ds i) own) ∙ h in
    or_right (has_id i d.blocks) (lists (with_keyed db_name e ds) i)
    (put_listed i e ds rest (ap (λ (o : Option DbEntry). has_id i (blocks_of o)) (sym (keyed_there db_name e.name d ds t)) ∙ none))))

-- where no database has the name, all listed blocks stay listed
pub put_new : (i : Id16) (e : DbEntry) (dbs : List DbEntry) → lists dbs i ≡ true → keyed db_name e.name dbs ≡ None → lists (with_keyed db_name e dbs) i ≡ true
put_new i e dbs h new = put_listed i e dbs h (ap (λ (o : Option DbEntry). has_id i (blocks_of o)) new)

pub removal_unlisted : (i : Id16) (name : List ℕ) (dbs : List DbEntry) → lists dbs i ≡ false → lists (without_keyed db_name name dbs) i ≡ false
removal_unlisted i name [] h = refl
removal_unlisted i name (d ∷ ds) h =
    let parts = or_parts (has_id i d.blocks) (lists ds i) h in
    by_removal db_name (λ (l : List DbEntry). lists l i ≡ false) name d ds
    (λ t. removal_unlisted i name ds parts.1)
    (λ t. ap (λ (b : Bool). b || lists (without_keyed db_name name ds) i) parts.0 ∙ removal_unlisted i name ds parts.1)

-- a name that no database has is not removed
pub removal_none : (name : List ℕ) (dbs : List DbEntry) → keyed db_name name dbs ≡ None → without_keyed db_name name dbs ≡ dbs
removal_none name [] none = refl
removal_none name (d ∷ ds) none =
    by_removal db_name (λ (l : List DbEntry). l ≡ d ∷ ds) name d ds
    (λ t. let found : Some d ≡ None = sym (keyed_here db_name name d ds t) ∙ none in absurd cc)
    (λ t. ap (λ (l : List DbEntry). d ∷ l) (removal_none name ds (sym (keyed_there db_name name d ds t) ∙ none)))

pub removal_listed : (i : Id16) (name : List ℕ) (dbs : List DbEntry) → Ascends db_name dbs → lists dbs i ≡ true → has_id i (blocks_of (keyed db_name name dbs)) ≡ false
    → lists (without_keyed db_name name dbs) i ≡ true
removal_listed i name [] asc h none = absurd cc
removal_listed i name (d ∷ ds) asc h none =
    by_removal db_name (λ (l : List DbEntry). lists l i ≡ true) name d ds
    (λ t.
    let other : has_id i d.blocks ≡ false = ap (λ (o : Option DbEntry). has_id i (blocks_of o)) (sym (keyed_here db_name name d ds t)) ∙ none in
    let rest : lists ds i ≡ true = sym (ap (λ (b : Bool). b || lists ds i) other) ∙ h in
    let no_more : keyed db_name name ds ≡ None = above_none db_name name ds (subst (λ (k : List ℕ). IsAbove db_name k ds) (same_key d.name name t) asc.0) in
    ap (λ (l : List DbEntry). lists l i) (removal_none name ds no_more) ∙ rest)
    (λ t.
    by_test (has_id i d.blocks)
    (λ own. or_left (has_id i d.blocks) (lists (without_keyed db_name name ds) i) own)
    (λ own.
    let rest : lists ds i ≡ true = sym (ap (λ (b : Bool). b || lists ds i) own) ∙ h in
    or_right (has_id i d.blocks) (lists (without_keyed db_name name ds) i)
    (removal_listed i name ds asc.1 rest (ap (λ (o : Option DbEntry). has_id i (blocks_of o)) (sym (keyed_there db_name name d ds t)) ∙ none))))

-- what the database of a name lists is listed
pub found_listed : (i : Id16) (name : List ℕ) (dbs : List DbEntry) → has_id i (blocks_of (keyed db_name name dbs)) ≡ true → lists dbs i ≡ true
found_listed i name [] h = absurd cc
found_listed i name (d ∷ ds) h =
    by_test (bytes_eq d.name name)
    (λ t. or_left (has_id i d.blocks) (lists ds i) (ap (λ (o : Option DbEntry). has_id i (blocks_of o)) (sym (keyed_here db_name name d ds t)) ∙ h))
    (λ t. or_right (has_id i d.blocks) (lists ds i) (found_listed i name ds (ap (λ (o : Option DbEntry). has_id i (blocks_of o)) (sym (keyed_there db_name name d ds t)) ∙ h)))

-- ---- plans

copied_unlisted : (i id : Id16) (to : List ℕ) (o : Option DbEntry) (dbs : List DbEntry) → lists dbs i ≡ false → has_id i (blocks_of o) ≡ false
    → lists (with_made db_name (option_map (λ (d : DbEntry). record d { name = to; tag = id }) o) dbs) i ≡ false
copied_unlisted i id to None dbs h own = h
copied_unlisted i id to (Some d) dbs h own = put_unlisted i (record d { name = to; tag = id }) dbs h ∙ own

found_unlisted : (i : Id16) (name : List ℕ) (dbs : List DbEntry) → lists dbs i ≡ false → has_id i (blocks_of (keyed db_name name dbs)) ≡ false
found_unlisted i name dbs h =
    by_test (has_id i (blocks_of (keyed db_name name dbs)))
    (λ t. let both : true ≡ false = sym (found_listed i name dbs t) ∙ h in absurd cc)
    (λ t. t)

-- a block that is not listed leaves the delete list just where it is taken off
pub taken : (p : EditPlan) (id i : Id16) (dbs : List DbEntry) → lists dbs i ≡ false → (lists (dbs_after p id dbs) i || has_id i (swept_ids p)) ≡ has_id i (taken_off p)
taken (plan.New e) id i dbs h = or_none (lists (with_keyed db_name (record e { tag = id }) dbs) i) ∙ put_unlisted i (record e { tag = id }) dbs h
taken (plan.Upload from e) id i dbs h = or_none (lists (with_keyed db_name (record e { tag = id }) dbs) i) ∙ put_unlisted i (record e { tag = id }) dbs h
taken (plan.Copy from to) id i dbs h =
    or_none (lists (dbs_after (plan.Copy from to) id dbs) i) ∙ copied_unlisted i id to (keyed db_name from dbs) dbs h (found_unlisted i from dbs h)
taken (plan.Remove name) id i dbs h = or_none (lists (without_keyed db_name name dbs) i) ∙ removal_unlisted i name dbs h
taken (plan.Sweep ids) id i dbs h = ap (λ (b : Bool). b || has_id i ids) h

copied_listed : (i id : Id16) (to : List ℕ) (o : Option DbEntry) (dbs : List DbEntry) → lists dbs i ≡ true → keyed db_name to dbs ≡ None
    → lists (with_made db_name (option_map (λ (d : DbEntry). record d { name = to; tag = id }) o) dbs) i ≡ true
copied_listed i id to None dbs h new = h
copied_listed i id to (Some d) dbs h new = put_new i (record d { name = to; tag = id }) dbs h new

none_of : {A : Type 0} (o : Option A) → is_some o ≡ false → o ≡ None
none_of None h = refl
none_of (Some a) h = absurd cc

-- no listed block is lost, where none is listed no longer
kept_listed : (b now : Bool) → (b ≡ true → now ≡ true) → now ≡ false → b ≡ false
kept_listed true now keeps h = let both : true ≡ false = sym (keeps refl) ∙ h in absurd cc
kept_listed false now keeps h = refl

-- a block that is listed no longer was listed just where it leaves
left_just : (b own now : Bool) → (own ≡ true → b ≡ true) → (b ≡ true → own ≡ false → now ≡ true) → now ≡ false → b ≡ own
left_just true true now found keeps h = refl
left_just true false now found keeps h = let both : true ≡ false = sym (keeps refl refl) ∙ h in absurd cc
left_just false true now found keeps h = found refl
left_just false false now found keeps h = refl

-- a block that a plan which passes lists no longer was listed just where it leaves
pub left : (p : EditPlan) (block : ℕ) (id i : Id16) (dbs : List DbEntry) → Ascends db_name dbs → plan_fault block dbs p ≡ None → lists (dbs_after p id dbs) i ≡ false
    → lists dbs i ≡ has_id i (leaving p dbs)
left (plan.New e) block id i dbs asc passes h =
    let made : DbEntry = record e { tag = id } in
    let new = not_then (is_some (keyed db_name e.name dbs)) fault.Exists _ passes in
    kept_listed (lists dbs i) (lists (with_keyed db_name made dbs) i) (λ t. put_new i made dbs t (none_of (keyed db_name e.name dbs) new.0)) h
left (plan.Upload from e) block id i dbs asc passes h =
    let made : DbEntry = record e { tag = id } in
    left_just (lists dbs i) (has_id i (blocks_of (keyed db_name e.name dbs))) (lists (with_keyed db_name made dbs) i)
    (found_listed i e.name dbs) (put_listed i made dbs) h
left (plan.Copy from to) block id i dbs asc passes h =
    let there = not_then (is_none (keyed db_name from dbs)) fault.NoDatabase _ passes in
    let new = not_then (is_some (keyed db_name to dbs)) fault.Exists _ there.1 in
    kept_listed (lists dbs i) (lists (dbs_after (plan.Copy from to) id dbs) i)
    (λ t. copied_listed i id to (keyed db_name from dbs) dbs t (none_of (keyed db_name to dbs) new.0)) h
left (plan.Remove name) block id i dbs asc passes h =
    left_just (lists dbs i) (has_id i (blocks_of (keyed db_name name dbs))) (lists (without_keyed db_name name dbs) i)
    (found_listed i name dbs) (removal_listed i name dbs asc) h
left (plan.Sweep ids) block id i dbs asc passes h = h

-- ---- the delete list

flipped : (a b : Bool) (x y : List Dead) → a ≡ b → cond a x y ≡ cond (not b) y x
flipped a true x y e = ap (λ (t : Bool). cond t x y) e
flipped a false x y e = ap (λ (t : Bool). cond t x y) e

-- what stays dead is what is not taken off
pub stays : (p : EditPlan) (id : Id16) (dbs : List DbEntry) (dead : List Dead) → AllByRecursion (MeetsDeadRules dbs) dead
    → still_dead (dbs_after p id dbs) (swept_ids p) dead ≡ filter (λ e. not (has_id e.id (taken_off p))) dead
stays p id dbs [] all = refl
stays p id dbs (e ∷ es) all =
    let of_e : MeetsDeadRules dbs e = all.0 in
    let now : List DbEntry = dbs_after p id dbs in
    flipped (lists now e.id || has_id e.id (swept_ids p)) (has_id e.id (taken_off p)) (still_dead now (swept_ids p) es) (e ∷ still_dead now (swept_ids p) es) (taken p id e.id dbs of_e.unlisted)
    ∙ ap (λ (l : List Dead). cond (not (has_id e.id (taken_off p))) (e ∷ l) l) (stays p id dbs es all.1)

merged_found : (now before own : Bool) (found old : Option Dead) → (now ≡ false → before ≡ own)
    → cond (own && not now) found old ≡ cond now old (cond before found old)
merged_found true before own found old h = unlisted own
  where
    unlisted : (b : Bool) → cond (b && false) found old ≡ old
    unlisted true = refl
    unlisted false = refl
merged_found false before true found old h = sym (ap (λ (b : Bool). cond b found old) (h refl))
merged_found false before false found old h = sym (ap (λ (b : Bool). cond b found old) (h refl))

-- the ids that no database lists any more, with the stamp, among what stays dead
pub dead_after_is : (p : EditPlan) (stamp block : ℕ) (id : Id16) (dbs : List DbEntry) (dead : List Dead)
    → Ascends db_name dbs → Ascends dead_id dead → AllByRecursion (MeetsDeadRules dbs) dead → plan_fault block dbs p ≡ None
    → with_dead stamp (chosen (λ i. not (lists (dbs_after p id dbs) i)) (leaving p dbs)) (filter (λ e. not (has_id e.id (taken_off p))) dead)
    ≡ dead_after p stamp (dbs_after p id dbs) dbs dead
dead_after_is p stamp block id dbs dead dbs_up dead_up all passes =
    let now : List DbEntry = dbs_after p id dbs in
    let still : List Dead = still_dead now (swept_ids p) dead in
    let gone : List Id16 = chosen (λ i. not (lists now i)) (leaving p dbs) in
    ap (with_dead stamp gone) (sym (stays p id dbs dead all))
    ∙ same_lookups dead_id (with_dead stamp gone still) (dead_after p stamp now dbs dead)
    (ascends_dead stamp gone still (still_ascends now (swept_ids p) dead dead_up))
    (dead_after_ascends p stamp now dbs dead dead_up)
    (λ k. let i : Id16 = id_at k in
    keyed_dead stamp k gone still
    ∙ ap (λ (b : Bool). cond b (Some (dead_of stamp i)) (keyed dead_id k still)) (has_chosen (λ j. not (lists now j)) i (leaving p dbs))
    ∙ merged_found (lists now i) (lists dbs i) (has_id i (leaving p dbs)) (Some (dead_of stamp i)) (keyed dead_id k still) (left p block id i dbs dbs_up passes)
    ∙ sym (bury_all_found stamp now dbs i still))

-- what stays dead ascends
pub stays_ascend : (p : EditPlan) (id : Id16) (dbs : List DbEntry) (dead : List Dead) → Ascends dead_id dead → AllByRecursion (MeetsDeadRules dbs) dead
    → Ascends dead_id (filter (λ e. not (has_id e.id (taken_off p))) dead)
stays_ascend p id dbs dead asc all = subst (Ascends dead_id) (stays p id dbs dead all) (still_ascends (dbs_after p id dbs) (swept_ids p) dead asc)
