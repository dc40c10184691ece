-- The blocks that the manifests of a history listed, one by one: they are those of its versions, and no more blocks are dead.
use Rattle.std.proofs.Common.{◌≡◌, ◌∙◌, ℕ, zero, suc, ◌+◌, ◌≤◌, max, Bool, true, false, cond, ◌||◌, ◌⊎◌, inl, inr, List, [], ◌∷◌, ◌++◌, length, map, drop, length-append, Option, Some, None, is_some, IfSome, refl, sym, ap, ap₂, subst, arith}
use Rattle.std.specs.List.{AllByRecursion}
use Rattle.bcv_base.specs.declared.id.Id16.{Id16}
use Rattle.bcv_base.specs.declared.manifest.DbEntry.{DbEntry}
use Rattle.bcv_base.specs.declared.manifest.Dead.{Dead}
use Rattle.bcv_base.specs.declared.manifest.Manifest.{Manifest}
use Rattle.bcv_base.specs.History.{Item, BlockPut, Published, Unreadable, BlockDeleted, ManifestDeleted, Always, last_of}
use Rattle.bcv_base.specs.HistoryLaws.{last_is}
use Rattle.bcv_base.specs.Ids.{id_eq, has_id}
use Rattle.bcv_base.specs.Joined.{pages_of, joined, database_of}
use Rattle.bcv_base.specs.Keyed.{with_keyed}
use Rattle.bcv_base.specs.ManifestRules.{dead_id, lists, is_dead, blocks_needed, Ascends, MeetsRules}
use Rattle.bcv_base.specs.Version.{Version}
use Rattle.bcv_base.specs.Versions.{IsVersion, Reads, version_of, versions_of}
use Rattle.bcv_dbmap.specs.declared.plan.EditPlan.{EditPlan}
use Rattle.bcv_dbmap.specs.Applied.{bury, dbs_after, dead_after}
use Rattle.bcv_dbmap.specs.Checked.{zero_id, counted, dead_length}
use Rattle.bcv_dbmap.specs.Past.{was_listed}
use Rattle.bcv_base.specs.BlockCounts.{database_blocks, all_blocks}
use Rattle.bcv_dbmap.specs.Sound.{Follows, IsMade, Sound}
use Rattle.bcv_dbmap.proofs.Alike.{longer}
use Rattle.bcv_dbmap.proofs.DeadLaws.{dead_at, dead_after_found, found_died, dead_after_ascends, bury_found, bury_ascends}
use Rattle.bcv_dbmap.proofs.EditLaws.{edit_block}
use Rattle.bcv_dbmap.proofs.Keys.{length_with}
use Rattle.bcv_dbmap.proofs.Limits.{HasNeeded, each_needed}
use Rattle.bcv_dbmap.proofs.PastLaws.{last_some, last_rules, dead_listed}

-- ---- the blocks one by one

-- the blocks of some entries, one entry after the other
abbrev pub blocks_in : List DbEntry → List Id16
blocks_in [] = []
blocks_in (d ∷ ds) = d.blocks ++ blocks_in ds

-- the blocks of each manifest of a history
abbrev pub all_listed : List Item → List Id16
all_listed [] = []
all_listed (BlockPut i bytes ∷ past) = all_listed past
all_listed (Published m ∷ past) = blocks_in m.dbs ++ all_listed past
all_listed (Unreadable ∷ past) = all_listed past
all_listed (BlockDeleted i at ∷ past) = all_listed past
all_listed (ManifestDeleted ∷ past) = all_listed past

or_grouped : (a b c : Bool) → (a || (b || c)) ≡ ((a || b) || c)
or_grouped true b c = refl
or_grouped false b c = refl

has_either : (i : Id16) (xs ys : List Id16) → has_id i (xs ++ ys) ≡ (has_id i xs || has_id i ys)
has_either i [] ys = refl
has_either i (x ∷ xs) ys = ap (λ (b : Bool). id_eq x i || b) (has_either i xs ys) ∙ or_grouped (id_eq x i) (has_id i xs) (has_id i ys)

lists_in : (i : Id16) (ds : List DbEntry) → lists ds i ≡ has_id i (blocks_in ds)
lists_in i [] = refl
lists_in i (d ∷ ds) = ap (λ (b : Bool). has_id i d.blocks || b) (lists_in i ds) ∙ sym (has_either i d.blocks (blocks_in ds))

-- a block that some manifest listed is one of them
was_in : (i : Id16) (past : List Item) → was_listed past i ≡ has_id i (all_listed past)
was_in i [] = refl
was_in i (BlockPut j bytes ∷ past) = was_in i past
was_in i (Published m ∷ past) = ap₂ (λ (a b : Bool). a || b) (lists_in i m.dbs) (was_in i past) ∙ sym (has_either i (blocks_in m.dbs) (all_listed past))
was_in i (Unreadable ∷ past) = was_in i past
was_in i (BlockDeleted j at ∷ past) = was_in i past
was_in i (ManifestDeleted ∷ past) = was_in i past

-- ---- they are those of the versions

length_pages : (n page_size : ℕ) (bytes : List ℕ) → length (pages_of n page_size bytes) ≡ n
length_pages zero page_size bytes = refl
length_pages (suc n) page_size bytes = ap suc (length_pages n page_size (drop page_size bytes))

databases_in : (past : List Item) (block : ℕ) (ds : List DbEntry) → AllByRecursion (HasNeeded block) ds → database_blocks block (map (database_of past) ds) ≡ length (blocks_in ds)
databases_in past block [] all = refl
databases_in past block (d ∷ ds) all =
    ap₂ (λ (n k : ℕ). n + k) (ap (blocks_needed block d.page_size) (length_pages d.pages d.page_size (joined past d.blocks)) ∙ sym all.0) (databases_in past block ds all.1)
    ∙ sym (length-append d.blocks (blocks_in ds))

blocks_more : (block : ℕ) (vs : List Version) (v : Version) → all_blocks block (vs ++ v ∷ []) ≡ all_blocks block vs + database_blocks block v.dbs
blocks_more block [] v = omega arith
blocks_more block (w ∷ ws) v = let rest : all_blocks block (ws ++ v ∷ []) ≡ all_blocks block ws + database_blocks block v.dbs = blocks_more block ws v in omega arith

of_version : (past : List Item) (block : ℕ) (m : Manifest) → MeetsRules m → m.block ≡ block → database_blocks block (map (database_of past) m.dbs) ≡ length (blocks_in m.dbs)
of_version past block m rules same = databases_in past block m.dbs (subst (λ (b : ℕ). AllByRecursion (HasNeeded b) m.dbs) same (each_needed m.block m.dbs rules.each_db))

-- where the last manifest has this block size, they are as many as the blocks of the versions
pub listed_are : (past : List Item) (block : ℕ) → Always Reads past → Always IsMade past → IfSome (last_of past) (λ (m : Manifest). m.block ≡ block)
    → length (all_listed past) ≡ all_blocks block (versions_of past)
listed_are [] block reads made same = refl
listed_are (BlockPut i bytes ∷ past) block reads made same = listed_are past block reads.0 made.0 same
listed_are (Published m ∷ past) block reads made same =
    let is : IsVersion past m = reads.1 in
    let own : database_blocks block (map (database_of past) m.dbs) ≡ length (blocks_in m.dbs) = of_version past block m is.rules same in
    let before : length (all_listed past) ≡ all_blocks block (versions_of past) = listed_are past block reads.0 made.0 (followed (last_of past) made.1) in
    let listed : length (blocks_in m.dbs ++ all_listed past) ≡ length (blocks_in m.dbs) + length (all_listed past) = length-append (blocks_in m.dbs) (all_listed past) in
    let all : all_blocks block (versions_of past ++ version_of past m ∷ []) ≡ all_blocks block (versions_of past) + database_blocks block (map (database_of past) m.dbs) = blocks_more block (versions_of past) (version_of past m) in
    omega arith
  where
    followed : (o : Option Manifest) → Follows o m → IfSome o (λ (k : Manifest). k.block ≡ block)
    followed None follows = tt
    followed (Some old) follows = sym (edit_block old m follows) ∙ same
listed_are (Unreadable ∷ past) block reads made same = absurd reads.1
listed_are (BlockDeleted i at ∷ past) block reads made same = listed_are past block reads.0 made.0 same
listed_are (ManifestDeleted ∷ past) block reads made same = listed_are past block reads.0 made.0 same

-- the last manifest lists no more blocks than the versions have
pub last_within : (past : List Item) (m : Manifest) → Always Reads past → last_of past ≡ Some m → length (blocks_in m.dbs) ≤ all_blocks m.block (versions_of past)
last_within past m reads last =
    let l = last_is past m reads last in
    let own : database_blocks m.block (map (database_of past) m.dbs) ≡ length (blocks_in m.dbs) = of_version past m.block m (last_rules past m reads last) refl in
    let all : all_blocks m.block (versions_of past) ≡ all_blocks m.block l.older + database_blocks m.block (map (database_of past) m.dbs) =
    ap (all_blocks m.block) l.versions ∙ blocks_more m.block l.older (version_of past m) in
    omega arith

-- ---- no more blocks are dead

buried_few : (ids : List Id16) (es : List Dead) → length (bury 0 [] ids es) ≤ length ids + length es
buried_few [] es = omega arith
buried_few (i ∷ is) es =
    let rest : length (bury 0 [] is (with_keyed dead_id (dead_at i 0) es)) ≤ length is + length (with_keyed dead_id (dead_at i 0) es) = buried_few is (with_keyed dead_id (dead_at i 0) es) in
    let one : length (with_keyed dead_id (dead_at i 0) es) ≤ length es + 1 = length_with dead_id (dead_at i 0) es in
    omega arith

-- dead blocks that differ, each of which is one of some ids, are no more than these
pub dead_within : (es : List Dead) (ids : List Id16) → Ascends dead_id es → ((i : Id16) → is_dead es i ≡ true → has_id i ids ≡ true) → length es ≤ length ids
dead_within es ids asc within =
    let few : length es ≤ length (bury 0 [] ids []) =
    longer dead_id es (bury 0 [] ids []) asc (bury_ascends 0 [] ids [] tt)
    (λ k h. let i : Id16 = record { 0 = k } in ap is_some (bury_found 0 [] ids i []) ∙ ap (λ (b : Bool). is_some (cond b (Some (dead_at i 0)) None)) (within i h)) in
    let more : length (bury 0 [] ids []) ≤ length ids + 0 = buried_few ids [] in
    omega arith

-- the result of a plan has no more dead blocks than the versions have blocks
pub dead_few : (past : List Item) (m : Manifest) (p : EditPlan) → Sound past → last_of past ≡ Some m → dead_length m p ≤ all_blocks m.block (versions_of past)
dead_few past m p s last =
    let rules : MeetsRules m = last_rules past m s.reads last in
    let stamp : ℕ = max m.moment 0 in
    let few : dead_length m p ≤ length (all_listed past) =
    dead_within (dead_after (counted p) stamp (dbs_after (counted p) zero_id m.dbs) m.dbs m.dead) (all_listed past)
    (dead_after_ascends (counted p) stamp (dbs_after (counted p) zero_id m.dbs) m.dbs m.dead rules.dead)
    (λ i h. sym (was_in i past) ∙ was i (found_died (counted p) stamp (dbs_after (counted p) zero_id m.dbs) m.dbs m.dead i (sym (ap is_some (dead_after_found (counted p) stamp (dbs_after (counted p) zero_id m.dbs) m.dbs m.dead i)) ∙ h))) in
    let same : length (all_listed past) ≡ all_blocks m.block (versions_of past) =
    listed_are past m.block s.reads s.made (subst (λ (o : Option Manifest). IfSome o (λ (k : Manifest). k.block ≡ m.block)) (sym last) refl) in
    omega arith
  where
    was : (i : Id16) → (lists m.dbs i ≡ true) ⊎ (is_dead m.dead i ≡ true) → was_listed past i ≡ true
    was i (inl listed) = last_some (λ (k : Manifest). lists k.dbs i) past m last listed
    was i (inr dead) = dead_listed past i s.made (last_some (λ (k : Manifest). is_dead k.dead i) past m last dead)
