-- A plan has no room over the last manifest only where the blocks of all versions are many.
use Rattle.std.proofs.Common.{◌≡◌, ◌∙◌, ℕ, ◌+◌, ◌*◌, ◌<◌, ◌≤◌, Bool, true, false, cond, ◌&&◌, List, [], ◌∷◌, ◌++◌, length, length-append, Option, Some, None, is_some, is_none, IfSome, option_map, nat_lt, nat_le, refl, sym, ap, subst, ltb-false, arith}
use Rattle.std.specs.Prelude.{◌-◌, ◌^◌, ◌==◌}
use Rattle.std.proofs.lemmas.Bool.{ltb-true}
use Rattle.std.proofs.lemmas.Option.{same_Some}
use Rattle.std.specs.List.{AllByRecursion}
use Rattle.bcv_base.specs.declared.id.Id16.{Id16}
use Rattle.bcv_base.specs.declared.manifest.DbEntry.{DbEntry}
use Rattle.bcv_base.specs.BlockCounts.{all_blocks}
use Rattle.bcv_base.specs.Image.{or_else}
use Rattle.bcv_base.specs.Keyed.{keyed, with_keyed, with_made}
use Rattle.bcv_base.specs.ManifestRules.{writer_id, db_name, blocks_needed, MeetsEntryRules, MeetsRules, MeetsLimits}
use Rattle.bcv_base.specs.Versions.{versions_of}
use Rattle.bcv_dbmap.specs.declared.fault.EditFault.{EditFault}
use Rattle.bcv_dbmap.specs.declared.fault.EditFault.TheVariants as fault
use Rattle.bcv_dbmap.specs.declared.plan.EditPlan.{EditPlan}
use Rattle.bcv_dbmap.specs.declared.plan.EditPlan.TheVariants as plan
use Rattle.bcv_dbmap.specs.Applied.{applied, dbs_after}
use Rattle.bcv_dbmap.specs.Checked.{zero_id, needed_length, needed_total, dead_length, result_length, upload_fault, plan_fault, size_fault}
use Rattle.bcv_dbmap.specs.Room.{is_want_of_room, BringsFew, FullIsMany}
use Rattle.bcv_dbmap.proofs.Bools.{not_both}
use Rattle.bcv_dbmap.proofs.Keys.{by_place, keyed_key, all_found}
use Rattle.bcv_dbmap.proofs.Limits.{few_writers_after}
use Rattle.bcv_dbmap.proofs.AllListed.{blocks_in, last_within, dead_few}
use Rattle.bcv_dbmap.proofs.Needs.{name_short, without_less}
use Rattle.bcv_dbmap.proofs.Passes.{not_then}
use Rattle.bcv_dbmap.proofs.PastLaws.{last_version}

-- ---- the bytes of entries

-- of entries that meet the rules: their names and fields, and 16 bytes a block
total_few : (block : ℕ) (ds : List DbEntry) → AllByRecursion (MeetsEntryRules block) ds → needed_total block ds ≤ 89 * length ds + 16 * length (blocks_in ds)
total_few block [] all = omega arith
total_few block (d ∷ ds) all =
    let of_d : MeetsEntryRules block d = all.0 in
    let name : length d.name ≤ 64 = name_short d.name of_d.name in
    let blocks : length d.blocks ≡ blocks_needed block d.page_size d.pages = of_d.blocks in
    let rest : needed_total block ds ≤ 89 * length ds + 16 * length (blocks_in ds) = total_few block ds all.1 in
    let both : length (d.blocks ++ blocks_in ds) ≡ length d.blocks + length (blocks_in ds) = length-append d.blocks (blocks_in ds) in
    omega arith

-- a put adds no more than its entry needs
with_more : (block : ℕ) (a : DbEntry) (ds : List DbEntry) → needed_total block (with_keyed db_name a ds) ≤ needed_length block a + needed_total block ds
with_more block a [] = omega arith
with_more block a (d ∷ ds) =
    let rest : needed_total block (with_keyed db_name a ds) ≤ needed_length block a + needed_total block ds = with_more block a ds in
    by_place db_name (λ (l : List DbEntry). needed_total block l ≤ needed_length block a + needed_total block (d ∷ ds)) a d ds (λ t. omega arith) (λ t u. omega arith) (λ t u. omega arith)

-- an entry with a short name and few blocks
put_few : (block : ℕ) (a : DbEntry) (ds : List DbEntry) → length a.name ≤ 64 → blocks_needed block a.page_size a.pages ≤ 65536
    → needed_total block (with_keyed db_name a ds) ≤ 1048665 + needed_total block ds
put_few block a ds name few =
    let more : needed_total block (with_keyed db_name a ds) ≤ needed_length block a + needed_total block ds = with_more block a ds in
    omega arith

-- behind a plan that passes the tests of the databases
after_few : (block : ℕ) (p : EditPlan) (id : Id16) (ds : List DbEntry) → BringsFew block p → AllByRecursion (MeetsEntryRules block) ds → plan_fault block ds p ≡ None
    → needed_total block (dbs_after p id ds) ≤ 1048665 + needed_total block ds
after_few block (plan.New e) id ds few all h =
    let exists = not_then (is_some (keyed db_name e.name ds)) fault.Exists _ h in
    let page = not_then (nat_lt block e.page_size) fault.PageTooLarge _ exists.1 in
    let large = not_then (nat_lt 65536 (blocks_needed block e.page_size e.pages)) fault.TooLarge _ page.1 in
    put_few block (record e { tag = id }) ds (name_short e.name few) (ltb-false 65536 (blocks_needed block e.page_size e.pages) large.0)
after_few block (plan.Upload from e) id ds few all h = found (keyed db_name e.name ds) refl h
  where
    found : (o : Option DbEntry) → keyed db_name e.name ds ≡ o → upload_fault o from ≡ None → needed_total block (with_keyed db_name (record e { tag = id }) ds) ≤ 1048665 + needed_total block ds
    found None is t = absurd cc
    found (Some d) is t =
        let of_d : MeetsEntryRules block d = all_found db_name (MeetsEntryRules block) e.name ds d all is in
        put_few block (record e { tag = id }) ds (subst (λ (k : List ℕ). length k ≤ 64) (keyed_key db_name e.name ds d is) (name_short d.name of_d.name)) few
after_few block (plan.Copy from to) id ds few all h = copied (keyed db_name from ds) (λ d is. all_found db_name (MeetsEntryRules block) from ds d all is)
  where
    copied : (o : Option DbEntry) → ((d : DbEntry) → o ≡ Some d → MeetsEntryRules block d)
        → needed_total block (with_made db_name (option_map (λ (d : DbEntry). record d { name = to; tag = id }) o) ds) ≤ 1048665 + needed_total block ds
    copied None meets = omega arith
    copied (Some d) meets =
        let of_d : MeetsEntryRules block d = meets d refl in
        put_few block (record d { name = to; tag = id }) ds (name_short to few) (subst (λ (n : ℕ). n ≤ 65536) of_d.blocks of_d.few)
after_few block (plan.Remove name) id ds few all h = let less = without_less block name ds in omega arith
after_few block (plan.Sweep ids) id ds few all h = omega arith

-- ---- faults that are no want of room

-- a test whose fault is none is passed
next_test : (b : Bool) (g : EditFault) (o : Option EditFault) (f : EditFault) → is_want_of_room g ≡ false → is_want_of_room f ≡ true → cond b (Some g) o ≡ Some f → (b ≡ false) × (o ≡ Some f)
next_test true g o f other want e = not_both (is_want_of_room f) want (ap is_want_of_room (sym (same_Some g f e)) ∙ other)
next_test false g o f other want e = (refl, e)

-- a fault, where there is one, is none
abbrev IsOther : Option EditFault → Type 0
IsOther o = IfSome o (λ (g : EditFault). is_want_of_room g ≡ false)

one_other : (b : Bool) (g : EditFault) (o : Option EditFault) → is_want_of_room g ≡ false → IsOther o → IsOther (cond b (Some g) o)
one_other true g o other rest = other
one_other false g o other rest = rest

plan_other : (block : ℕ) (ds : List DbEntry) (p : EditPlan) → IsOther (plan_fault block ds p)
plan_other block ds (plan.New e) =
    one_other (is_some (keyed db_name e.name ds)) fault.Exists _ refl
    (one_other (nat_lt block e.page_size) fault.PageTooLarge _ refl
    (one_other (nat_lt 65536 (blocks_needed block e.page_size e.pages)) fault.TooLarge _ refl
    (one_other (nat_le 1024 (length ds)) fault.TooManyDatabases None refl tt)))
plan_other block ds (plan.Upload from e) = upload (keyed db_name e.name ds)
  where
    tagged : (b : Bool) (g : EditFault) → is_want_of_room g ≡ false → IsOther (cond b None (Some g))
    tagged true g other = tt
    tagged false g other = other

    upload : (o : Option DbEntry) → IsOther (upload_fault o from)
    upload None = refl
    upload (Some d) = tagged _ (fault.Conflict from d.tag) refl
plan_other block ds (plan.Copy from to) =
    one_other (is_none (keyed db_name from ds)) fault.NoDatabase _ refl
    (one_other (is_some (keyed db_name to ds)) fault.Exists _ refl
    (one_other (nat_le 1024 (length ds)) fault.TooManyDatabases None refl tt))
plan_other block ds (plan.Remove name) = one_other (is_none (keyed db_name name ds)) fault.NoDatabase None refl tt
plan_other block ds (plan.Sweep ids) = tt

later_fault : (o t : Option EditFault) (f : EditFault) → IsOther o → is_want_of_room f ≡ true → or_else o t ≡ Some f → (o ≡ None) × (t ≡ Some f)
later_fault None t f other want e = (refl, e)
later_fault (Some g) t f other want e = not_both (is_want_of_room f) want (ap is_want_of_room (sym (same_Some g f e)) ∙ other)

-- ---- the size

-- a manifest that is too long, with few writers and databases, has many blocks
long_is_many : (writers needed before dead dbs blocks all : ℕ) → writers ≤ 4096 → needed ≤ 1048665 + before → before ≤ 89 * dbs + 16 * blocks → dbs ≤ 1024 → blocks ≤ all → dead ≤ all
    → 67108864 < 64 + 40 * writers + needed + 24 * dead → 1048576 < all
long_is_many writers needed before dead dbs blocks all w n b d l e long = omega arith

pub full_is_many : FullIsMany
full_is_many past m p writer f s last few fails want =
    let rules : MeetsRules m = (last_version past m s.reads last).0 in
    let limits : MeetsLimits m = (last_version past m s.reads last).1 in
    let number = next_test (m.number == 2 ^ 64 - 1) fault.VersionsFull (or_else (plan_fault m.block m.dbs p) (size_fault m p writer)) f refl want fails in
    let passed = later_fault (plan_fault m.block m.dbs p) (size_fault m p writer) f (plan_other m.block m.dbs p) want number.1 in
    let writers = next_test (is_none (keyed writer_id writer.0 m.writers) && nat_le 4096 (length m.writers)) fault.WritersFull
    (cond (nat_lt 1048576 (dead_length m p)) (Some fault.DeleteListFull) (cond (nat_lt 67108864 (result_length m p writer)) (Some fault.ManifestTooLong) None)) f refl want passed.1 in
    let dead : dead_length m p ≤ all_blocks m.block (versions_of past) = dead_few past m p s last in
    sizes dead (few_writers_after writer zero_id (m.number + 1) m.writers rules.writers limits.few_writers writers.0) (after_few m.block p zero_id m.dbs few rules.each_db passed.0) (total_few m.block m.dbs rules.each_db) limits.few_dbs (last_within past m s.reads last)
    (nat_lt 1048576 (dead_length m p)) refl (nat_lt 67108864 (result_length m p writer)) refl writers.1
  where
    sizes : dead_length m p ≤ all_blocks m.block (versions_of past)
        → length (applied m p zero_id writer 0).writers ≤ 4096
        → needed_total m.block (dbs_after p zero_id m.dbs) ≤ 1048665 + needed_total m.block m.dbs
        → needed_total m.block m.dbs ≤ 89 * length m.dbs + 16 * length (blocks_in m.dbs)
        → length m.dbs ≤ 1024
        → length (blocks_in m.dbs) ≤ all_blocks m.block (versions_of past)
        → (a : Bool) → nat_lt 1048576 (dead_length m p) ≡ a
        → (b : Bool) → nat_lt 67108864 (result_length m p writer) ≡ b
        → cond a (Some fault.DeleteListFull) (cond b (Some fault.ManifestTooLong) None) ≡ Some f
        → 1048576 < all_blocks m.block (versions_of past)
    sizes dead lines needed before dbs blocks true is_a b is_b e = let more : 1048576 < dead_length m p = ltb-true 1048576 (dead_length m p) is_a in omega arith
    sizes dead lines needed before dbs blocks false is_a true is_b e =
        long_is_many (length (applied m p zero_id writer 0).writers) (needed_total m.block (dbs_after p zero_id m.dbs)) (needed_total m.block m.dbs) (dead_length m p) (length m.dbs) (length (blocks_in m.dbs)) (all_blocks m.block (versions_of past))
        lines needed before dbs blocks dead (ltb-true 67108864 (result_length m p writer) is_b)
    sizes dead lines needed before dbs blocks false is_a false is_b e = absurd cc
