-- A plan that passes with zeros passes with its blocks filled in, and what is applied then keeps within the limits.
use Rattle.std.proofs.Common.{◌≡◌, ◌∙◌, ℕ, ◌+◌, ◌*◌, ◌<◌, ◌≤◌, max, Bool, true, false, cond, ◌&&◌, List, [], ◌∷◌, length, Option, Some, None, is_some, is_none, option_map, nat_lt, nat_le, refl, sym, ap, ap₂, subst, ltb-false, leb-false, le-ltb, le_trans, arith}
use Rattle.std.proofs.lemmas.Option.{same_Some}
use Rattle.std.specs.List.{AllByRecursion}
use Rattle.bcv_base.specs.declared.id.Id16.{Id16}
use Rattle.bcv_base.specs.declared.manifest.DbEntry.{DbEntry}
use Rattle.bcv_base.specs.declared.manifest.Dead.{Dead}
use Rattle.bcv_base.specs.declared.manifest.Manifest.{Manifest}
use Rattle.bcv_base.specs.declared.manifest.Writer.{Writer}
use Rattle.bcv_base.specs.HistoryLaws.{id_eq-is}
use Rattle.bcv_base.specs.Ids.{id_eq, has_id}
use Rattle.bcv_base.specs.Keyed.{keyed, with_keyed, with_made}
use Rattle.bcv_base.specs.ManifestRules.{writer_id, db_name, dead_id, lists, blocks_needed, total_length, Ascends, MeetsEntryRules, MeetsRules}
use Rattle.bcv_dbmap.specs.declared.fault.EditFault.TheVariants as fault
use Rattle.bcv_dbmap.specs.declared.plan.EditPlan.{EditPlan}
use Rattle.bcv_dbmap.specs.declared.plan.EditPlan.TheVariants as plan
use Rattle.bcv_dbmap.specs.Applied.{made_entry, dbs_after, swept_ids, dead_after, writers_after, applied, FitsPlan}
use Rattle.bcv_dbmap.specs.Checked.{new_fault, upload_fault, plan_fault, zero_id, without_zeros, counted, dead_length, needed_total, result_length, size_fault}
use Rattle.bcv_dbmap.specs.Filled.{FillsEntry, Fills}
use Rattle.bcv_dbmap.specs.Laws.{AppliedMeetsLimits}
use Rattle.bcv_dbmap.proofs.Alike.{length_alike, length_without, lists_within, lists_alike, needed_alike, longer, has_kept, has_dropped}
use Rattle.bcv_dbmap.proofs.Bools.{not_both}
use Rattle.bcv_dbmap.proofs.DeadLaws.{dead_at, dead_found, dead_after_found, dead_after_ascends}
use Rattle.bcv_dbmap.proofs.Entries.{all_after}
use Rattle.bcv_dbmap.proofs.Keys.{by_test, all_found, length_new, length_over}
use Rattle.bcv_dbmap.proofs.Passes.{not_then, then_not, Passes, passes_parts, parts_pass}

-- ---- what was filled in

-- without its zeros it still has what was asked for
entry_counted : (asked entry : DbEntry) → FillsEntry asked entry → FillsEntry asked (without_zeros entry)
entry_counted asked entry f = record {
  name = f.name;
  page_size = f.page_size;
  pages = f.pages;
  blocks = λ i h. by_test (id_eq i zero_id)
      (λ e. not_both (has_id i (without_zeros asked).blocks) h (ap (λ (j : Id16). has_id j (without_zeros asked).blocks) (id_eq-is i zero_id e) ∙ has_dropped zero_id asked.blocks))
      (λ e. has_kept zero_id i entry.blocks e ∙ f.blocks i h);
}

plan_counted : (asked p : EditPlan) → Fills asked p → Fills asked (counted p)
plan_counted (plan.New asked) p f = (without_zeros f.0, ap counted f.1, entry_counted asked f.0 f.2)
plan_counted (plan.Upload from asked) p f = (without_zeros f.0, ap counted f.1, entry_counted asked f.0 f.2)
plan_counted (plan.Copy from to) p f = ap counted f
plan_counted (plan.Remove name) p f = ap counted f
plan_counted (plan.Sweep ids) p f = ap counted f

-- ---- the delete list is no longer

entry_lists : (asked e : DbEntry) (id other : Id16) (i : Id16) (ds : List DbEntry) → FillsEntry asked e
    → lists (with_keyed db_name (record (without_zeros asked) { tag = other }) ds) i ≡ true → lists (with_keyed db_name (record e { tag = id }) ds) i ≡ true
entry_lists asked e id other i ds f = lists_within (record (without_zeros asked) { tag = other }) (record e { tag = id }) i ds (sym f.name) (f.blocks i)

entry_needed : (block : ℕ) (asked e : DbEntry) (id other : Id16) (ds : List DbEntry) → FillsEntry asked e
    → needed_total block (with_keyed db_name (record e { tag = id }) ds) ≡ needed_total block (with_keyed db_name (record asked { tag = other }) ds)
entry_needed block asked e id other ds f =
    needed_alike block (record e { tag = id }) (record asked { tag = other }) ds f.name
    (ap (λ (k : List ℕ). 25 + length k + 16 * blocks_needed block e.page_size e.pages) f.name ∙ ap₂ (λ (s n : ℕ). 25 + length asked.name + 16 * blocks_needed block s n) f.page_size f.pages)

-- a block that is listed without what was filled in is listed with it
fills_lists : (asked p : EditPlan) (id other : Id16) (i : Id16) (ds : List DbEntry) → Fills asked p → lists (dbs_after (counted asked) other ds) i ≡ true → lists (dbs_after p id ds) i ≡ true
fills_lists (plan.New asked) p id other i ds f h = ap (λ (q : EditPlan). lists (dbs_after q id ds) i) f.1 ∙ entry_lists asked f.0 id other i ds f.2 h
fills_lists (plan.Upload from asked) p id other i ds f h = ap (λ (q : EditPlan). lists (dbs_after q id ds) i) f.1 ∙ entry_lists asked f.0 id other i ds f.2 h
fills_lists (plan.Copy from to) p id other i ds f h = ap (λ (q : EditPlan). lists (dbs_after q id ds) i) f ∙ retagged (keyed db_name from ds) ∙ h
  where
    retagged : (o : Option DbEntry)
        → lists (with_made db_name (option_map (λ (d : DbEntry). record d { name = to; tag = id }) o) ds) i ≡ lists (with_made db_name (option_map (λ (d : DbEntry). record d { name = to; tag = other }) o) ds) i
    retagged None = refl
    retagged (Some d) = lists_alike (record d { name = to; tag = id }) (record d { name = to; tag = other }) i ds refl refl
fills_lists (plan.Remove name) p id other i ds f h = ap (λ (q : EditPlan). lists (dbs_after q id ds) i) f ∙ h
fills_lists (plan.Sweep ids) p id other i ds f h = ap (λ (q : EditPlan). lists (dbs_after q id ds) i) f ∙ h

fills_swept : (asked p : EditPlan) → Fills asked p → swept_ids p ≡ swept_ids (counted asked)
fills_swept (plan.New asked) p f = ap swept_ids f.1
fills_swept (plan.Upload from asked) p f = ap swept_ids f.1
fills_swept (plan.Copy from to) p f = ap swept_ids f
fills_swept (plan.Remove name) p f = ap swept_ids f
fills_swept (plan.Sweep ids) p f = ap swept_ids f

-- where more is listed and the same is swept, less is dead
found_within : (p q : EditPlan) (s t : ℕ) (now more before : List DbEntry) (dead : List Dead) (i : Id16) → swept_ids p ≡ swept_ids q → (lists now i ≡ true → lists more i ≡ true)
    → is_some (dead_found p s more before dead i) ≡ true → is_some (dead_found q t now before dead i) ≡ true
found_within p q s t now more before dead i swept within h =
    less (lists more i) (lists now i) (lists before i) (cond (has_id i (swept_ids q)) None (keyed dead_id i.0 dead)) within
    (sym (ap (λ (ids : List Id16). is_some (cond (lists more i) None (cond (lists before i) (Some (dead_at i s)) (cond (has_id i ids) None (keyed dead_id i.0 dead))))) swept) ∙ h)
  where
    less : (a b c : Bool) (o : Option Dead) → (b ≡ true → a ≡ true) → is_some (cond a None (cond c (Some (dead_at i s)) o)) ≡ true → is_some (cond b None (cond c (Some (dead_at i t)) o)) ≡ true
    less true b c o w h = absurd cc
    less false true c o w h = not_both true refl (sym (w refl))
    less false false true o w h = refl
    less false false false o w h = h

-- the delete list of what is applied is no longer than that of what was asked for
fills_dead : (m : Manifest) (asked p : EditPlan) (id writer : Id16) (moment : ℕ) → MeetsRules m → Fills asked p → length (applied m p id writer moment).dead ≤ dead_length m asked
fills_dead m asked p id writer moment rules f =
    longer dead_id (dead_after p (max m.moment moment) (dbs_after p id m.dbs) m.dbs m.dead) (dead_after (counted asked) (max m.moment 0) (dbs_after (counted asked) zero_id m.dbs) m.dbs m.dead)
    (dead_after_ascends p (max m.moment moment) (dbs_after p id m.dbs) m.dbs m.dead rules.dead)
    (dead_after_ascends (counted asked) (max m.moment 0) (dbs_after (counted asked) zero_id m.dbs) m.dbs m.dead rules.dead)
    (λ k h.
    let i : Id16 = record { 0 = k } in
    ap is_some (dead_after_found (counted asked) (max m.moment 0) (dbs_after (counted asked) zero_id m.dbs) m.dbs m.dead i)
    ∙ found_within p (counted asked) (max m.moment moment) (max m.moment 0) (dbs_after (counted asked) zero_id m.dbs) (dbs_after p id m.dbs) m.dbs m.dead i (fills_swept asked p f) (fills_lists asked p id zero_id i m.dbs f)
    (sym (ap is_some (dead_after_found p (max m.moment moment) (dbs_after p id m.dbs) m.dbs m.dead i)) ∙ h))

-- ---- entries are as many and as long

fills_needed : (block : ℕ) (asked p : EditPlan) (id other : Id16) (ds : List DbEntry) → Fills asked p → needed_total block (dbs_after p id ds) ≡ needed_total block (dbs_after asked other ds)
fills_needed block (plan.New asked) p id other ds f = ap (λ (q : EditPlan). needed_total block (dbs_after q id ds)) f.1 ∙ entry_needed block asked f.0 id other ds f.2
fills_needed block (plan.Upload from asked) p id other ds f = ap (λ (q : EditPlan). needed_total block (dbs_after q id ds)) f.1 ∙ entry_needed block asked f.0 id other ds f.2
fills_needed block (plan.Copy from to) p id other ds f = ap (λ (q : EditPlan). needed_total block (dbs_after q id ds)) f ∙ retagged (keyed db_name from ds)
  where
    retagged : (o : Option DbEntry)
        → needed_total block (with_made db_name (option_map (λ (d : DbEntry). record d { name = to; tag = id }) o) ds) ≡ needed_total block (with_made db_name (option_map (λ (d : DbEntry). record d { name = to; tag = other }) o) ds)
    retagged None = refl
    retagged (Some d) = needed_alike block (record d { name = to; tag = id }) (record d { name = to; tag = other }) ds refl refl
fills_needed block (plan.Remove name) p id other ds f = ap (λ (q : EditPlan). needed_total block (dbs_after q id ds)) f
fills_needed block (plan.Sweep ids) p id other ds f = ap (λ (q : EditPlan). needed_total block (dbs_after q id ds)) f

-- ---- the plan passes

fills_fault : (block : ℕ) (ds : List DbEntry) (asked p : EditPlan) → Fills asked p → plan_fault block ds p ≡ plan_fault block ds asked
fills_fault block ds (plan.New asked) p f =
    let of_e : FillsEntry asked f.0 = f.2 in
    ap (plan_fault block ds) f.1
    ∙ ap (λ (k : List ℕ). new_fault block ds (record f.0 { name = k })) of_e.name
    ∙ ap₂ (λ (s n : ℕ). new_fault block ds (record asked { page_size = s; pages = n })) of_e.page_size of_e.pages
fills_fault block ds (plan.Upload from asked) p f = let of_e : FillsEntry asked f.0 = f.2 in ap (plan_fault block ds) f.1 ∙ ap (λ (k : List ℕ). upload_fault (keyed db_name k ds) from) of_e.name
fills_fault block ds (plan.Copy from to) p f = ap (plan_fault block ds) f
fills_fault block ds (plan.Remove name) p f = ap (plan_fault block ds) f
fills_fault block ds (plan.Sweep ids) p f = ap (plan_fault block ds) f

-- the sizes pass
record Sizes (m : Manifest) (p : EditPlan) (writer : Id16) : Type 0 where
  writers : (is_none (keyed writer_id writer.0 m.writers) && nat_le 4096 (length m.writers)) ≡ false
  dead : dead_length m p ≤ 1048576
  short : result_length m p writer ≤ 67108864

sizes_of : (m : Manifest) (p : EditPlan) (writer : Id16) → size_fault m p writer ≡ None → Sizes m p writer
sizes_of m p writer e =
    let writers = not_then (is_none (keyed writer_id writer.0 m.writers) && nat_le 4096 (length m.writers)) fault.WritersFull
    (cond (nat_lt 1048576 (dead_length m p)) (Some fault.DeleteListFull) (cond (nat_lt 67108864 (result_length m p writer)) (Some fault.ManifestTooLong) None)) e in
    let dead = not_then (nat_lt 1048576 (dead_length m p)) fault.DeleteListFull (cond (nat_lt 67108864 (result_length m p writer)) (Some fault.ManifestTooLong) None) writers.1 in
    let short = not_then (nat_lt 67108864 (result_length m p writer)) fault.ManifestTooLong None dead.1 in
    record { writers = writers.0; dead = ltb-false 1048576 (dead_length m p) dead.0; short = ltb-false 67108864 (result_length m p writer) short.0 }

sizes_pass : (m : Manifest) (p : EditPlan) (writer : Id16) → Sizes m p writer → size_fault m p writer ≡ None
sizes_pass m p writer s =
    then_not (is_none (keyed writer_id writer.0 m.writers) && nat_le 4096 (length m.writers)) fault.WritersFull
    (cond (nat_lt 1048576 (dead_length m p)) (Some fault.DeleteListFull) (cond (nat_lt 67108864 (result_length m p writer)) (Some fault.ManifestTooLong) None)) s.writers
    (then_not (nat_lt 1048576 (dead_length m p)) fault.DeleteListFull (cond (nat_lt 67108864 (result_length m p writer)) (Some fault.ManifestTooLong) None) (le-ltb 1048576 (dead_length m p) s.dead)
    (then_not (nat_lt 67108864 (result_length m p writer)) fault.ManifestTooLong None (le-ltb 67108864 (result_length m p writer) s.short) refl))

no_longer : (most writers entries needed dead buried : ℕ) → entries ≡ needed → dead ≤ buried → 64 + 40 * writers + needed + 24 * buried ≤ most → 64 + 40 * writers + entries + 24 * dead ≤ most
no_longer most writers entries needed dead buried e d h = omega arith

fills_sizes : (m : Manifest) (asked p : EditPlan) (writer : Id16) → MeetsRules m → Fills asked p → Sizes m asked writer → Sizes m p writer
fills_sizes m asked p writer rules f s =
    let dead : dead_length m p ≤ dead_length m asked = fills_dead m asked (counted p) zero_id zero_id 0 rules (plan_counted asked p f) in
    record {
      writers = s.writers;
      dead = le_trans dead s.dead;
      short =
          no_longer 67108864 (length (applied m p zero_id writer 0).writers) (needed_total m.block (applied m p zero_id writer 0).dbs) (needed_total m.block (applied m asked zero_id writer 0).dbs) (dead_length m p) (dead_length m asked)
          (fills_needed m.block asked p zero_id zero_id m.dbs f) dead s.short;
    }

-- ---- what is applied keeps within the limits

pub few_writers_after : (writer id : Id16) (number : ℕ) (ws : List Writer) → Ascends writer_id ws → length ws ≤ 4096 → (is_none (keyed writer_id writer.0 ws) && nat_le 4096 (length ws)) ≡ false
    → length (writers_after writer id number ws) ≤ 4096
few_writers_after writer id number ws asc few h = found (keyed writer_id writer.0 ws) refl h
  where
    found : (o : Option Writer) → keyed writer_id writer.0 ws ≡ o → (is_none o && nat_le 4096 (length ws)) ≡ false → length (writers_after writer id number ws) ≤ 4096
    found None e t =
        let more : length (writers_after writer id number ws) ≡ length ws + 1 = length_new writer_id (record { id = writer; last = id; number = number }) ws e in
        let small : length ws < 4096 = leb-false 4096 (length ws) t in
        omega arith
    found (Some w) e t =
        let same : length (writers_after writer id number ws) ≡ length ws = length_over writer_id (record { id = writer; last = id; number = number }) w ws asc e in
        omega arith

is_none_of : {A : Type 0} (o : Option A) → is_some o ≡ false → o ≡ None
is_none_of None h = refl
is_none_of (Some a) h = absurd cc

-- one more database, where fewer were there
one_more : (d : DbEntry) (ds : List DbEntry) → is_some (keyed db_name d.name ds) ≡ false → nat_le 1024 (length ds) ≡ false → length (with_keyed db_name d ds) ≤ 1024
one_more d ds new few =
    let more : length (with_keyed db_name d ds) ≡ length ds + 1 = length_new db_name d ds (is_none_of (keyed db_name d.name ds) new) in
    let small : length ds < 1024 = leb-false 1024 (length ds) few in
    omega arith

few_dbs_after : (block : ℕ) (p : EditPlan) (id : Id16) (ds : List DbEntry) → Ascends db_name ds → length ds ≤ 1024 → plan_fault block ds p ≡ None → length (dbs_after p id ds) ≤ 1024
few_dbs_after block (plan.New e) id ds asc few h =
    let exists = not_then (is_some (keyed db_name e.name ds)) fault.Exists _ h in
    let page = not_then (nat_lt block e.page_size) fault.PageTooLarge _ exists.1 in
    let large = not_then (nat_lt 65536 (blocks_needed block e.page_size e.pages)) fault.TooLarge _ page.1 in
    let many = not_then (nat_le 1024 (length ds)) fault.TooManyDatabases None large.1 in
    one_more (record e { tag = id }) ds exists.0 many.0
few_dbs_after block (plan.Upload from e) id ds asc few h = found (keyed db_name e.name ds) refl h
  where
    found : (o : Option DbEntry) → keyed db_name e.name ds ≡ o → upload_fault o from ≡ None → length (with_keyed db_name (record e { tag = id }) ds) ≤ 1024
    found None is t = absurd cc
    found (Some d) is t =
        let same : length (with_keyed db_name (record e { tag = id }) ds) ≡ length ds = length_over db_name (record e { tag = id }) d ds asc is in
        omega arith
few_dbs_after block (plan.Copy from to) id ds asc few h =
    let there = not_then (is_none (keyed db_name from ds)) fault.NoDatabase _ h in
    let exists = not_then (is_some (keyed db_name to ds)) fault.Exists _ there.1 in
    let many = not_then (nat_le 1024 (length ds)) fault.TooManyDatabases None exists.1 in
    copied (keyed db_name from ds) exists.0 many.0
  where
    copied : (o : Option DbEntry) → is_some (keyed db_name to ds) ≡ false → nat_le 1024 (length ds) ≡ false → length (with_made db_name (option_map (λ (d : DbEntry). record d { name = to; tag = id }) o) ds) ≤ 1024
    copied None new room = few
    copied (Some d) new room = one_more (record d { name = to; tag = id }) ds new room
few_dbs_after block (plan.Remove name) id ds asc few h = le_trans (length_without db_name name ds) few
few_dbs_after block (plan.Sweep ids) id ds asc few h = few

-- an entry has as many blocks as its pages need
abbrev pub HasNeeded : ℕ → DbEntry → Type 0
HasNeeded block d = length d.blocks ≡ blocks_needed block d.page_size d.pages

pub total_needed : (block : ℕ) (ds : List DbEntry) → AllByRecursion (HasNeeded block) ds → total_length ds ≡ needed_total block ds
total_needed block [] all = refl
total_needed block (d ∷ ds) all = ap₂ (λ (n k : ℕ). 25 + length d.name + 16 * n + k) all.0 (total_needed block ds all.1)

pub each_needed : (block : ℕ) (ds : List DbEntry) → AllByRecursion (MeetsEntryRules block) ds → AllByRecursion (HasNeeded block) ds
each_needed block [] all = tt
each_needed block (d ∷ ds) all = let of_d : MeetsEntryRules block d = all.0 in (of_d.blocks, each_needed block ds all.1)

made_needed : (block : ℕ) (p : EditPlan) (id : Id16) (ds : List DbEntry) (d : DbEntry) → FitsPlan block p → AllByRecursion (HasNeeded block) ds → made_entry p id ds ≡ Some d → HasNeeded block d
made_needed block (plan.New e) id ds d fits all is = let made : DbEntry = record e { tag = id } in let of_e : MeetsEntryRules block e = fits in subst (HasNeeded block) (same_Some made d is) of_e.blocks
made_needed block (plan.Upload from e) id ds d fits all is = let made : DbEntry = record e { tag = id } in let of_e : MeetsEntryRules block e = fits in subst (HasNeeded block) (same_Some made d is) of_e.blocks
made_needed block (plan.Copy from to) id ds d fits all is = renamed (keyed db_name from ds) (λ x found. all_found db_name (HasNeeded block) from ds x all found) is
  where
    renamed : (o : Option DbEntry) → ((x : DbEntry) → o ≡ Some x → HasNeeded block x) → option_map (λ (x : DbEntry). record x { name = to; tag = id }) o ≡ Some d → HasNeeded block d
    renamed None meets e = absurd cc
    renamed (Some x) meets e = let made : DbEntry = record x { name = to; tag = id } in subst (HasNeeded block) (same_Some made d e) (meets x refl)
made_needed block (plan.Remove name) id ds d fits all is = absurd cc
made_needed block (plan.Sweep ids) id ds d fits all is = absurd cc

written_short : (most a b entries total needed dead buried : ℕ) → a ≡ b → entries ≡ total → total ≡ needed → dead ≤ buried → 64 + 40 * b + needed + 24 * buried ≤ most → 64 + 40 * a + entries + 24 * dead ≤ most
written_short most a b entries total needed dead buried w e t d h = omega arith

pub applied_meets_limits : AppliedMeetsLimits
applied_meets_limits m asked p id writer moment rules limits fits passes f =
    let r : Passes m asked writer = passes_parts m asked writer passes in
    let s : Sizes m asked writer = sizes_of m asked writer r.size in
    let plan_passes : plan_fault m.block m.dbs p ≡ None = fills_fault m.block m.dbs asked p f ∙ r.plan in
    let dead : length (applied m p id writer moment).dead ≤ dead_length m asked = fills_dead m asked p id writer moment rules f in (
      parts_pass m p writer (record { number = r.number; plan = plan_passes; size = sizes_pass m p writer (fills_sizes m asked p writer rules f s) }),
      record {
        few_writers = few_writers_after writer id (m.number + 1) m.writers rules.writers limits.few_writers s.writers;
        few_dbs = few_dbs_after m.block p id m.dbs rules.dbs limits.few_dbs plan_passes;
        few_dead = le_trans dead s.dead;
      },
      written_short 67108864 (length (applied m p id writer moment).writers) (length (applied m asked zero_id writer 0).writers) (total_length (applied m p id writer moment).dbs) (needed_total m.block (applied m p id writer moment).dbs) (needed_total m.block (applied m asked zero_id writer 0).dbs) (length (applied m p id writer moment).dead) (dead_length m asked)
          (length_alike writer_id (record { id = writer; last = id; number = m.number + 1 }) (record { id = writer; last = zero_id; number = m.number + 1 }) m.writers refl)
          (total_needed m.block (dbs_after p id m.dbs) (all_after (HasNeeded m.block) p id m.dbs (λ a is. made_needed m.block p id m.dbs a fits (each_needed m.block m.dbs rules.each_db) is) (each_needed m.block m.dbs rules.each_db)))
          (fills_needed m.block asked p id zero_id m.dbs f)
          dead
          s.short,
    )
