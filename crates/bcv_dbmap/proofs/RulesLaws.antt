-- A first manifest meets the rules and the limits, and what is applied meets the rules.
use Rattle.std.proofs.Common.{◌≡◌, ℕ, ◌+◌, ◌-◌, ◌^◌, ◌<◌, ◌≤◌, max, Bool, true, false, cond, ◌||◌, List, [], ◌∷◌, Option, Some, None, option_map, refl, subst, arith}
use Rattle.std.proofs.lemmas.Option.{same_Some}
use Rattle.std.specs.List.{AllByRecursion}
use Rattle.bcv_base.specs.declared.id.Id16.{Id16}
use Rattle.bcv_base.specs.declared.manifest.DbEntry.{DbEntry}
use Rattle.bcv_base.specs.declared.manifest.Dead.{Dead}
use Rattle.bcv_base.specs.declared.manifest.Writer.{Writer}
use Rattle.bcv_base.specs.Ids.{has_id, IsId}
use Rattle.bcv_base.specs.Keyed.{keyed, with_keyed}
use Rattle.bcv_base.specs.ManifestRules.{writer_id, db_name, dead_id, lists, MeetsWriterRules, MeetsEntryRules, MeetsDeadRules}
use Rattle.bcv_dbmap.specs.declared.plan.EditPlan.{EditPlan}
use Rattle.bcv_dbmap.specs.declared.plan.EditPlan.TheVariants as plan
use Rattle.bcv_dbmap.specs.Applied.{made_entry, dbs_after, bury, bury_all, still_dead, swept_ids, FitsPlan}
use Rattle.bcv_dbmap.specs.Laws.{FirstMeetsRules, AppliedMeetsRules}
use Rattle.bcv_dbmap.proofs.DeadLaws.{dead_at, bury_one, dead_after_ascends}
use Rattle.bcv_dbmap.proofs.Entries.{all_after, ascends_after}
use Rattle.bcv_dbmap.proofs.Passes.{number_left}
use Rattle.bcv_dbmap.proofs.Keys.{all_with, all_found, ascends_with}

-- ---- a first manifest

pub first_meets_rules : FirstMeetsRules
first_meets_rules block retention id writer moment is_block retention_fits moment_fits is_id is_writer = (
  record {
    least = omega arith;
    number = omega arith;
    moment = moment_fits;
    block = is_block;
    retention = retention_fits;
    id = is_id;
    writers = (tt, tt);
    each_writer = (record { id = is_writer; last = is_id; least = omega arith; most = omega arith }, tt);
    dbs = tt;
    each_db = tt;
    dead = tt;
    each_dead = tt;
  },
  record { few_writers = omega arith; few_dbs = omega arith; few_dead = omega arith },
  omega arith,
)

-- ---- entries

-- an entry under another tag
tagged_fits : (block : ℕ) (e : DbEntry) (id : Id16) → MeetsEntryRules block e → IsId id → MeetsEntryRules block (record e { tag = id })
tagged_fits block e id of_e is_id = record { name = of_e.name; tag = is_id; page_size = of_e.page_size; pages = of_e.pages; blocks = of_e.blocks; few = of_e.few; ids = of_e.ids }

-- the made entry meets the rules
pub made_fits : (block : ℕ) (p : EditPlan) (id : Id16) (ds : List DbEntry) (d : DbEntry) → FitsPlan block p → IsId id → AllByRecursion (MeetsEntryRules block) ds → made_entry p id ds ≡ Some d
    → MeetsEntryRules block d
made_fits block (plan.New e) id ds d fits is_id all is = let made : DbEntry = record e { tag = id } in subst (MeetsEntryRules block) (same_Some made d is) (tagged_fits block e id fits is_id)
made_fits block (plan.Upload from e) id ds d fits is_id all is = let made : DbEntry = record e { tag = id } in subst (MeetsEntryRules block) (same_Some made d is) (tagged_fits block e id fits is_id)
made_fits block (plan.Copy from to) id ds d fits is_id all is = renamed (keyed db_name from ds) (λ x found. all_found db_name (MeetsEntryRules block) from ds x all found) is
  where
    renamed : (o : Option DbEntry) → ((x : DbEntry) → o ≡ Some x → MeetsEntryRules block x) → option_map (λ (x : DbEntry). record x { name = to; tag = id }) o ≡ Some d → MeetsEntryRules block d
    renamed None meets e = absurd cc
    renamed (Some x) meets e =
        let made : DbEntry = record x { name = to; tag = id } in
        let of_x : MeetsEntryRules block x = meets x refl in
        subst (MeetsEntryRules block) (same_Some made d e) (record { name = fits; tag = is_id; page_size = of_x.page_size; pages = of_x.pages; blocks = of_x.blocks; few = of_x.few; ids = of_x.ids })
made_fits block (plan.Remove name) id ds d fits is_id all is = absurd cc
made_fits block (plan.Sweep ids) id ds d fits is_id all is = absurd cc

-- ---- the delete list

module _ (stamp : ℕ) (now : List DbEntry) (stamp_fits : stamp < 2 ^ 64) where
  each_buried : (is : List Id16) (dead : List Dead) → AllByRecursion IsId is → AllByRecursion (MeetsDeadRules now) dead → AllByRecursion (MeetsDeadRules now) (bury stamp now is dead)
  each_buried [] dead ids all = all
  each_buried (i ∷ is) dead ids all = each_buried is (bury_one stamp now i dead) ids.1 (one (lists now i) refl)
    where
      one : (b : Bool) → lists now i ≡ b → AllByRecursion (MeetsDeadRules now) (cond b dead (with_keyed dead_id (dead_at i stamp) dead))
      one true e = all
      one false e = all_with dead_id (MeetsDeadRules now) (dead_at i stamp) dead (record { id = ids.0; unlisted = e; stamp = stamp_fits }) all

  each_all_buried : (block : ℕ) (before : List DbEntry) (dead : List Dead) → AllByRecursion (MeetsEntryRules block) before → AllByRecursion (MeetsDeadRules now) dead
      → AllByRecursion (MeetsDeadRules now) (bury_all stamp now before dead)
  each_all_buried block [] dead entries all = all
  each_all_buried block (d ∷ ds) dead entries all =
      let of_d : MeetsEntryRules block d = entries.0 in
      each_all_buried block ds (bury stamp now d.blocks dead) entries.1 (each_buried d.blocks dead of_d.ids all)

each_still : (before now : List DbEntry) (swept : List Id16) (dead : List Dead) → AllByRecursion (MeetsDeadRules before) dead → AllByRecursion (MeetsDeadRules now) (still_dead now swept dead)
each_still before now swept [] all = tt
each_still before now swept (e ∷ es) all = one (lists now e.id) (has_id e.id swept) refl (each_still before now swept es all.1)
  where
    one : (a b : Bool) → lists now e.id ≡ a → AllByRecursion (MeetsDeadRules now) (still_dead now swept es)
        → AllByRecursion (MeetsDeadRules now) (cond (a || b) (still_dead now swept es) (e ∷ still_dead now swept es))
    one true b h rest = rest
    one false true h rest = rest
    one false false h rest = let of_e : MeetsDeadRules before e = all.0 in (record { id = of_e.id; unlisted = h; stamp = of_e.stamp }, rest)

-- ---- writers

each_writer_later : (number more : ℕ) (ws : List Writer) → number ≤ more → AllByRecursion (MeetsWriterRules number) ws → AllByRecursion (MeetsWriterRules more) ws
each_writer_later number more [] h all = tt
each_writer_later number more (w ∷ ws) h all =
    let of_w : MeetsWriterRules number w = all.0 in
    (record { id = of_w.id; last = of_w.last; least = of_w.least; most = omega (arith, of_w.most) }, each_writer_later number more ws h all.1)

-- ---- what is applied

pub applied_meets_rules : AppliedMeetsRules
applied_meets_rules m p id writer moment rules fits passes moment_fits is_id is_writer = record {
  least = omega arith;
  number = let left : m.number ≡ 2 ^ 64 - 1 → ⊥ = number_left m p writer passes in omega (arith, rules.number, left);
  moment = omega (arith, rules.moment, moment_fits);
  block = rules.block;
  retention = rules.retention;
  id = is_id;
  writers = ascends_with writer_id (record { id = writer; last = id; number = m.number + 1 }) m.writers rules.writers;
  each_writer =
      all_with writer_id (MeetsWriterRules (m.number + 1)) (record { id = writer; last = id; number = m.number + 1 }) m.writers
      (record { id = is_writer; last = is_id; least = omega arith; most = omega arith })
      (each_writer_later m.number (m.number + 1) m.writers (omega arith) rules.each_writer);
  dbs = ascends_after p id m.dbs rules.dbs;
  each_db = all_after (MeetsEntryRules m.block) p id m.dbs (λ a is. made_fits m.block p id m.dbs a fits is_id rules.each_db is) rules.each_db;
  dead = dead_after_ascends p (max m.moment moment) (dbs_after p id m.dbs) m.dbs m.dead rules.dead;
  each_dead =
      each_all_buried (max m.moment moment) (dbs_after p id m.dbs) (omega (arith, rules.moment, moment_fits)) m.block m.dbs (still_dead (dbs_after p id m.dbs) (swept_ids p) m.dead) rules.each_db
      (each_still m.dbs (dbs_after p id m.dbs) (swept_ids p) m.dead rules.each_dead);
}
