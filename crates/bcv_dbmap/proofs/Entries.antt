-- The databases behind a plan: each is one from before or the one that the plan makes.
use Rattle.std.proofs.Common.{◌≡◌, ◌∙◌, ◌⊎◌, inl, inr, true, List, [], ◌∷◌, Option, Some, None, option_map, refl, sym, ap, subst}
use Rattle.std.proofs.lemmas.Option.{same_Some}
use Rattle.std.specs.List.{AllByRecursion}
use Rattle.bcv_base.specs.declared.id.Id16.{Id16}
use Rattle.bcv_base.specs.declared.manifest.DbEntry.{DbEntry}
use Rattle.bcv_base.specs.HistoryLaws.{lists-first, lists-later}
use Rattle.bcv_base.specs.Ids.{has_id}
use Rattle.bcv_base.specs.Keyed.{keyed, with_made}
use Rattle.bcv_base.specs.ManifestRules.{db_name, lists, Ascends}
use Rattle.bcv_dbmap.specs.declared.plan.EditPlan.{EditPlan}
use Rattle.bcv_dbmap.specs.declared.plan.EditPlan.TheVariants as plan
use Rattle.bcv_dbmap.specs.Applied.{made_entry, kept_entries, dbs_after}
use Rattle.bcv_dbmap.specs.Past.{IsAmong}
use Rattle.bcv_dbmap.proofs.Keys.{all_with, all_without, ascends_made, ascends_without}

-- ---- each entry

all_kept : (P : DbEntry → Type 0) (p : EditPlan) (ds : List DbEntry) → AllByRecursion P ds → AllByRecursion P (kept_entries p ds)
all_kept P (plan.New e) ds all = all
all_kept P (plan.Upload from e) ds all = all
all_kept P (plan.Copy from to) ds all = all
all_kept P (plan.Remove name) ds all = all_without db_name P name ds all
all_kept P (plan.Sweep ids) ds all = all

all_made : (P : DbEntry → Type 0) (made : Option DbEntry) (ds : List DbEntry) → ((a : DbEntry) → made ≡ Some a → P a) → AllByRecursion P ds → AllByRecursion P (with_made db_name made ds)
all_made P None ds one all = all
all_made P (Some a) ds one all = all_with db_name P a ds (one a refl) all

-- what holds of each entry before and of the made one holds of each entry behind the plan
pub all_after : (P : DbEntry → Type 0) (p : EditPlan) (id : Id16) (ds : List DbEntry) → ((a : DbEntry) → made_entry p id ds ≡ Some a → P a) → AllByRecursion P ds
    → AllByRecursion P (dbs_after p id ds)
all_after P p id ds one all = all_made P (made_entry p id ds) (kept_entries p ds) one (all_kept P p ds all)

pub ascends_after : (p : EditPlan) (id : Id16) (ds : List DbEntry) → Ascends db_name ds → Ascends db_name (dbs_after p id ds)
ascends_after p id ds asc = ascends_made db_name (made_entry p id ds) (kept_entries p ds) (kept p)
  where
    kept : (p : EditPlan) → Ascends db_name (kept_entries p ds)
    kept (plan.New e) = asc
    kept (plan.Upload from e) = asc
    kept (plan.Copy from to) = asc
    kept (plan.Remove name) = ascends_without db_name name ds asc
    kept (plan.Sweep ids) = asc

-- ---- an entry among others

pub all_among : (P : DbEntry → Type 0) (ds : List DbEntry) (d : DbEntry) → AllByRecursion P ds → IsAmong d ds → P d
all_among P [] d all among = absurd among
all_among P (e ∷ es) d all (inl is) = subst P (sym is) all.0
all_among P (e ∷ es) d all (inr among) = all_among P es d all.1 among

all_more : (P Q : DbEntry → Type 0) (ds : List DbEntry) → ((d : DbEntry) → P d → Q d) → AllByRecursion P ds → AllByRecursion Q ds
all_more P Q [] more all = tt
all_more P Q (d ∷ ds) more all = (more d all.0, all_more P Q ds more all.1)

pub all_themselves : (ds : List DbEntry) → AllByRecursion (λ (d : DbEntry). IsAmong d ds) ds
all_themselves [] = tt
all_themselves (d ∷ ds) = (inl refl, all_more (λ (e : DbEntry). IsAmong e ds) (λ (e : DbEntry). IsAmong e (d ∷ ds)) ds (λ e among. inr among) (all_themselves ds))

-- an entry behind a plan is one from before or the made one
pub entry_from : (p : EditPlan) (id : Id16) (ds : List DbEntry) (d : DbEntry) → IsAmong d (dbs_after p id ds) → IsAmong d ds ⊎ (made_entry p id ds ≡ Some d)
entry_from p id ds d among =
    all_among (λ (d : DbEntry). IsAmong d ds ⊎ (made_entry p id ds ≡ Some d)) (dbs_after p id ds) d
    (all_after (λ (d : DbEntry). IsAmong d ds ⊎ (made_entry p id ds ≡ Some d)) p id ds (λ a is. inr is) (all_more (λ (d : DbEntry). IsAmong d ds) (λ (d : DbEntry). IsAmong d ds ⊎ (made_entry p id ds ≡ Some d)) ds (λ e is. inl is) (all_themselves ds)))
    among

-- the made one has the publication's id as its tag
pub made_tag : (p : EditPlan) (id : Id16) (ds : List DbEntry) (d : DbEntry) → made_entry p id ds ≡ Some d → d.tag ≡ id
made_tag (plan.New e) id ds d is = let made : DbEntry = record e { tag = id } in ap (λ (x : DbEntry). x.tag) (sym (same_Some made d is))
made_tag (plan.Upload from e) id ds d is = let made : DbEntry = record e { tag = id } in ap (λ (x : DbEntry). x.tag) (sym (same_Some made d is))
made_tag (plan.Copy from to) id ds d is = renamed (keyed db_name from ds) is
  where
    renamed : (o : Option DbEntry) → option_map (λ (x : DbEntry). record x { name = to; tag = id }) o ≡ Some d → d.tag ≡ id
    renamed None e = absurd cc
    renamed (Some x) e = let made : DbEntry = record x { name = to; tag = id } in ap (λ (y : DbEntry). y.tag) (sym (same_Some made d e))
made_tag (plan.Remove name) id ds d is = absurd cc
made_tag (plan.Sweep ids) id ds d is = absurd cc

-- what an entry among databases has, they list
pub lists_among : (ds : List DbEntry) (d : DbEntry) (i : Id16) → IsAmong d ds → has_id i d.blocks ≡ true → lists ds i ≡ true
lists_among [] d i among h = absurd among
lists_among (e ∷ es) d i (inl is) h = lists-first i e es (ap (λ (x : DbEntry). has_id i x.blocks) (sym is) ∙ h)
lists_among (e ∷ es) d i (inr among) h = lists-later i e es (lists_among es d i among h)
