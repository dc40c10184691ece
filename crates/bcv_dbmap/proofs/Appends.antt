-- What a manifest that is put appends to the versions: the plan's edit, or a first version; and versions stay.
use Rattle.std.proofs.Common.{◌≡◌, ◌∙◌, ℕ, max, List, [], ◌∷◌, ◌++◌, map, append_assoc, append-nil, Option, Some, None, option_map, bytes_eq, refl, sym, ap, ap₂}
use Rattle.bcv_base.specs.declared.id.Id16.{Id16}
use Rattle.bcv_base.specs.declared.log.Entry.{Entry}
use Rattle.bcv_base.specs.declared.manifest.DbEntry.{DbEntry}
use Rattle.bcv_base.specs.Edits.{made_database, kept_databases, created}
use Rattle.bcv_base.specs.History.{Item, BlockPut, Published, Unreadable, BlockDeleted, ManifestDeleted, item_of, history_after, history_of}
use Rattle.bcv_base.specs.HistoryLaws.{last_is, no_version, history_after-append}
use Rattle.bcv_base.specs.Joined.{database_of}
use Rattle.bcv_base.specs.Keyed.{keyed, with_keyed, without_keyed, with_made}
use Rattle.bcv_base.specs.ManifestRules.{db_name}
use Rattle.bcv_base.specs.Version.{Database, Version, the_name}
use Rattle.bcv_base.specs.Versions.{version_of, versions_of}
use Rattle.bcv_dbmap.specs.declared.plan.EditPlan.{EditPlan}
use Rattle.bcv_dbmap.specs.declared.plan.EditPlan.TheVariants as plan
use Rattle.bcv_dbmap.specs.Applied.{made_entry, kept_entries, dbs_after, edit_of}
use Rattle.bcv_dbmap.specs.Laws.{AppliedAppendsEdit, FirstCreates, VersionsStay}
use Rattle.bcv_dbmap.proofs.Keys.{by_test, by_place, by_removal, with_over, with_front, with_later, without_here, without_there, keyed_here, keyed_there}

-- ---- the databases of a version, and the entries of its manifest

module _ (past : List Item) where
  map_with : (a : DbEntry) (ds : List DbEntry) → map (database_of past) (with_keyed db_name a ds) ≡ with_keyed the_name (database_of past a) (map (database_of past) ds)
  map_with a [] = refl
  map_with a (d ∷ ds) =
      by_place db_name (λ (l : List DbEntry). map (database_of past) l ≡ with_keyed the_name (database_of past a) (map (database_of past) (d ∷ ds))) a d ds
      (λ e. sym (with_over the_name (database_of past a) (database_of past d) (map (database_of past) ds) e))
      (λ e f. sym (with_front the_name (database_of past a) (database_of past d) (map (database_of past) ds) e f))
      (λ e f.
      ap (λ (l : List Database). database_of past d ∷ l) (map_with a ds)
      ∙ sym (with_later the_name (database_of past a) (database_of past d) (map (database_of past) ds) e f))

  map_without : (k : List ℕ) (ds : List DbEntry) → map (database_of past) (without_keyed db_name k ds) ≡ without_keyed the_name k (map (database_of past) ds)
  map_without k [] = refl
  map_without k (d ∷ ds) =
      by_removal db_name (λ (l : List DbEntry). map (database_of past) l ≡ without_keyed the_name k (map (database_of past) (d ∷ ds))) k d ds
      (λ e. map_without k ds ∙ sym (without_here the_name k (database_of past d) (map (database_of past) ds) e))
      (λ e.
      ap (λ (l : List Database). database_of past d ∷ l) (map_without k ds)
      ∙ sym (without_there the_name k (database_of past d) (map (database_of past) ds) e))

  map_keyed : (k : List ℕ) (ds : List DbEntry) → keyed the_name k (map (database_of past) ds) ≡ option_map (database_of past) (keyed db_name k ds)
  map_keyed k [] = refl
  map_keyed k (d ∷ ds) =
      by_test (bytes_eq (db_name d) k)
      (λ e. keyed_here the_name k (database_of past d) (map (database_of past) ds) e ∙ sym (ap (option_map (database_of past)) (keyed_here db_name k d ds e)))
      (λ e.
      keyed_there the_name k (database_of past d) (map (database_of past) ds) e
      ∙ map_keyed k ds
      ∙ sym (ap (option_map (database_of past)) (keyed_there db_name k d ds e)))

  map_made : (made : Option DbEntry) (ds : List DbEntry) → map (database_of past) (with_made db_name made ds) ≡ with_made the_name (option_map (database_of past) made) (map (database_of past) ds)
  map_made None ds = refl
  map_made (Some a) ds = map_with a ds

  -- the database that the plan's edit makes is that of the entry which the plan makes, and the same of those that stay
  made_is : (p : EditPlan) (id : Id16) (ds : List DbEntry) → made_database (edit_of past p) id (map (database_of past) ds) ≡ option_map (database_of past) (made_entry p id ds)
  made_is (plan.New e) id ds = refl
  made_is (plan.Upload from e) id ds = refl
  made_is (plan.Copy from to) id ds = ap (option_map (λ (d : Database). record d { name = to; tag = id })) (map_keyed from ds) ∙ renamed (keyed db_name from ds)
    where
      renamed : (o : Option DbEntry) → option_map (λ (d : Database). record d { name = to; tag = id }) (option_map (database_of past) o) ≡ option_map (database_of past) (option_map (λ (d : DbEntry). record d { name = to; tag = id }) o)
      renamed None = refl
      renamed (Some d) = refl
  made_is (plan.Remove name) id ds = refl
  made_is (plan.Sweep ids) id ds = refl

  kept_is : (p : EditPlan) (ds : List DbEntry) → kept_databases (edit_of past p) (map (database_of past) ds) ≡ map (database_of past) (kept_entries p ds)
  kept_is (plan.New e) ds = refl
  kept_is (plan.Upload from e) ds = refl
  kept_is (plan.Copy from to) ds = refl
  kept_is (plan.Remove name) ds = sym (map_without name ds)
  kept_is (plan.Sweep ids) ds = refl

  -- the databases behind a plan are those that its edit makes
  dbs_are : (p : EditPlan) (id : Id16) (ds : List DbEntry)
      → map (database_of past) (dbs_after p id ds) ≡ with_made the_name (made_database (edit_of past p) id (map (database_of past) ds)) (kept_databases (edit_of past p) (map (database_of past) ds))
  dbs_are p id ds =
      map_made (made_entry p id ds) (kept_entries p ds)
      ∙ ap₂ (λ (o : Option Database) (l : List Database). with_made the_name o l) (sym (made_is p id ds)) (sym (kept_is p ds))

-- ---- what is appended

-- what a plan makes of the last manifest appends the plan's edit
pub appends_edit : AppliedAppendsEdit
appends_edit past old p id writer moment reads last =
    let l = last_is past old reads last in (
      l.older,
      l.versions,
      ap (λ (dbs : List Database). let v : Version = record { id = id; moment = max old.moment moment; dbs = dbs } in versions_of past ++ v ∷ []) (dbs_are past p id old.dbs),
    )

-- a first manifest makes a version with no database
pub creates_first : FirstCreates
creates_first past block retention id writer moment reads last = ap (λ (l : List Version). l ++ created id moment ∷ []) (no_version past reads last)

-- ---- versions stay

-- one more entry appends a version or none
pub more_of : (x : Item) (past : List Item) → (more : List Version) × (versions_of (x ∷ past) ≡ versions_of past ++ more)
more_of (BlockPut i bytes) past = ([], sym (append-nil (versions_of past)))
more_of (Published m) past = (version_of past m ∷ [], refl)
more_of Unreadable past = ([], sym (append-nil (versions_of past)))
more_of (BlockDeleted i at) past = ([], sym (append-nil (versions_of past)))
more_of ManifestDeleted past = ([], sym (append-nil (versions_of past)))

more_after : (others : List Entry) (past : List Item) → (more : List Version) × (versions_of (history_after past others) ≡ versions_of past ++ more)
more_after [] past = ([], sym (append-nil (versions_of past)))
more_after (e ∷ es) past =
    let one = more_of (item_of e) past in
    let rest = more_after es (item_of e ∷ past) in
    (one.0 ++ rest.0, rest.1 ∙ ap (λ (l : List Version). l ++ rest.0) one.1 ∙ append_assoc (versions_of past) one.0 rest.0)

pub versions_stay : VersionsStay
versions_stay log others =
    let more = more_after others (history_of log) in
    (more.0, ap versions_of (history_after-append [] log others) ∙ more.1)
