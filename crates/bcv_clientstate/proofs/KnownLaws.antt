-- What a client knows after it has read a manifest.
use Rattle.std.proofs.Common.{◌≡◌, ◌∙◌, ℕ, Bool, true, false, not, cond, List, [], ◌∷◌, map, Option, Some, None, is_some, inl, inr, refl, sym, ap, subst}
use Rattle.std.specs.Prelude.{filter}
use Rattle.std.specs.Option.{option_map}
use Rattle.std.specs.List.{AllByRecursion}
use Rattle.bcv_base.specs.declared.manifest.DbEntry.{DbEntry}
use Rattle.bcv_base.specs.declared.manifest.Manifest.{Manifest}
use Rattle.bcv_base.specs.History.{Item, Always}
use Rattle.bcv_base.specs.Joined.{database_of}
use Rattle.bcv_base.specs.Keyed.{keyed}
use Rattle.bcv_base.specs.ManifestRules.{Ascends, IsAbove, MeetsRules, db_name}
use Rattle.bcv_base.specs.Version.{Database}
use Rattle.bcv_base.specs.Versions.{Reads}
use Rattle.bcv_dbmap.specs.Outlived.{IsPublished}
use Rattle.bcv_machine.specs.State as m
use Rattle.bcv_machine.specs.State.{local_name}
use Rattle.bcv_model.specs.declared.kept.Kept.{Kept}
use Rattle.bcv_model.specs.declared.kept.Local.{Local}
use Rattle.bcv_model.specs.Notes.{kept_name}
use Rattle.bcv_clientstate.specs.Fits.{FitsKnown}
use Rattle.bcv_databases.specs.Catalog.{known_name}
use Rattle.bcv_clientstate.specs.KnownLaws.{KnownFits, KnownIsKnown, has_none, known_in}
use Rattle.bcv_databases.specs.declared.known.Known.{Known}
use Rattle.bcv_clientstate.specs.SeenClient.{seen_known}
use Rattle.bcv_clientstate.specs.SeenKept.{seen_kept, seen_local}
use Rattle.bcv_dbmap.proofs.Keys.{above_found, before_other, key_same, keyed_here, keyed_there}
use Rattle.bcv_clientstate.proofs.KeyedMaps.{keyed_map}

some_map : (o : Option Local) → is_some (option_map seen_local o) ≡ is_some o
some_map None = refl
some_map (Some l) = refl

-- the machine's test is the client's
same_test : (k : Kept) (d : DbEntry) → not (is_some (keyed local_name d.name (seen_kept k).locals)) ≡ has_none k d
same_test k d = ap (λ (o : Option m.LocalDb). not (is_some o)) (keyed_map kept_name local_name seen_local (λ l. refl) d.name k.locals) ∙ ap not (some_map (keyed kept_name d.name k.locals))

known_is : (past : List Item) (k : Kept) (read : Manifest) (ds : List DbEntry)
    → map seen_known (map (known_in read) (filter (has_none k) ds)) ≡ m.known_at (seen_kept k) read.number (map (database_of past) ds)
known_is past k read [] = refl
known_is past k read (d ∷ ds) =
    step (has_none k d) (known_is past k read ds)
    ∙ ap (λ (b : Bool). map at_number (cond b (database_of past d ∷ filter test (map (database_of past) ds)) (filter test (map (database_of past) ds)))) (sym (same_test k d))
  where
    test : Database → Bool
    test x = not (is_some (keyed local_name x.name (seen_kept k).locals))

    at_number : Database → m.KnownDb
    at_number x = record { name = x.name; base = read.number }

    step : (b : Bool) → map seen_known (map (known_in read) (filter (has_none k) ds)) ≡ m.known_at (seen_kept k) read.number (map (database_of past) ds)
        → map seen_known (map (known_in read) (cond b (d ∷ filter (has_none k) ds) (filter (has_none k) ds)))
        ≡ map at_number (cond b (database_of past d ∷ filter test (map (database_of past) ds)) (filter test (map (database_of past) ds)))
    step true rest = ap (λ (xs : List m.KnownDb). record { name = d.name; base = read.number } ∷ xs) rest
    step false rest = rest

pub known_is_known : KnownIsKnown
known_is_known past k read = known_is past k read read.dbs

-- ---- that they fit

-- the names above a name stay above it
above_known : (k : Kept) (read : Manifest) (name : List ℕ) (ds : List DbEntry) → IsAbove db_name name ds → IsAbove known_name name (map (known_in read) (filter (has_none k) ds))
above_known k read name [] above = tt
above_known k read name (d ∷ ds) above = step (has_none k d) (above_known k read name ds above.1)
  where
    step : (b : Bool) → IsAbove known_name name (map (known_in read) (filter (has_none k) ds)) → IsAbove known_name name (map (known_in read) (cond b (d ∷ filter (has_none k) ds) (filter (has_none k) ds)))
    step true rest = (above.0, rest)
    step false rest = rest

order_known : (k : Kept) (read : Manifest) (ds : List DbEntry) → Ascends db_name ds → Ascends known_name (map (known_in read) (filter (has_none k) ds))
order_known k read [] asc = tt
order_known k read (d ∷ ds) asc = step (has_none k d) (order_known k read ds asc.1)
  where
    step : (b : Bool) → Ascends known_name (map (known_in read) (filter (has_none k) ds)) → Ascends known_name (map (known_in read) (cond b (d ∷ filter (has_none k) ds) (filter (has_none k) ds)))
    step true rest = (above_known k read d.name ds asc.0, rest)
    step false rest = rest

none_of : (o : Option Local) → not (is_some o) ≡ true → o ≡ None
none_of None h = refl
none_of (Some l) h = absurd (cc)

abbrev AreApart : Kept → List Known → Type 0
AreApart k xs = AllByRecursion (λ (x : Known). keyed kept_name (known_name x) k.locals ≡ None) xs

apart_known : (k : Kept) (read : Manifest) (ds : List DbEntry) → AreApart k (map (known_in read) (filter (has_none k) ds))
apart_known k read [] = tt
apart_known k read (d ∷ ds) = step (has_none k d) refl (apart_known k read ds)
  where
    step : (b : Bool) → has_none k d ≡ b → AreApart k (map (known_in read) (filter (has_none k) ds)) → AreApart k (map (known_in read) (cond b (d ∷ filter (has_none k) ds) (filter (has_none k) ds)))
    step true t rest = (none_of (keyed kept_name d.name k.locals) t, rest)
    step false t rest = rest

-- a look-up past the front of an ascending list
past_front : (x : DbEntry) (xs : List DbEntry) (d : DbEntry) → IsAbove db_name x.name xs → keyed db_name d.name xs ≡ Some d → keyed db_name d.name (x ∷ xs) ≡ Some d
past_front x xs d above is = keyed_there db_name d.name x xs (before_other x.name d.name (above_found db_name x.name d.name xs d above is)) ∙ is

all_more : (P Q : DbEntry → Type 0) (ds : List DbEntry) → ((d : DbEntry) → P d → Q d) → AllByRecursion P ds → AllByRecursion Q ds
all_more P Q [] f all = tt
all_more P Q (d ∷ ds) f all = (f d all.0, all_more P Q ds f all.1)

all_in : (ds : List DbEntry) → Ascends db_name ds → AllByRecursion (λ (d : DbEntry). keyed db_name d.name ds ≡ Some d) ds
all_in [] asc = tt
all_in (d ∷ ds) asc = (
  keyed_here db_name d.name d ds (key_same d.name),
  all_more (λ e. keyed db_name e.name ds ≡ Some e) (λ e. keyed db_name e.name (d ∷ ds) ≡ Some e) ds (λ e is. past_front d ds e asc.0 is) (all_in ds asc.1),
)

fits_known : (past : List Item) (k : Kept) (read : Manifest) → IsPublished read past → (ds : List DbEntry) → AllByRecursion (λ (d : DbEntry). keyed db_name d.name read.dbs ≡ Some d) ds
    → AllByRecursion (FitsKnown past) (map (known_in read) (filter (has_none k) ds))
fits_known past k read there [] all = tt
fits_known past k read there (d ∷ ds) all = step (has_none k d) (fits_known past k read there ds all.1)
  where
    step : (b : Bool) → AllByRecursion (FitsKnown past) (map (known_in read) (filter (has_none k) ds)) → AllByRecursion (FitsKnown past) (map (known_in read) (cond b (d ∷ filter (has_none k) ds) (filter (has_none k) ds)))
    step true rest = (record { manifest = read; published = there; number_is = refl; block_is = refl; listed = all.0 }, rest)
    step false rest = rest

-- a published manifest keeps the rules
rules_of : (past : List Item) (m : Manifest) → Always Reads past → IsPublished m past → MeetsRules m
rules_of [] m reads there = absurd there
rules_of (x ∷ past) m reads (inl is) = (subst (λ (y : Item). Reads past y) is reads.1).rules
rules_of (x ∷ past) m reads (inr there) = rules_of past m reads.0 there

pub known_fits : KnownFits
known_fits past k read sound there =
    let rules : MeetsRules read = rules_of past read sound.reads there in
    record {
      order = order_known k read read.dbs rules.dbs;
      apart = apart_known k read read.dbs;
      fits = fits_known past k read there read.dbs (all_in read.dbs rules.dbs);
    }
