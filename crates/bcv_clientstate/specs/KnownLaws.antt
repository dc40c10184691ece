-- What a client knows after it has read a manifest: the databases without commits here, at its number.
use Rattle.std.specs.Prelude.{◌≡◌, Bool, not, List, map, filter, is_some, None}
use Rattle.std.specs.List.{AllByRecursion}
use Rattle.bcv_base.specs.declared.manifest.DbEntry.{DbEntry}
use Rattle.bcv_base.specs.declared.manifest.Manifest.{Manifest}
use Rattle.bcv_base.specs.History.{Item}
use Rattle.bcv_base.specs.Keyed.{keyed}
use Rattle.bcv_base.specs.ManifestRules.{Ascends}
use Rattle.bcv_base.specs.Versions.{version_of}
use Rattle.bcv_dbmap.specs.Outlived.{IsPublished}
use Rattle.bcv_dbmap.specs.Sound.{Sound}
use Rattle.bcv_machine.specs.State as m
use Rattle.bcv_model.specs.declared.kept.Kept.{Kept}
use Rattle.bcv_model.specs.Notes.{kept_name}
use Rattle.bcv_databases.specs.Catalog.{known_name}
use Rattle.bcv_clientstate.specs.Fits.{FitsKnown}
use Rattle.bcv_databases.specs.declared.known.Known.{Known}
use Rattle.bcv_clientstate.specs.SeenClient.{seen_known}
use Rattle.bcv_clientstate.specs.SeenKept.{seen_kept}

-- the database has no commits here
abbrev pub has_none : Kept → DbEntry → Bool
has_none k d = not (is_some (keyed kept_name d.name k.locals))

abbrev pub known_in : Manifest → DbEntry → Known
known_in read d = record { entry = d; number = read.number; block = read.block }

-- the databases that are known after a manifest was read
abbrev pub known_of : Kept → Manifest → List Known
known_of k read = map (known_in read) (filter (has_none k) read.dbs)

-- they are those that the machine knows then
abbrev pub KnownIsKnown : Type 0
KnownIsKnown = (past : List Item) (k : Kept) (read : Manifest) → map seen_known (known_of k read) ≡ m.known_at (seen_kept k) read.number (version_of past read).dbs

-- they fit the log that has the manifest, ascend by name and have no commits here
pub record AreKnown (past : List Item) (k : Kept) (known : List Known) : Type 0 where
  pub order : Ascends known_name known
  pub apart : AllByRecursion (λ x. keyed kept_name (known_name x) k.locals ≡ None) known
  pub fits : AllByRecursion (FitsKnown past) known

abbrev pub KnownFits : Type 0
KnownFits = (past : List Item) (k : Kept) (read : Manifest) → Sound past → IsPublished read past → AreKnown past k (known_of k read)
