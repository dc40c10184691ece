-- The databases that a client knows, as plain data.
use Rattle.std.specs.Prelude.{ℕ, List, Option, None, map, option_and_then, slice_get, vec_capacity}
use Rattle.std.specs.Global.{Vec}
use Rattle.std.specs.Option.{option_map}
use Rattle.bcv_base.specs.declared.manifest.DbEntry.{DbEntry}
use Rattle.bcv_base.specs.Image.{Writes, or_else}
use Rattle.bcv_base.specs.Keyed.{keyed}
use Rattle.bcv_model.specs.declared.ask.Commit.{Commit}
use Rattle.bcv_model.specs.declared.kept.Kept.{Kept}
use Rattle.bcv_model.specs.declared.kept.Local.{Local}
use Rattle.bcv_model.specs.Commits.{writes_of}
use Rattle.bcv_model.specs.Notes.{kept_name}
use Rattle.bcv_pages.specs.Held.{Held, last_of}
use Rattle.bcv_databases.specs.declared.database_view.CommitsAt.{CommitsAt}
use Rattle.bcv_databases.specs.declared.database_view.DatabaseView.{DatabaseView}
use Rattle.bcv_databases.specs.declared.known.Known.{Known}
use Rattle.bcv_databases.specs.declared.set_use.SetUse.{SetUse}

-- for how many known databases, uses of sets, and commits of one database there is memory
pub record Rooms : Type 0 where
  pub known : ℕ
  pub uses : ℕ
  pub commits : ℕ

-- what is kept through a crash, the known databases without commits, which set each database with commits uses, the sets
-- at their places, and for how much there is memory
pub record Catalog : Type 0 where
  pub kept : Kept
  pub known : List Known
  pub uses : List SetUse
  pub sets : List (Option Held)
  pub rooms : Rooms

-- as it stands in memory; of commits there is memory beside those that stand
abbrev pub catalog_of : Kept → Vec Known → Vec SetUse → Vec (Option Held) → Vec Commit → Catalog
catalog_of kept known uses sets spare = record {
  kept = kept;
  known = known.items;
  uses = uses.items;
  sets = sets.items;
  rooms = record { known = vec_capacity known; uses = vec_capacity uses; commits = vec_capacity spare };
}

abbrev pub known_name : Known → List ℕ
known_name k = k.entry.name

abbrev pub use_name : SetUse → List ℕ
use_name u = u.name

-- ---- sets

abbrev pub itself : Option Held → Option Held
itself o = o

-- the set at a place
abbrev pub set_at : List (Option Held) → ℕ → Option Held
set_at sets place = option_and_then itself (slice_get sets place)

-- ---- views

-- a database: its entry, the number of its version, the size of that version's blocks, and its commits where it has some
pub record View : Type 0 where
  pub entry : DbEntry
  pub number : ℕ
  pub block : ℕ
  pub commits : Option CommitsAt

-- the commits in the set of a use
abbrev pub commits_of : List (Option Held) → SetUse → Option CommitsAt
commits_of sets u = option_map (λ (h : Held). record { set = u.set; from = u.from; to = last_of h }) (set_at sets u.set)

abbrev pub shown_view : DatabaseView → View
shown_view v = record { entry = v.entry.now; number = v.number; block = v.block; commits = v.commits }

abbrev pub local_view : Catalog → Local → View
local_view c l =
    record {
      entry = l.entry;
      number = l.number;
      block = l.block;
      commits = option_and_then (commits_of c.sets) (keyed use_name l.entry.name c.uses);
    }

abbrev pub known_view : Known → View
known_view k = record { entry = k.entry; number = k.number; block = k.block; commits = None }

-- the database of a name; one with commits comes first
abbrev pub found_at : Catalog → List ℕ → Option View
found_at c name =
    or_else (option_map (local_view c) (keyed kept_name name c.kept.locals))
    (option_map known_view (keyed known_name name c.known))

-- what a local database's commits write
abbrev pub writes_in : Local → List Writes
writes_in l = map writes_of l.commits
