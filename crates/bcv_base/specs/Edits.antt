-- The edits that make a version of the one before it.
use Rattle.std.specs.Prelude.{ℕ, max, List, [], Option, Some, None}
use Rattle.std.specs.Option.{option_map}
use Rattle.bcv_base.specs.declared.id.Id16.{Id16}
use Rattle.bcv_base.specs.Image.{Page}
use Rattle.bcv_base.specs.Keyed.{keyed, without_keyed, with_made}
use Rattle.bcv_base.specs.Version.{Database, Version, the_name}

-- an edit, with the name of a database, its page size and its image, or with names alone
pub data Edit : Type 0 where
  New : List ℕ → ℕ → List Page → Edit
  Upload : List ℕ → ℕ → List Page → Edit
  Copy : List ℕ → List ℕ → Edit
  Remove : List ℕ → Edit
  Sweep : Edit

-- the database that an edit makes, tagged with the publication's id
abbrev pub made_database : Edit → Id16 → List Database → Option Database
made_database (New d page_size image) id dbs = Some (record { name = d; tag = id; page_size = page_size; image = image })
made_database (Upload d page_size image) id dbs = Some (record { name = d; tag = id; page_size = page_size; image = image })
made_database (Copy a b) id dbs = option_map (λ (d : Database). record d { name = b; tag = id }) (keyed the_name a dbs)
made_database (Remove a) id dbs = None
made_database Sweep id dbs = None

-- the databases that an edit leaves as they are
abbrev pub kept_databases : Edit → List Database → List Database
kept_databases (New d page_size image) dbs = dbs
kept_databases (Upload d page_size image) dbs = dbs
kept_databases (Copy a b) dbs = dbs
kept_databases (Remove a) dbs = without_keyed the_name a dbs
kept_databases Sweep dbs = dbs

-- the version that an edit makes
abbrev pub edited : Version → Edit → Id16 → ℕ → Version
edited v e id now = record v { id = id; moment = max v.moment now; dbs = with_made the_name (made_database e id v.dbs) (kept_databases e v.dbs) }

-- the version that a create makes: no database
abbrev pub created : Id16 → ℕ → Version
created id now = record { id = id; moment = now; dbs = [] }
