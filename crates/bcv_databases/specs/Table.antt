-- The table of the databases that a client knows.
use Rattle.std.specs.Prelude.{◌≡◌, ◌≤◌, ℕ, ◌++◌, List, [], ◌∷◌, drop, length, map}
use Rattle.bcv_base.specs.Keyed.{with_keyed}
use Rattle.bcv_base.specs.ManifestRules.{Ascends}
use Rattle.bcv_base.specs.Views.{view_size}
use Rattle.bcv_model.specs.declared.kept.Local.{Local}
use Rattle.bcv_model.specs.declared.reply.Row.{Row}
use Rattle.bcv_databases.specs.Catalog.{Catalog, known_name, writes_in}
use Rattle.bcv_databases.specs.declared.known.Known.{Known}

abbrev pub row_name : Row → List ℕ
row_name r = r.name

-- the number of the base, the size with the commits in pages, and how many commits there are
abbrev pub local_row : Local → Row
local_row l =
    record { name = l.entry.name; number = l.number; pages = view_size l.entry.pages (writes_in l); commits = length l.commits }

abbrev pub known_row : Known → Row
known_row k = record { name = k.entry.name; number = k.number; pages = k.entry.pages; commits = 0 }

-- the rows of known databases, each at its place among further rows
abbrev pub merged_rows : List Known → List Row → List Row
merged_rows [] rows = rows
merged_rows (k ∷ ks) rows = with_keyed row_name (known_row k) (merged_rows ks rows)

-- the rows of all databases, ascending by name
abbrev pub table_of : Catalog → List Row
table_of c = merged_rows c.known (map local_row c.kept.locals)

-- ---- one merge

-- what a table goes on with, from the databases with commits after so many: rows of those that stand before a known
-- database, its own, and the rest
abbrev pub Merges : List Local → ℕ → List ℕ → List Row → List Row → ℕ → Type 0
Merges locals from name old new next =
    (next ≤ length locals) × ((k : Known) (ks : List Known) → known_name k ≡ name → Ascends known_name (k ∷ ks)
    → old ++ merged_rows (k ∷ ks) (map local_row (drop from locals))
    ≡ new ++ known_row k ∷ merged_rows ks (map local_row (drop next locals)))
