-- The parts of the databases, put together.
use Rattle.std.specs.Prelude.{List, Option}
use Rattle.bcv_model.specs.declared.kept.Local.{Local}
use Rattle.bcv_pages.specs.Held.{Held}
use Rattle.bcv_databases.specs.Catalog.{Catalog, Rooms}
use Rattle.bcv_databases.specs.declared.known.Known.{Known}
use Rattle.bcv_databases.specs.declared.set_use.SetUse.{SetUse}

-- with these parts in the place of those that it has
abbrev pub with_parts : Catalog → List Local → List Known → List SetUse → List (Option Held) → Rooms → Catalog
with_parts c ls ks us xs rooms = record { kept = record { me = c.kept.me; locals = ls; pending = c.kept.pending }; known = ks; uses = us; sets = xs; rooms = rooms }
