-- What a client shows without a request.
use Rattle.std.specs.Prelude.{◌≡◌, is_some}
use Rattle.bcv_databases.specs.Catalog.{Catalog}
use Rattle.bcv_databases.specs.Table.{table_of}
use Rattle.bcv_model.specs.declared.reply.Reply.{Reply}
use Rattle.bcv_model.specs.declared.reply.Reply.TheVariants as reply

-- the table of all databases and whether a publication is pending, or memory was missing
abbrev pub ListsTable : Catalog → Reply → Type 0
ListsTable c (reply.Table rows pending) = (rows ≡ table_of c) × (pending ≡ is_some c.kept.pending)
ListsTable c reply.NoMemory = Unit {0}
ListsTable c _ = ⊥
