-- The container in the machine's words, by a history of the store's log; and the bases that a client stands on.
use Rattle.std.specs.Prelude.{◌≡◌, ℕ, List, [], ◌∷◌, Option, Some, None}
use Rattle.bcv_base.specs.declared.manifest.DbEntry.{DbEntry}
use Rattle.bcv_base.specs.declared.manifest.Manifest.{Manifest}
use Rattle.bcv_base.specs.History.{Item, BlockPut, Published, Unreadable, BlockDeleted, ManifestDeleted, last_of}
use Rattle.bcv_base.specs.Keyed.{keyed}
use Rattle.bcv_base.specs.ManifestRules.{db_name}
use Rattle.bcv_base.specs.Versions.{versions_of}
use Rattle.bcv_dbmap.specs.Outlived.{IsPublished}
use Rattle.bcv_machine.specs.MiddleStep.{swept_at}
use Rattle.bcv_machine.specs.State.{Container}

-- ---- the container

-- the block size and the retention, 0 before the create
abbrev pub block_in : Option Manifest → ℕ
block_in None = 0
block_in (Some m) = m.block

abbrev pub retention_in : Option Manifest → ℕ
retention_in None = 0
retention_in (Some m) = m.retention

-- the greatest moment by which a block was deleted
abbrev pub swept_of : List Item → Option ℕ
swept_of [] = None
swept_of (BlockPut i bytes ∷ past) = swept_of past
swept_of (Published m ∷ past) = swept_of past
swept_of (Unreadable ∷ past) = swept_of past
swept_of (BlockDeleted i at ∷ past) = swept_at at (swept_of past)
swept_of (ManifestDeleted ∷ past) = swept_of past

-- what all clients share, at a moment
abbrev pub container_of : ℕ → List Item → Container
container_of moment past =
    record { versions = versions_of past; block = block_in (last_of past); retention = retention_in (last_of past); moment = moment; swept = swept_of past }

-- ---- bases

-- the entry is that of its name in the published manifest of a number, whose blocks have this size
pub record HasBase (past : List Item) (number block : ℕ) (e : DbEntry) : Type 0 where
  pub manifest : Manifest
  pub published : IsPublished manifest past
  pub number_is : manifest.number ≡ number
  pub block_is : manifest.block ≡ block
  pub listed : keyed db_name e.name manifest.dbs ≡ Some e
