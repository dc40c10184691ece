-- Where the blocks of an older version may be gone.
use Rattle.std.specs.Prelude.{◌≡◌, ℕ, ◌+◌, ◌≤◌, ◌<◌, Bool, true, not, List, Option, Some, None}
use Rattle.bcv_base.specs.declared.id.Id16.{Id16}
use Rattle.bcv_base.specs.Ids.{id_eq}
use Rattle.bcv_base.specs.Keyed.{keyed}
use Rattle.bcv_base.specs.Version.{Database, Version, the_name}
use Rattle.bcv_machine.specs.State.{Container, version_at, database_at}

-- there is no database, or it has another tag
abbrev pub is_other : Id16 → Option Database → Bool
is_other tag None = true
is_other tag (Some d) = not (id_eq d.tag tag)

-- a version has no database of the name with this tag
abbrev pub lacks : Version → List ℕ → Id16 → Bool
lacks v name tag = is_other tag (keyed the_name name v.dbs)

-- blocks of a database of version k may be gone: a later version lacks that database, and a block was deleted by a moment
-- at which the retention since that version had passed
pub record MayBeGone (c : Container) (name : List ℕ) (k : ℕ) : Type 0 where
  pub later : ℕ
  pub is_later : k < later
  pub version : Version
  pub is_version : version_at c later ≡ Some version
  pub old : Database
  pub is_old : database_at c k name ≡ Some old
  pub is_lacking : lacks version name old.tag ≡ true
  pub deleted : ℕ
  pub is_greatest : c.swept ≡ Some deleted
  pub is_past : version.moment + c.retention ≤ deleted
