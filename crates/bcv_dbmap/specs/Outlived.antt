-- Why a block of an earlier version may be gone.
use Rattle.std.specs.Prelude.{◌≡◌, ◌⊎◌, ◌≤◌, ◌+◌, ℕ, false, List, [], ◌∷◌}
use Rattle.bcv_base.specs.declared.id.Id16.{Id16}
use Rattle.bcv_base.specs.declared.manifest.DbEntry.{DbEntry}
use Rattle.bcv_base.specs.declared.manifest.Manifest.{Manifest}
use Rattle.bcv_base.specs.History.{Item, Published, BlockDeleted}
use Rattle.bcv_base.specs.ManifestRules.{lists}
use Rattle.bcv_dbmap.specs.Past.{IsAmong}

-- the manifest was published by one of these entries
abbrev pub IsPublished : Manifest → List Item → Type 0
IsPublished m [] = ⊥
IsPublished m (x ∷ xs) = (x ≡ Published m) ⊎ IsPublished m xs

-- the block was deleted at a moment by one of these entries
abbrev pub IsDeletedIn : List Item → Id16 → ℕ → Type 0
IsDeletedIn [] i at = ⊥
IsDeletedIn (x ∷ xs) i at = (x ≡ BlockDeleted i at) ⊎ IsDeletedIn xs i at

-- a later manifest does not list the block, and its moment lies the retention back at a moment
pub record IsOutlived (later : List Item) (i : Id16) (at : ℕ) : Type 0 where
  pub manifest : Manifest
  pub published : IsPublished manifest later
  pub unlisted : lists manifest.dbs i ≡ false
  pub old : manifest.moment + manifest.retention ≤ at

-- a deletion took a block, and a later manifest, the retention back at it, has no entry with the tag of the block's entry
pub record IsGone (later : List Item) (d : DbEntry) (i : Id16) : Type 0 where
  pub at : ℕ
  pub manifest : Manifest
  pub deleted : IsDeletedIn later i at
  pub published : IsPublished manifest later
  pub old : manifest.moment + manifest.retention ≤ at
  pub replaced : (e : DbEntry) → IsAmong e manifest.dbs → e.tag ≡ d.tag → ⊥
