-- What holds of every log that grew by lawful entries: a sound history.
use Rattle.std.specs.Prelude.{◌≡◌, ℕ, true, false, ◌||◌, List, Option, Some, None, is_some, IfSome}
use Rattle.bcv_base.specs.declared.id.Id16.{Id16}
use Rattle.bcv_base.specs.declared.log.Entry.{Entry}
use Rattle.bcv_base.specs.declared.manifest.DbEntry.{DbEntry}
use Rattle.bcv_base.specs.declared.manifest.Manifest.{Manifest}
use Rattle.bcv_base.specs.History.{Item, BlockPut, Published, Unreadable, BlockDeleted, ManifestDeleted, Always, last_of, first_put, history_of}
use Rattle.bcv_base.specs.ManifestRules.{lists, is_dead}
use Rattle.bcv_base.specs.Versions.{Reads}
use Rattle.bcv_dbmap.specs.declared.plan.EditPlan.{EditPlan}
use Rattle.bcv_dbmap.specs.Applied.{applied, first_manifest, FitsPlan}
use Rattle.bcv_dbmap.specs.Checked.{checked}
use Rattle.bcv_dbmap.specs.Deletions.{SafeDeletions}
use Rattle.bcv_dbmap.specs.Past.{was_listed, was_dead, was_deleted, has_version, WasEntry, writer_of, told_by, last_own}

-- ---- of each entry, over what stands before it

-- a manifest is what some plan that passes makes of another one
pub record IsEditOf (old m : Manifest) : Type 0 where
  pub plan : EditPlan
  pub writer : Id16
  pub moment : ℕ
  pub made : m ≡ applied old plan m.id writer moment
  pub passes : checked old plan writer ≡ None
  pub fits : FitsPlan old.block plan

-- a manifest is a first one
pub record IsFirst (m : Manifest) : Type 0 where
  pub block : ℕ
  pub retention : ℕ
  pub moment : ℕ
  pub writer : Id16
  pub made : m ≡ first_manifest block retention m.id writer moment

-- the first manifest is a first one, each other one is an edit of the one before it
abbrev pub Follows : Option Manifest → Manifest → Type 0
Follows None m = IsFirst m
Follows (Some old) m = IsEditOf old m

abbrev pub IsMade : List Item → Item → Type 0
IsMade past (BlockPut i bytes) = Unit {0}
IsMade past (Published m) = Follows (last_of past) m
IsMade past Unreadable = Unit {0}
IsMade past (BlockDeleted i at) = Unit {0}
IsMade past ManifestDeleted = Unit {0}

-- the id of a manifest is that of no earlier one
abbrev pub HasNewId : List Item → Item → Type 0
HasNewId past (BlockPut i bytes) = Unit {0}
HasNewId past (Published m) = has_version past m.id ≡ false
HasNewId past Unreadable = Unit {0}
HasNewId past (BlockDeleted i at) = Unit {0}
HasNewId past ManifestDeleted = Unit {0}

-- no block is put twice
abbrev pub IsPutOnce : List Item → Item → Type 0
IsPutOnce past (BlockPut i bytes) = first_put past i ≡ None
IsPutOnce past (Published m) = Unit {0}
IsPutOnce past Unreadable = Unit {0}
IsPutOnce past (BlockDeleted i at) = Unit {0}
IsPutOnce past ManifestDeleted = Unit {0}

-- no entry deletes the manifest
abbrev pub KeepsManifest : List Item → Item → Type 0
KeepsManifest past (BlockPut i bytes) = Unit {0}
KeepsManifest past (Published m) = Unit {0}
KeepsManifest past Unreadable = Unit {0}
KeepsManifest past (BlockDeleted i at) = Unit {0}
KeepsManifest past ManifestDeleted = ⊥

-- an id that a delete list has had is listed by no later manifest
abbrev pub StaysDead : List Item → Item → Type 0
StaysDead past (BlockPut i bytes) = Unit {0}
StaysDead past (Published m) = (i : Id16) → lists m.dbs i ≡ true → was_dead past i ≡ false
StaysDead past Unreadable = Unit {0}
StaysDead past (BlockDeleted i at) = Unit {0}
StaysDead past ManifestDeleted = Unit {0}

-- ---- of the last manifest

-- each block that it lists was put and not deleted
abbrev pub ArePresent : List Item → Manifest → Type 0
ArePresent past m = (i : Id16) → lists m.dbs i ≡ true → (is_some (first_put past i) ≡ true) × (was_deleted past i ≡ false)

-- each block that was ever listed is listed, in the delete list, or deleted
abbrev pub AreAccounted : List Item → Manifest → Type 0
AreAccounted past m = (i : Id16) → was_listed past i ≡ true → (lists m.dbs i || (is_dead m.dead i || was_deleted past i)) ≡ true

-- the writers table tells of each writer the last manifest that is that writer's own: there is a line exactly where there is one
abbrev pub AreLast : List Item → Manifest → Type 0
AreLast past m = (i : Id16) → last_own past i ≡ told_by (writer_of i m.writers)

-- ---- the whole

pub record Sound (past : List Item) : Type 0 where
  -- no manifest is refused: each is a version
  pub reads : Always Reads past
  pub safe : SafeDeletions past
  pub made : Always IsMade past
  pub new_ids : Always HasNewId past
  pub once : Always IsPutOnce past
  pub keeps : Always KeepsManifest past
  pub present : IfSome (last_of past) (ArePresent past)
  pub accounted : IfSome (last_of past) (AreAccounted past)
  pub stays_dead : Always StaysDead past
  -- equal tags mean equal entries
  pub tags : (d e : DbEntry) → WasEntry d past → WasEntry e past → d.tag ≡ e.tag → d ≡ e
  -- each tag is the id of some version
  pub tagged : (d : DbEntry) → WasEntry d past → has_version past d.tag ≡ true
  pub writers : IfSome (last_of past) (AreLast past)

-- a log is sound where its history is
abbrev pub IsSoundLog : List Entry → Type 0
IsSoundLog log = Sound (history_of log)
