-- Safe deletions: no block is deleted while it is listed or within its retention, and none is listed again; and complete
-- cleanups.
use Rattle.std.specs.Prelude.{◌≡◌, ℕ, Bool, true, false, List, take, IfSome}
use Rattle.std.specs.List.{filter, list_any}
use Rattle.bcv_base.specs.declared.id.Id16.{Id16}
use Rattle.bcv_base.specs.declared.manifest.Dead.{Dead}
use Rattle.bcv_base.specs.declared.manifest.Manifest.{Manifest}
use Rattle.bcv_base.specs.History.{Item, BlockPut, Published, Unreadable, BlockDeleted, ManifestDeleted, Always, last_of}
use Rattle.bcv_base.specs.ManifestRules.{lists}
use Rattle.bcv_dbmap.specs.Past.{was_expired, was_deleted}

-- a block may be deleted at a moment: the last manifest does not list it, and an earlier delete list had it with a stamp
-- that lies the retention back
pub record IsDeletable (past : List Item) (i : Id16) (at : ℕ) : Type 0 where
  pub unlisted : IfSome (last_of past) (λ m. lists m.dbs i ≡ false)
  pub expired : was_expired past i at ≡ true

-- a deletion is allowed, and a manifest lists no block that was deleted
abbrev pub IsSafe : List Item → Item → Type 0
IsSafe past (BlockPut i bytes) = Unit {0}
IsSafe past (Published m) = (i : Id16) → lists m.dbs i ≡ true → was_deleted past i ≡ false
IsSafe past Unreadable = Unit {0}
IsSafe past (BlockDeleted i at) = IsDeletable past i at
IsSafe past ManifestDeleted = Unit {0}

-- all deletions of a history are safe
abbrev pub SafeDeletions : List Item → Type 0
SafeDeletions past = Always IsSafe past

-- ---- cleanups

-- the dead blocks that a cleanup takes at most
abbrev pub most_cleaned : ℕ
most_cleaned = 64

-- what a cleanup takes of a delete list, which ascends by id: the first ones of those that a test releases
abbrev pub cleaned : (Dead → Bool) → List Dead → List Dead
cleaned released dead = take most_cleaned (filter released dead)

-- a cleanup is complete: of one manifest it took the first dead blocks that a test releases, and it says that there are more
-- exactly where the delete list of a later manifest has one that the test releases
pub record CleanedAll (released : Dead → Bool) (read last : Manifest) (taken : List Dead) (more : Bool) : Type 0 where
  pub takes : taken ≡ cleaned released read.dead
  pub left : more ≡ list_any released last.dead
