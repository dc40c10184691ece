-- The versions that a store's log holds: each put of the manifest is one, with the images that its blocks make.
use Rattle.std.specs.Prelude.{◌≡◌, ◌+◌, true, List, [], ◌∷◌, ◌++◌, map}
use Rattle.bcv_base.specs.declared.id.Id16.{Id16}
use Rattle.bcv_base.specs.declared.log.Entry.{Entry}
use Rattle.bcv_base.specs.declared.manifest.Manifest.{Manifest}
use Rattle.bcv_base.specs.History.{Item, BlockPut, Published, Unreadable, BlockDeleted, ManifestDeleted, Always, HasBlock, count_of, history_of}
use Rattle.bcv_base.specs.Joined.{database_of}
use Rattle.bcv_base.specs.ManifestRules.{MeetsRules, MeetsLimits, lists}
use Rattle.bcv_base.specs.Version.{Version}

-- the version that a manifest makes over the blocks that were put
abbrev pub version_of : List Item → Manifest → Version
version_of past m = record { id = m.id; moment = m.moment; dbs = map (database_of past) m.dbs }

-- the versions of a history, the first one first
abbrev pub versions_of : List Item → List Version
versions_of [] = []
versions_of (BlockPut i bytes ∷ past) = versions_of past
versions_of (Published m ∷ past) = versions_of past ++ version_of past m ∷ []
versions_of (Unreadable ∷ past) = versions_of past
versions_of (BlockDeleted i at ∷ past) = versions_of past
versions_of (ManifestDeleted ∷ past) = versions_of past

-- a manifest is a version: its number is its place, it keeps the rules and the limits, and each block that it lists was put
-- before it with the block size
pub record IsVersion (past : List Item) (m : Manifest) : Type 0 where
  pub number : m.number ≡ count_of past + 1
  pub rules : MeetsRules m
  pub limits : MeetsLimits m
  pub blocks : (i : Id16) → lists m.dbs i ≡ true → HasBlock past i m.block

-- nothing is refused: each put of the manifest is a version
abbrev pub Reads : List Item → Item → Type 0
Reads past (BlockPut i bytes) = Unit {0}
Reads past (Published m) = IsVersion past m
Reads past Unreadable = ⊥
Reads past (BlockDeleted i at) = Unit {0}
Reads past ManifestDeleted = Unit {0}

-- the versions of a log are these: nothing in it is refused
pub record HasVersions (log : List Entry) (versions : List Version) : Type 0 where
  pub read : Always Reads (history_of log)
  pub are : versions_of (history_of log) ≡ versions
