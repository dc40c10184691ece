-- How others make a log grow: lawful entries. The names that are mine are a list of ids, of writers, publications and blocks.
use Rattle.std.specs.Prelude.{◌≡◌, ℕ, true, false, List, [], ◌∷◌, Option, Some, None}
use Rattle.bcv_base.specs.declared.id.Id16.{Id16}
use Rattle.bcv_base.specs.declared.log.Entry.{Entry}
use Rattle.bcv_base.specs.declared.manifest.Manifest.{Manifest}
use Rattle.bcv_base.specs.History.{Item, BlockPut, Published, Unreadable, BlockDeleted, ManifestDeleted, HasBlock, last_of, first_put, item_of}
use Rattle.bcv_base.specs.Ids.{has_id}
use Rattle.bcv_base.specs.ManifestRules.{MeetsRules, MeetsLimits, lists}
use Rattle.bcv_dbmap.specs.Applied.{swept_ids}
use Rattle.bcv_dbmap.specs.Deletions.{IsDeletable}
use Rattle.bcv_dbmap.specs.Sound.{IsEditOf, IsFirst}
use Rattle.bcv_dbmap.specs.Past.{was_listed, was_dead, was_deleted, has_version, last_own}

-- ---- lawful entries

-- a block that a manifest newly lists: it was put with the block size, it is not mine, and no manifest has listed it or had
-- it in its delete list
pub record IsNewBlock (mine : List Id16) (past : List Item) (size : ℕ) (i : Id16) : Type 0 where
  pub there : HasBlock past i size
  pub not_mine : has_id i mine ≡ false
  pub not_listed : was_listed past i ≡ false
  pub not_dead : was_dead past i ≡ false

-- a manifest is another writer's edit of the last one; it lists no ids but that one's and new ones, and what a sweep takes
-- was deleted before
pub record Edits (mine : List Id16) (past : List Item) (old m : Manifest) : Type 0 where
  pub edit : IsEditOf old m
  pub another : has_id edit.writer mine ≡ false
  pub blocks : (i : Id16) → lists m.dbs i ≡ true → lists old.dbs i ≡ false → IsNewBlock mine past old.block i
  pub swept : (i : Id16) → has_id i (swept_ids edit.plan) ≡ true → was_deleted past i ≡ true

-- a manifest is another writer's first one
pub record Creates (mine : List Id16) (m : Manifest) : Type 0 where
  pub first : IsFirst m
  pub another : has_id first.writer mine ≡ false

abbrev pub Publishes : List Id16 → List Item → Option Manifest → Manifest → Type 0
Publishes mine past None m = Creates mine m
Publishes mine past (Some old) m = Edits mine past old m

-- a block is put under an id that was never put, was never listed and is not mine
pub record PutsNew (mine : List Id16) (past : List Item) (i : Id16) : Type 0 where
  pub unput : first_put past i ≡ None
  pub unlisted : was_listed past i ≡ false
  pub not_mine : has_id i mine ≡ false

-- a manifest within the rules and the limits is published under a fresh id
pub record IsPublication (mine : List Id16) (past : List Item) (m : Manifest) : Type 0 where
  pub rules : MeetsRules m
  pub limits : MeetsLimits m
  pub fresh : has_version past m.id ≡ false
  pub not_mine : has_id m.id mine ≡ false
  pub publishes : Publishes mine past (last_of past) m

-- an entry that others may append
abbrev pub IsLawful : List Id16 → List Item → Item → Type 0
IsLawful mine past (BlockPut i bytes) = PutsNew mine past i
IsLawful mine past (Published m) = IsPublication mine past m
IsLawful mine past Unreadable = ⊥
IsLawful mine past (BlockDeleted i at) = IsDeletable past i at
IsLawful mine past ManifestDeleted = ⊥

-- ---- growth

-- these entries are lawful, each at its place
abbrev pub AreLawful : List Id16 → List Item → List Entry → Type 0
AreLawful mine past [] = Unit {0}
AreLawful mine past (e ∷ es) = IsLawful mine past (item_of e) × AreLawful mine (item_of e ∷ past) es

-- what others leave as it was: an unlisted block of mine stays unlisted, with its bytes; an id of mine that is no version
-- stays none; and the last publication of a writer who is mine stays the last
pub record IsUntouched (mine : List Id16) (past later : List Item) : Type 0 where
  pub unlisted : (i : Id16) → has_id i mine ≡ true → was_listed past i ≡ false → was_listed later i ≡ false
  pub bytes : (i : Id16) → has_id i mine ≡ true → first_put later i ≡ first_put past i
  pub unpublished : (i : Id16) → has_id i mine ≡ true → has_version past i ≡ false → has_version later i ≡ false
  pub last : (i : Id16) → has_id i mine ≡ true → last_own later i ≡ last_own past i
