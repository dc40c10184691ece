-- A log as a history: the newest entry first, each put of the manifest read. What one more entry changes is then one step.
use Rattle.std.specs.Prelude.{◌≡◌, ℕ, ◌+◌, List, [], ◌∷◌, length, Option, Some, None, Result, Ok, Err, if◌then◌else◌}
use Rattle.bcv_base.specs.declared.id.Id16.{Id16}
use Rattle.bcv_base.specs.declared.log.Entry.{Entry}
use Rattle.bcv_base.specs.declared.log.Entry.TheVariants as entry
use Rattle.bcv_base.specs.declared.manifest.Manifest.{Manifest}
use Rattle.bcv_base.specs.declared.object.ObjName.TheVariants as object
use Rattle.bcv_base.specs.Ids.{id_eq}
use Rattle.bcv_base.specs.Image.{or_else}
use Rattle.bcv_base.specs.ManifestGrammar.{manifest_of}

-- what an entry of a log is: the put of a block, a manifest that was published, a put of the manifest whose bytes are none,
-- the deletion of a block at a moment, or a deletion of the manifest
pub data Item : Type 0 where
  BlockPut : Id16 → List ℕ → Item
  Published : Manifest → Item
  Unreadable : Item
  BlockDeleted : Id16 → ℕ → Item
  ManifestDeleted : Item

-- ---- from a log

-- a put of the manifest, as its bytes are read
abbrev pub as_read : Result Manifest ℕ → Item
as_read (Ok m) = Published m
as_read (Err at) = Unreadable

abbrev pub item_of : Entry → Item
item_of (entry.Put own object.Manifest bytes etag) = as_read (manifest_of bytes)
item_of (entry.Put own (object.Block i) bytes etag) = BlockPut i bytes
item_of (entry.Deleted own object.Manifest at) = ManifestDeleted
item_of (entry.Deleted own (object.Block i) at) = BlockDeleted i at

-- a history behind further entries of a log
abbrev pub history_after : List Item → List Entry → List Item
history_after past [] = past
history_after past (e ∷ es) = history_after (item_of e ∷ past) es

-- the history of a log
abbrev pub history_of : List Entry → List Item
history_of log = history_after [] log

-- ---- what a history says

-- P holds of each item over what stands before it
abbrev pub Always : (List Item → Item → Type 0) → List Item → Type 0
Always P [] = Unit {0}
Always P (x ∷ past) = Always P past × P past x

-- the last manifest that was published
abbrev pub last_of : List Item → Option Manifest
last_of [] = None
last_of (BlockPut i bytes ∷ past) = last_of past
last_of (Published m ∷ past) = Some m
last_of (Unreadable ∷ past) = last_of past
last_of (BlockDeleted i at ∷ past) = last_of past
last_of (ManifestDeleted ∷ past) = last_of past

-- how often the manifest was put
abbrev pub count_of : List Item → ℕ
count_of [] = 0
count_of (BlockPut i bytes ∷ past) = count_of past
count_of (Published m ∷ past) = count_of past + 1
count_of (Unreadable ∷ past) = count_of past + 1
count_of (BlockDeleted i at ∷ past) = count_of past
count_of (ManifestDeleted ∷ past) = count_of past

-- the first bytes put under an id, where there are any
abbrev pub first_put : List Item → Id16 → Option (List ℕ)
first_put [] i = None
first_put (BlockPut j bytes ∷ past) i = or_else (first_put past i) (if id_eq j i then Some bytes else None)
first_put (Published m ∷ past) i = first_put past i
first_put (Unreadable ∷ past) i = first_put past i
first_put (BlockDeleted j at ∷ past) i = first_put past i
first_put (ManifestDeleted ∷ past) i = first_put past i

-- the block was put, and the first bytes put under its id are so many
abbrev pub HasBlock : List Item → Id16 → ℕ → Type 0
HasBlock past i size = (bytes : List ℕ) × (first_put past i ≡ Some bytes) × (length bytes ≡ size)
