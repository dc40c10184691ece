-- The life of a database, step by step: it is made, another writer copies it and uploads another version of it, its copy is
-- removed, the block that only the copy still listed is deleted once the retention has passed, and swept.
use Rattle.std.specs.Prelude.{ℕ, List, [], ◌∷◌, replicate}
use Rattle.bcv_base.specs.declared.id.Id16.{Id16}
use Rattle.bcv_base.specs.declared.manifest.DbEntry.{DbEntry}
use Rattle.bcv_base.specs.declared.manifest.Manifest.{Manifest}
use Rattle.bcv_base.specs.History.{Item, BlockPut, Published, BlockDeleted}
use Rattle.bcv_dbmap.specs.declared.plan.EditPlan.TheVariants as plan
use Rattle.bcv_dbmap.specs.Applied.{applied, first_manifest}
use Rattle.bcv_dbmap.specs.Checked.{zero_id}

abbrev pub named : ℕ → Id16
named n = record { 0 = replicate 16 n }

-- two blocks
abbrev pub block : Id16
block = named 7

abbrev pub other_block : Id16
other_block = named 8

-- two writers
abbrev pub writer : Id16
writer = named 9

abbrev pub other_writer : Id16
other_writer = named 10

-- the names `a` and `b`
abbrev pub name : List ℕ
name = 97 ∷ []

abbrev pub copy_name : List ℕ
copy_name = 98 ∷ []

-- blocks of 512 bytes, a retention of 5 seconds, created at the moment 10
abbrev pub created : Manifest
created = first_manifest 512 5 (named 1) writer 10

abbrev pub first_bytes : List ℕ
first_bytes = replicate 512 0

abbrev pub other_bytes : List ℕ
other_bytes = replicate 512 1

-- one page in one block
abbrev pub entry : Id16 → DbEntry
entry i = record { name = name; tag = zero_id; page_size = 512; pages = 1; blocks = i ∷ [] }

abbrev pub made : Manifest
made = applied created (plan.New (entry block)) (named 2) writer 20

abbrev pub copied : Manifest
copied = applied made (plan.Copy name copy_name) (named 3) other_writer 22

abbrev pub uploaded : Manifest
uploaded = applied copied (plan.Upload (named 2) (entry other_block)) (named 4) other_writer 25

abbrev pub removed : Manifest
removed = applied uploaded (plan.Remove copy_name) (named 5) writer 30

abbrev pub swept : Manifest
swept = applied removed (plan.Sweep (block ∷ [])) (named 6) writer 40

-- up to the upload, up to the removal, and the whole life
abbrev pub until_uploaded : List Item
until_uploaded = Published uploaded ∷ BlockPut other_block other_bytes ∷ Published copied ∷ Published made ∷ BlockPut block first_bytes ∷ Published created ∷ []

abbrev pub until_removed : List Item
until_removed = Published removed ∷ until_uploaded

abbrev pub life : List Item
life = Published swept ∷ BlockDeleted block 35 ∷ until_removed
