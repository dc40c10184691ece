-- The files of a folder in memory.
use Rattle.std.specs.Prelude.{ℕ, List, Option}
use Rattle.std.specs.Map.{lookup}
use Rattle.std.specs.BTreeMap.{is_at}
use Rattle.bcv_base.specs.declared.id.Id16.{Id16}
use Rattle.bcv_base.specs.declared.object.ObjName.TheVariants as object
use Rattle.bcv_dirstore.specs.FolderShown.{Files}
use Rattle.bcv_dirstore.specs.Index.{id_cmp}
use Rattle.bcv_dirstore.specs.declared.mem_files.MemFiles.{MemFiles}

-- the manifest's file, and those of blocks by their ids
abbrev pub files_in : Option (List ℕ) → List (Id16 × List ℕ) → Files
files_in manifest blocks object.Manifest = manifest
files_in manifest blocks (object.Block id) = lookup (is_at (id_cmp id)) blocks

-- the bytes of each file
abbrev pub file_of : MemFiles → Files
file_of files = files_in files.manifest files.blocks.entries
