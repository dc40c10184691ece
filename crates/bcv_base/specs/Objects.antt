-- The spelling of objects' names.
use Rattle.std.specs.Prelude.{ℕ, List, ◌++◌, codes}
use Rattle.bcv_base.specs.Ids.{IsId}
use Rattle.bcv_base.specs.Names.{hex_of}
use Rattle.bcv_base.specs.declared.object.ObjName.{ObjName}
use Rattle.bcv_base.specs.declared.object.ObjName.TheVariants.{Manifest, Block}

-- a block's id has sixteen bytes
abbrev pub IsObject : ObjName → Type 0
IsObject Manifest = Unit {0}
IsObject (Block id) = IsId id

-- `manifest` or the id in hex, and then `.bcv`
abbrev pub object_text : ObjName → List ℕ
object_text Manifest = codes "manifest" ++ codes ".bcv"
object_text (Block id) = hex_of id.0 ++ codes ".bcv"
