-- The index beside a log: for the name of each object that is there, the place of the put that made it.
use Rattle.std.specs.Prelude.{◌≡◌, ℕ, List, Option, Some, None, is_some, slice_get}
use Rattle.std.specs.Ordering.{nat_cmp}
use Rattle.std.specs.declared.cmp.Ordering.{Ordering}
use Rattle.std.specs.Cmp.Lexicographic.{slice_cmp}
use Rattle.std.specs.Map.{keys_of}
use Rattle.std.specs.BTreeMap.{get}
use Rattle.std.specs.BTreeMap.Range.{entries_between}
use Rattle.std.specs.declared.ops.Bound.{Bound}
use Rattle.std.specs.declared.ops.Bound.TheVariants as bound
use Rattle.bcv_base.specs.declared.id.Id16.{Id16}
use Rattle.bcv_base.specs.declared.object.ObjName.{ObjName}
use Rattle.bcv_base.specs.declared.object.ObjName.TheVariants as object
use Rattle.bcv_base.specs.declared.log.Entry.{Entry}
use Rattle.bcv_base.specs.Log.{Object, object_of, entry_object}
use Rattle.bcv_memstore.specs.declared.places.Places.{Places}

-- ids in order, by their bytes
abbrev pub id_cmp : Id16 → Id16 → Ordering
id_cmp a b = slice_cmp nat_cmp a.0 b.0

-- the place that is kept for a name
abbrev pub place_of : Places → ObjName → Option ℕ
place_of places object.Manifest = places.manifest
place_of places (object.Block id) = get id_cmp places.blocks id

-- what the entry leaves, where there is one
abbrev pub object_made : Option Entry → Option Object
object_made None = None
object_made (Some e) = entry_object e

-- what the entry at a place leaves
abbrev pub object_at : List Entry → Option ℕ → Option Object
object_at log None = None
object_at log (Some place) = object_made (slice_get log place)

-- the place is that of the put that made this object, and no place where there is no object
pub record IsPlace (log : List Entry) (place : Option ℕ) (x : Option Object) : Type 0 where
  pub made : object_at log place ≡ x
  pub there : is_some place ≡ is_some x

-- the places are those of the objects of a log
pub record IsIndex (places : Places) (log : List Entry) : Type 0 where
  pub each : (name : ObjName) → IsPlace log (place_of places name) (object_of name log)

-- where the ids go on that are above one
abbrev pub start_of : Option Id16 → Bound Id16
start_of None = bound.Unbounded
start_of (Some after) = bound.Excluded after

-- the ids that are kept and are above one, ascending
abbrev pub ids_past : Option Id16 → Places → List Id16
ids_past after places = keys_of (entries_between id_cmp (start_of after) bound.Unbounded places.blocks.entries)
