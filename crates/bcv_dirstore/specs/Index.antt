-- Ids in order, each once, and the first of them above one.
use Rattle.std.specs.Prelude.{◌≡◌, ◌<◌, ◌≤◌, ◌&&◌, true, List, length, take, Option, Some, None}
use Rattle.std.specs.Option.{is_some}
use Rattle.std.specs.Ordering.{nat_cmp}
use Rattle.std.specs.declared.cmp.Ordering.{Ordering}
use Rattle.std.specs.Cmp.Lexicographic.{slice_cmp}
use Rattle.std.specs.Map.{keys_of}
use Rattle.std.specs.BTreeMap.{BTreeMap, get}
use Rattle.std.specs.BTreeMap.Range.{entries_between}
use Rattle.std.specs.declared.ops.Bound.{Bound}
use Rattle.std.specs.declared.ops.Bound.TheVariants as bound
use Rattle.bcv_base.specs.Ids.{has_id}
use Rattle.bcv_base.specs.declared.id.Id16.{Id16}
use Rattle.bcv_store.specs.Asked.{is_past, are_ascending, list_most}
use Rattle.bcv_store.specs.declared.store.Listed.{Listed}
use Rattle.bcv_store.specs.declared.store.Listed.TheVariants as listed

-- ids in order, by their bytes
abbrev pub id_cmp : Id16 → Id16 → Ordering
id_cmp a b = slice_cmp nat_cmp a.0 b.0

-- where the ids go on that are above one
abbrev pub start_of : Option Id16 → Bound Id16
start_of None = bound.Unbounded
start_of (Some after) = bound.Excluded after

-- the ids of a map that are above one, ascending
abbrev pub ids_past : {V : Type 0} → Option Id16 → BTreeMap Id16 V → List Id16
ids_past after ids = keys_of (entries_between id_cmp (start_of after) bound.Unbounded ids.entries)

-- the keys are these ids
abbrev pub HasIds : {V : Type 0} → BTreeMap Id16 V → List Id16 → Type 0
HasIds sorted ids = (i : Id16) → is_some (get id_cmp sorted i) ≡ has_id i ids

-- all of some ids that are above one, ascending
pub record AreIdsAbove (found : List Id16) (from : Option Id16) (ids : List Id16) : Type 0 where
  pub ascending : are_ascending ids ≡ true
  pub there : (i : Id16) → has_id i ids ≡ (is_past from i && has_id i found)

-- the first of some ids above one, with More exactly where there are further ones
abbrev pub ListsFirst : List Id16 → Option Id16 → List Id16 → Listed → Type 0
ListsFirst found from into listed.More = (ids : List Id16) × AreIdsAbove found from ids × (list_most < length ids) × (into ≡ take list_most ids)
ListsFirst found from into listed.End = AreIdsAbove found from into × (length into ≤ list_most)
ListsFirst found from into listed.Failed = ⊥
ListsFirst found from into listed.NoMemory = Unit {0}
