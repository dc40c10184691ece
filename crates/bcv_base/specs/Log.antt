-- The log of a store: its entries, the oldest first, and what they say of the object of each name.
use Rattle.std.specs.Prelude.{ℕ, Bool, true, false, ◌&&◌, List, [], ◌∷◌, Option, Some, None, nat_lt, if◌then◌else◌}
use Rattle.std.specs.List.{list_all, count_by}
use Rattle.bcv_base.specs.declared.object.ObjName.{ObjName}
use Rattle.bcv_base.specs.declared.object.ObjName.TheVariants as object
use Rattle.bcv_base.specs.declared.log.Entry.{Entry}
use Rattle.bcv_base.specs.declared.log.Entry.TheVariants as entry
use Rattle.bcv_base.specs.Ids.{id_eq}

-- the two are names of one object
abbrev pub name_eq : ObjName → ObjName → Bool
name_eq object.Manifest object.Manifest = true
name_eq object.Manifest (object.Block j) = false
name_eq (object.Block i) object.Manifest = false
name_eq (object.Block i) (object.Block j) = id_eq i j

-- an object as a store has it: its bytes, and the etag of the put that made it
pub record Object : Type 0 where
  pub bytes : List ℕ
  pub etag : ℕ

-- the name of which an entry speaks
abbrev pub entry_name : Entry → ObjName
entry_name (entry.Put own name bytes etag) = name
entry_name (entry.Deleted own name at) = name

-- what an entry leaves under its name: a put its bytes with its etag, a deletion nothing
abbrev pub entry_object : Entry → Option Object
entry_object (entry.Put own name bytes etag) = Some (record { bytes = bytes; etag = etag })
entry_object (entry.Deleted own name at) = None

-- the object of a name behind an entry: what the entry leaves where it speaks of that name, else the object before it
abbrev pub object_step : ObjName → Option Object → Entry → Option Object
object_step name before e = if name_eq (entry_name e) name then entry_object e else before

-- the object of a name behind further entries
abbrev pub object_after : ObjName → Option Object → List Entry → Option Object
object_after name before [] = before
object_after name before (e ∷ es) = object_after name (object_step name before e) es

-- the object of a name: the last put under it, or none where there is no put or a deletion came last
abbrev pub object_of : ObjName → List Entry → Option Object
object_of name log = object_after name None log

-- the entry is a put under the name
abbrev pub is_put_of : ObjName → Entry → Bool
is_put_of name (entry.Put own other bytes etag) = name_eq other name
is_put_of name (entry.Deleted own other at) = false

-- how often something was put under a name
abbrev pub put_count : ObjName → List Entry → ℕ
put_count name log = count_by (is_put_of name) log

-- a call of one's own made the entry
abbrev pub is_own : Entry → Bool
is_own (entry.Put own name bytes etag) = own
is_own (entry.Deleted own name at) = own

-- of two entries in order, the later one may follow the earlier one: where both are puts under one name, its etag is greater
abbrev pub rises_over : Entry → Entry → Bool
rises_over (entry.Put own a bytes earlier) (entry.Put foreign b others later) = if name_eq a b then nat_lt earlier later else true
rises_over (entry.Put own a bytes earlier) (entry.Deleted foreign b at) = true
rises_over (entry.Deleted own a at) e = true

-- an entry may follow a log
abbrev pub may_follow : List Entry → Entry → Bool
may_follow log e = list_all (λ earlier. rises_over earlier e) log

-- under each name the etags rise
abbrev pub are_rising : List Entry → Bool
are_rising [] = true
are_rising (e ∷ es) = list_all (rises_over e) es && are_rising es
