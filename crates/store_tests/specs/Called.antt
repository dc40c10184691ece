-- What callers of a store say of their answers.
use Rattle.std.specs.Prelude.{◌≡◌, ℕ, List, Some}
use Rattle.bcv_base.specs.declared.object.ObjName.{ObjName}
use Rattle.bcv_base.specs.declared.log.Entry.{Entry}
use Rattle.bcv_base.specs.Log.{object_of}
use Rattle.bcv_store.specs.declared.store.Put.{Put}
use Rattle.bcv_store.specs.declared.store.Put.TheVariants as put

-- a put that is never refused: where it is stored, the object of the name is what was put
abbrev pub Replaces : List Entry → ObjName → List ℕ → Put → Type 0
Replaces log name bytes (put.Stored etag) = object_of name log ≡ Some (record { bytes = bytes; etag = etag })
Replaces log name bytes put.Refused = ⊥
Replaces log name bytes put.Failed = Unit {0}
Replaces log name bytes put.NoMemory = Unit {0}
