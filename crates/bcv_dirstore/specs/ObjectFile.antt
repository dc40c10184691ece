-- How an object lies in its file.
use Rattle.std.specs.Prelude.{◌≡◌, ℕ, ◌<◌, ◌^◌, Bool, false, List, ◌++◌, length, take, drop, nat_lt, Option, Some, None}
use Rattle.std.specs.Int.{w64, to_be_bytes, from_be_bytes}
use Rattle.bcv_base.specs.Log.{Object}

-- the file of an object: its etag in eight bytes, the highest first, and then its bytes
abbrev pub object_file : ℕ → List ℕ → List ℕ
object_file etag bytes = to_be_bytes w64 etag ++ bytes

-- the object that lies in a file
abbrev pub object_in : List ℕ → Object
object_in file = record { bytes = drop 8 file; etag = from_be_bytes w64 (take 8 file) }

-- the object of a file, where there is one
abbrev pub object_at : Option (List ℕ) → Option Object
object_at None = None
object_at (Some file) = Some (object_in file)

-- the file is too short for an etag
abbrev pub is_torn : Option (List ℕ) → Bool
is_torn None = false
is_torn (Some file) = nat_lt (length file) 8

-- an object that was put is found with its etag and its bytes
abbrev pub StoredIsFound : ℕ → List ℕ → Type 0
StoredIsFound etag bytes = etag < 2 ^ 64 → object_in (object_file etag bytes) ≡ record { bytes = bytes; etag = etag }
