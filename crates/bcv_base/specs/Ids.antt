-- Ids of 16 bytes, compared by their bytes.
use Rattle.std.specs.Prelude.{◌≡◌, ℕ, Bool, true, List, length, nat_lt}
use Rattle.std.specs.List.{list_any, list_all}
use Rattle.std.specs.Str.{bytes_eq}
use Rattle.bcv_base.specs.declared.id.Id16.{Id16}

-- the two ids are the same
abbrev pub id_eq : Id16 → Id16 → Bool
id_eq a b = bytes_eq a.0 b.0

-- the id is one of these
abbrev pub has_id : Id16 → List Id16 → Bool
has_id i ids = list_any (λ x. id_eq x i) ids

-- each is the value of a byte
abbrev pub are_bytes : List ℕ → Bool
are_bytes bytes = list_all (λ b. nat_lt b 256) bytes

-- sixteen bytes
pub record IsId (i : Id16) : Type 0 where
  pub len : length i.0 ≡ 16
  pub bytes : are_bytes i.0 ≡ true
