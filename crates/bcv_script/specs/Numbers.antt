-- Numbers of 64 bits.
use Rattle.std.specs.Prelude.{ℕ, ◌^◌, ◌&&◌, List, Option, Some, None, nat_lt, if◌then◌else◌}
use Rattle.bcv_model.specs.Words.{is_number, value_of}

-- the number that a word writes, where it fits in 64 bits
abbrev pub small_value : List ℕ → Option ℕ
small_value w = if is_number w && nat_lt (value_of w) (2 ^ 64) then Some (value_of w) else None
