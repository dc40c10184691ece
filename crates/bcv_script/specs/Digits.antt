-- Hex digits in lower case.
use Rattle.std.specs.Prelude.{ℕ, Bool, ◌&&◌, ◌||◌, nat_le}
use Rattle.bcv_model.specs.Words.{is_digit}

abbrev pub is_lower_hex : ℕ → Bool
is_lower_hex b = is_digit b || (nat_le 97 b && nat_le b 102)
