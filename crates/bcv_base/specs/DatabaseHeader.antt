-- The first bytes of a database file.
use Rattle.std.specs.Prelude.{ℕ, ◌+◌, ◌*◌, ◌&&◌, ◌==◌, nat_le, List, [], ◌∷◌, ◌++◌, length, take, codes, slice_index, Option, Some, None, if◌then◌else◌}
use Rattle.std.specs.Int.{is_power_of_two}
use Rattle.std.specs.Str.{bytes_eq}

-- the text that a database file begins with: 15 letters and a zero byte
abbrev pub header_text : List ℕ
header_text = codes "SQLite format 3" ++ 0 ∷ []

-- the page size that the header's number says: 1 is 65536, and any other is itself, a power of two from 512 to 32768
abbrev pub said_page_size : ℕ → Option ℕ
said_page_size n =
    if n == 1 then Some 65536 else (if is_power_of_two n && nat_le 512 n && nat_le n 32768 then Some n else None)

-- the page size of a file that begins with these bytes; the number stands in bytes 16 and 17
abbrev pub header_page_size : List ℕ → Option ℕ
header_page_size front =
    if nat_le 18 (length front) && bytes_eq (take 16 front) header_text
    then said_page_size (slice_index front 16 * 256 + slice_index front 17)
    else None
