-- The words of a line, and what a single word writes: a number, a name, a page.
use Rattle.std.specs.Prelude.{ℕ, suc, ◌+◌, ◌-◌, ◌*◌, ◌^◌, Bool, false, ◌&&◌, ◌||◌, ◌==◌, List, [], ◌∷◌, length, take, drop, fold, Option, Some, None, nat_le, nat_lt, option_and_then, codes, if◌then◌else◌}
use Rattle.std.specs.List.{slice_split, list_all, position}
use Rattle.std.specs.Str.{bytes_eq}
use Rattle.bcv_base.specs.Names.{is_name}
use Rattle.bcv_base.specs.Image.{Page}
use Rattle.bcv_base.specs.Padded.{padded}
use Rattle.bcv_base.specs.ManifestRules.{is_block_size, is_page_size}

infixl 10 ◌>>=◌
abbrev pub ◌>>=◌ : {A B : Type 0} → Option A → (A → Option B) → Option B
o >>= f = option_and_then f o

-- ---- words and their places

-- the words of a line, parted by exactly one space; an empty line has one empty word
abbrev pub words_of : List ℕ → List (List ℕ)
words_of line = slice_split (λ b. b == 32) line

-- how many bytes a line still has where these words are left of it: the place of the first of them, counted from the end
abbrev pub bytes_left : List (List ℕ) → ℕ
bytes_left [] = 0
bytes_left (w ∷ []) = length w
bytes_left (w ∷ v ∷ ws) = length w + suc (bytes_left (v ∷ ws))

-- ---- what a word writes

-- the value, where the test holds
abbrev pub given : {A : Type 0} → Bool → A → Option A
given test a = if test then Some a else None

-- the word itself, where it is this text
abbrev pub exactly : List ℕ → List ℕ → Option (List ℕ)
exactly text w = given (bytes_eq w text) w

-- what a word means by a table of texts
abbrev pub meaning_in : {A : Type 0} → List (List ℕ × A) → List ℕ → Option A
meaning_in [] w = None
meaning_in (row ∷ rows) w = if bytes_eq w row.0 then Some row.1 else meaning_in rows w

abbrev pub is_digit : ℕ → Bool
is_digit b = nat_le 48 b && nat_le b 57

-- digits, without a zero in front of others
abbrev pub is_number : List ℕ → Bool
is_number [] = false
is_number (b ∷ bs) = is_digit b && list_all is_digit bs && ((length bs == 0) || nat_lt 48 b)

abbrev pub value_of : List ℕ → ℕ
value_of w = fold (λ n b. n * 10 + (b - 48)) 0 w

-- the number that a word writes in decimal, where it lies in the range
abbrev pub number_in : ℕ → ℕ → List ℕ → Option ℕ
number_in low high w = if is_number w && nat_le low (value_of w) && nat_le (value_of w) high then Some (value_of w) else None

-- the database's name that a word is
abbrev pub name_of : List ℕ → Option (List ℕ)
name_of w = given (is_name w) w

-- ---- the sizes of a world

abbrev pub block_size_of : List ℕ → Option ℕ
block_size_of w = number_in 512 16777216 w >>= λ n. given (is_block_size n) n

-- a page size that isn't above the block size
abbrev pub page_size_of_word : ℕ → List ℕ → Option ℕ
page_size_of_word block w = number_in 512 65536 w >>= λ n. given (is_page_size block n) n

-- slots whose blocks take at most 2^30 bytes
abbrev pub slots_of : ℕ → List ℕ → Option ℕ
slots_of block w = number_in 1 1024 w >>= λ n. given (nat_le (n * block) (2 ^ 30)) n

-- ---- pages

-- the value of a hex digit in lower case
abbrev pub hex_value : ℕ → Option ℕ
hex_value b = if is_digit b then Some (b - 48) else (if nat_le 97 b && nat_le b 102 then Some (b - 87) else None)

-- the bytes that hex digits write, two a byte
abbrev pub unhexed : List ℕ → Option (List ℕ)
unhexed [] = Some []
unhexed (a ∷ []) = None
unhexed (a ∷ b ∷ rest) = hex_value a >>= λ h. hex_value b >>= λ l. unhexed rest >>= λ bs. Some ((16 * h + l) ∷ bs)

-- the bytes that a page's text writes: `-` writes none, hex digits from one byte up to a page
abbrev pub bytes_of_text : ℕ → List ℕ → Option (List ℕ)
bytes_of_text page_size w =
    if bytes_eq w (codes "-") then Some [] else (unhexed w >>= λ bytes. given (nat_le 1 (length bytes) && nat_le (length bytes) page_size) bytes)

-- the page that a text writes: the bytes that it doesn't write are zeros
abbrev pub page_of_text : ℕ → List ℕ → Option Page
page_of_text page_size w = bytes_of_text page_size w >>= λ bytes. Some (padded page_size bytes)

-- a page number above another one, which stands before a word's first `=`, and the text after it
abbrev pub numbered_text : ℕ → List ℕ → Option (ℕ × List ℕ)
numbered_text after w = position (λ b. b == 61) w >>= λ i. number_in (after + 1) (2 ^ 32 - 1) (take i w) >>= λ page. Some (page, drop (i + 1) w)

-- a page number above another one, and the bytes that its page's text writes
abbrev pub pair_of : ℕ → ℕ → List ℕ → Option (ℕ × List ℕ)
pair_of page_size after w = numbered_text after w >>= λ x. bytes_of_text page_size x.1 >>= λ bytes. Some (x.0, bytes)
