-- Ids in text, by the words of the crate `hex`.
use Rattle.std.proofs.Common.{◌≡◌, ℕ, zero, suc, ◌<◌, ◌/◌, ◌%◌, Bool, true, List, [], ◌∷◌, length, Ok, Err, refl, sym, ◌∙◌, arith, zero-add, lit<}
use Rattle.std.specs.Prelude.{slice_index, ◌==◌, nat_lt}
use Rattle.std.specs.List.{AllPass, range_with_len}
use Rattle.std.proofs.lemmas.Bool.{and_parts, eqb-true, ltb-true, lt-ltb}
use Rattle.std.proofs.lemmas.List.Elements.{All-get_or}
use Rattle.std.proofs.lemmas.List.FromFn.{get_or-range_with_len}
use Rattle.std.proofs.lemmas.List.Sums.{AllPass-from_list_all}
use Rattle.hex.specs.declared.error.FromHexError.{FromHexError}
use Rattle.hex.specs.Hex.{encode_with, encode_lower, lower_digits, decode_sized, IsBytes}
use Rattle.hex.proofs.HexLemmas.{decode_sized-encode_lower, decode_sized-ok, decode_sized-twice, decode_of-ok}
use Rattle.bcv_base.specs.Ids.{IsId, are_bytes}
use Rattle.bcv_base.specs.Names.{hex_of, hex_digit}
use Rattle.bcv_base.specs.declared.id.Id16.{Id16}

-- the crate and the definition have the same digit for a number
abbrev same_digit : ℕ → Bool
same_digit n = slice_index lower_digits n == hex_digit n

-- the crate's digits are those of the definition
lower_digit : (n : ℕ) → n < 16 → slice_index lower_digits n ≡ hex_digit n
lower_digit n h =
    let passes : AllPass same_digit (range_with_len 0 16) = AllPass-from_list_all same_digit (range_with_len 0 16) refl in
    let here = All-get_or (λ k. same_digit k ≡ true) (range_with_len 0 16) n 0 h passes in
    eqb-true (slice_index lower_digits n) (hex_digit n) (rw (get_or-range_with_len 0 16 n 0 h ∙ zero-add n) at here)

-- the crate's text is that of the definition
pub encode_lower-hex_of : (xs : List ℕ) → IsBytes xs → encode_lower xs ≡ hex_of xs
unfolding encode_with
encode_lower-hex_of [] h = refl
encode_lower-hex_of (b ∷ bs) h =
    let byte : b < 256 = h 0 in
    let high : b / 16 < 16 = omega arith in
    let low : b % 16 < 16 = omega arith in
    rw (lower_digit (b / 16) high, lower_digit (b % 16) low, encode_lower-hex_of bs (λ i. h (suc i))) refl

pub are_bytes-from_IsBytes : (xs : List ℕ) → IsBytes xs → are_bytes xs ≡ true
are_bytes-from_IsBytes [] h = refl
are_bytes-from_IsBytes (b ∷ bs) h =
    let byte : b < 256 = h 0 in
    rw (lt-ltb b 256 byte) (are_bytes-from_IsBytes bs (λ i. h (suc i)))

pub IsBytes-from_are_bytes : (xs : List ℕ) → are_bytes xs ≡ true → IsBytes xs
IsBytes-from_are_bytes [] h i = lit< tt
IsBytes-from_are_bytes (b ∷ bs) h zero = ltb-true b 256 (and_parts (nat_lt b 256) (are_bytes bs) h).0
IsBytes-from_are_bytes (b ∷ bs) h (suc i) = IsBytes-from_are_bytes bs (and_parts (nat_lt b 256) (are_bytes bs) h).1 i

-- what decodes to sixteen bytes is an id
pub IsId-decoded : (text bytes : List ℕ) → decode_sized text 16 ≡ Ok bytes → IsId (record { 0 = bytes })
IsId-decoded text bytes h =
    let long : length text ≡ 32 = decode_sized-ok text 16 bytes h in
    let parts = decode_of-ok text bytes (sym (decode_sized-twice text 16 long) ∙ h) in
    record { len = omega (arith, long, parts.2); bytes = are_bytes-from_IsBytes bytes parts.3 }

-- the text of an id decodes to it
pub decode_sized-hex_of : (text : List ℕ) (i : Id16) → IsId i → text ≡ hex_of i.0 → decode_sized text 16 ≡ Ok i.0
decode_sized-hex_of text i id same =
    let bytes = IsBytes-from_are_bytes i.0 id.bytes in
    rw (same, ← encode_lower-hex_of i.0 bytes) (decode_sized-encode_lower i.0 16 id.len bytes)

-- the bytes that the text of an id decodes to are the id's
pub decoded-bytes : (text bytes : List ℕ) (i : Id16) → Ok bytes ≡ decode_sized text 16 → IsId i → text ≡ hex_of i.0 → bytes ≡ i.0
decoded-bytes text bytes i read id same = let e = read ∙ decode_sized-hex_of text i id same in cc

-- the text of an id decodes
pub decoded-no_error : (text : List ℕ) (e : FromHexError) (i : Id16) → Err e ≡ decode_sized text 16 → IsId i → text ≡ hex_of i.0 → ⊥
decoded-no_error text e i read id same = let both = read ∙ decode_sized-hex_of text i id same in cc
