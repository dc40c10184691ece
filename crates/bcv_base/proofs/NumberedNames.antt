-- Names that are numbers are ids, and differ where their numbers do.
use Rattle.std.proofs.Common.{◌≡◌, ℕ, zero, suc, ◌+◌, ◌*◌, ◌/◌, ◌%◌, ◌^◌, ◌<◌, true, refl, sym, ap, ◌∙◌, arith, lit<, lit≤}
use Rattle.std.proofs.Math.Arith.{mod-mul}
use Rattle.std.proofs.Math.Nat.{mod-eq_of_lt, pow-succ', one-le-pow}
use Rattle.std.proofs.lemmas.Bool.{lt-ltb}
use Rattle.std.specs.Int.{byte_at, bytes_high_first}
use Rattle.bcv_base.specs.Ids.{IsId, are_bytes}
use Rattle.bcv_base.specs.Numbered.{numbered}
use Rattle.bcv_base.specs.declared.id.Id16.{Id16}

byte_at-byte : (k n : ℕ) → byte_at k n < 256
byte_at-byte zero n = omega arith
byte_at-byte (suc k) n = omega arith

are_bytes-bytes_high_first : (k n : ℕ) → are_bytes (bytes_high_first k n) ≡ true
are_bytes-bytes_high_first zero n = refl
are_bytes-bytes_high_first (suc k) n =
    let byte : byte_at k n < 256 = byte_at-byte k n in
    rw (lt-ltb (byte_at k n) 256 byte) (are_bytes-bytes_high_first k n)

-- a numbered name is an id
pub IsId-numbered : (n : ℕ) → IsId (numbered n)
IsId-numbered n = record { len = refl; bytes = are_bytes-bytes_high_first 16 n }

byte_at-is : (k n : ℕ) → byte_at k n ≡ n / 256 ^ k % 256
byte_at-is zero n = omega arith
byte_at-is (suc k) n = refl

-- one more byte of a number
low_bytes : (k n : ℕ) → n % 256 ^ suc k ≡ byte_at k n * 256 ^ k + n % 256 ^ k
low_bytes k n =
    rw (pow-succ' 256 k, byte_at-is k n) (mod-mul n {m = 256} {c = 256 ^ k} (lit< tt) (one-le-pow k 256 (lit≤ tt)))

-- numbers with the same bytes are the same below the next one
same_low_bytes : (k m n : ℕ) → bytes_high_first k m ≡ bytes_high_first k n → m % 256 ^ k ≡ n % 256 ^ k
same_low_bytes zero m n h = omega arith
same_low_bytes (suc k) m n h =
    let top : byte_at k m ≡ byte_at k n = cc in
    let rest : bytes_high_first k m ≡ bytes_high_first k n = cc in
    rw (low_bytes k m, low_bytes k n, top, same_low_bytes k m n rest) refl

-- different numbers are different names
pub numbered-injective : (m n : ℕ) → m < 2 ^ 128 → n < 2 ^ 128 → numbered m ≡ numbered n → m ≡ n
numbered-injective m n small_m small_n same =
    let bytes : bytes_high_first 16 m ≡ bytes_high_first 16 n = ap (λ (i : Id16). i.0) same in
    let low : m % 2 ^ 128 ≡ n % 2 ^ 128 = same_low_bytes 16 m n bytes in
    sym (mod-eq_of_lt small_m) ∙ low ∙ mod-eq_of_lt small_n
