-- A page size divides a block size: both are powers of two.
use Rattle.std.proofs.Common.{◌≡◌, ◌∙◌, ℕ, zero, suc, ◌+◌, ◌*◌, ◌/◌, ◌%◌, ◌<◌, ◌≤◌, true, ◌&&◌, nat_le, count_ones, refl, sym, ap, arith}
use Rattle.std.specs.Cmp.{first_so, second_so}
use Rattle.std.specs.Int.{is_power_of_two}
use Rattle.std.specs.Int.Count.{ones_step}
use Rattle.std.proofs.lemmas.Bool.{leb-true, eqb-true}
use Rattle.std.proofs.lemmas.Nat.{zero_from_ones, ones_le_self}
use Rattle.std.proofs.Math.Nat.{mul-div_cancel}
use Rattle.bcv_base.specs.ManifestRules.{is_block_size, is_page_size}

-- one number is so many times the other
record Times (n m : ℕ) : Type 0 where
  k : ℕ
  is : n ≡ k * m

twice : (k h size half block : ℕ) → size ≡ h + h → block ≡ half + half → half ≡ k * h → block ≡ k * size
twice k h size half block s b e =
    let product : k * (h + h) ≡ k * h + k * h = omega arith in
    let same : k * size ≡ k * (h + h) = ap (λ (x : ℕ). k * x) s in
    omega arith

by_rests : (d size block : ℕ) → size ≤ suc d → count_ones size ≡ 1 → count_ones block ≡ 1 → size ≤ block
    → ((half : ℕ) → size / 2 ≤ d → count_ones (size / 2) ≡ 1 → count_ones half ≡ 1 → size / 2 ≤ half → Times half (size / 2))
    → (r q : ℕ) → size % 2 ≡ r → block % 2 ≡ q → Times block size
by_rests d size block fits one other le rest (suc zero) q size_rest block_rest =
    let none : size / 2 ≡ 0 = zero_from_ones (size / 2) (omega (arith, ones_step size)) in
    let is_one : size ≡ 1 = omega arith in
    record { k = block; is = times_one block ∙ ap (λ (x : ℕ). block * x) (sym is_one) }
  where
    times_one : (n : ℕ) → n ≡ n * 1
    times_one n = omega arith
by_rests d size block fits one other le rest zero (suc zero) size_rest block_rest =
    let none : block / 2 ≡ 0 = zero_from_ones (block / 2) (omega (arith, ones_step block)) in
    let some : 1 ≤ size = omega (arith, ones_le_self size) in
    absurd (omega arith)
by_rests d size block fits one other le rest zero zero size_rest block_rest =
    let some : 1 ≤ size = omega (arith, ones_le_self size) in
    let t = rest (block / 2) (omega arith) (omega (arith, ones_step size)) (omega (arith, ones_step block)) (omega arith) in
    record { k = t.k; is = twice t.k (size / 2) size (block / 2) block (omega arith) (omega arith) t.is }
by_rests d size block fits one other le rest (suc (suc r)) q size_rest block_rest = absurd (omega arith)
by_rests d size block fits one other le rest zero (suc (suc q)) size_rest block_rest = absurd (omega arith)

power_times : (d size block : ℕ) → size ≤ d → count_ones size ≡ 1 → count_ones block ≡ 1 → size ≤ block → Times block size
power_times zero size block fits one other le = absurd (omega (arith, ones_le_self size))
power_times (suc d) size block fits one other le =
    by_rests d size block fits one other le (λ half small a b below. power_times d (size / 2) half small a b below) (size % 2) (block % 2) refl refl

-- a block is full of pages
pub whole : (block size : ℕ) → is_block_size block ≡ true → is_page_size block size ≡ true → block / size * size ≡ block
whole block size is_block is_page =
    let a = first_so (nat_le 512 size && nat_le size 65536 && is_power_of_two size) (nat_le size block) is_page in
    let le : size ≤ block = leb-true size block (second_so (nat_le 512 size && nat_le size 65536 && is_power_of_two size) (nat_le size block) is_page) in
    let one : count_ones size ≡ 1 = eqb-true (count_ones size) 1 (second_so (nat_le 512 size && nat_le size 65536) (is_power_of_two size) a) in
    let other : count_ones block ≡ 1 = eqb-true (count_ones block) 1 (second_so (nat_le 512 block && nat_le block 16777216) (is_power_of_two block) is_block) in
    let some : 0 < size = omega (arith, ones_le_self size) in
    let t = power_times size size block (omega arith) one other le in
    ap (λ (n : ℕ). n / size * size) t.is ∙ ap (λ (n : ℕ). n * size) (mul-div_cancel t.k some) ∙ sym t.is

pub page_some : (block size : ℕ) → is_page_size block size ≡ true → 0 < size
page_some block size is_page =
    let a = first_so (nat_le 512 size && nat_le size 65536 && is_power_of_two size) (nat_le size block) is_page in
    let b = first_so (nat_le 512 size && nat_le size 65536) (is_power_of_two size) a in
    omega (arith, leb-true 512 size (first_so (nat_le 512 size) (nat_le size 65536) b))

pub block_some : (block : ℕ) → is_block_size block ≡ true → 0 < block
block_some block is_block = omega (arith, leb-true 512 block (first_so (nat_le 512 block) (nat_le block 16777216) (first_so (nat_le 512 block && nat_le block 16777216) (is_power_of_two block) is_block)))
