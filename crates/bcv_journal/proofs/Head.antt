-- The head of a file, which its first 17 bytes decide.
use Rattle.std.proofs.Common.{◌≡◌, ℕ, ◌+◌, ◌-◌, ◌≤◌, ◌==◌, Bool, true, false, List, take, drop, ◌∙◌, ap, arith}
use Rattle.std.proofs.lemmas.List.{drop-take, get_or-take, take-take}
use Rattle.std.specs.Int.{w32, from_be_bytes}
use Rattle.bcv_journal.specs.Layout.{field_of, is_second, start_in}

pub second-front : (bytes : List ℕ) (start : ℕ) → 17 ≤ start → is_second (take start bytes) ≡ is_second bytes
second-front bytes start long = ap (λ (n : ℕ). n == 1) (get_or-take start bytes 8 0 (omega (arith, long)))

pub field-least : (second : Bool) → field_of second + 4 ≤ 17
field-least true = omega arith
field-least false = omega arith

pub start-front : (bytes : List ℕ) (start : ℕ) (second : Bool) → 17 ≤ start → start_in (take start bytes) second ≡ start_in bytes second
start-front bytes start second long =
    let at = field_of second in
    let whole : start ≡ at + (start - at) = omega (arith, field-least second, long) in
    ap (λ (l : List ℕ). from_be_bytes w32 l) (
    ap (λ (n : ℕ). take 4 (drop at (take n bytes))) whole ∙ ap (λ (l : List ℕ). take 4 l) (drop-take at (start - at) bytes) ∙ take-take 4 (start - at) (drop at bytes) (omega (arith, field-least second, long))
    )
