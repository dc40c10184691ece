-- The bytes that an image has, place by place.
use Rattle.std.proofs.Common.{◌≡◌, ℕ, zero, suc, ◌+◌, ◌<◌, List, [], ◌∷◌, length, get_or, refl, ap, ◌∙◌, arith}
use Rattle.bcv_disk.specs.Record.{torn_byte, torn_bytes}

pub get_or-torn_bytes : (image : ℕ) (old : List ℕ) (at : ℕ) (bytes : List ℕ) (k : ℕ) → k < length bytes → get_or (torn_bytes image old at bytes) k 0 ≡ torn_byte image old (at + k) (get_or bytes k 0)
get_or-torn_bytes image old at [] k lt = absurd (omega (arith, lt))
get_or-torn_bytes image old at (byte ∷ bytes) zero lt = ap (λ (p : ℕ). torn_byte image old p byte) (omega arith)
get_or-torn_bytes image old at (byte ∷ bytes) (suc k) lt =
    get_or-torn_bytes image old (suc at) bytes k (omega (arith, lt)) ∙ ap (λ (p : ℕ). torn_byte image old p (get_or bytes k 0)) (omega arith)
