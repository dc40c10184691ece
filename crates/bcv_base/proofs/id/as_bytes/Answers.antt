use Rattle.std.proofs.Common.{◌≡◌, ℕ, suc, ◌<◌, true, List, [], ◌∷◌, get_or, ltb, refl, arith}
use Rattle.bcv_base.specs.Ids.{are_bytes}
use Rattle.bcv_base.proofs.id.as_bytes.Goals as goal

below_256 : (n : ℕ) → n < 256 → ltb n 256 ≡ true
below_256 n lt = grind arith

all_below : (bytes : List ℕ) → ((i : ℕ) → get_or bytes i 0 < 256) → are_bytes bytes ≡ true
all_below [] each = refl
all_below (b ∷ bs) each = rw (below_256 b (each 0)) (all_below bs (λ i. each (suc i)))

pub returns-clause-below : goal.returns-clause-below
returns-clause-below c = all_below c.args.bytes.now (λ i. omega (arith, c.type_inv.bytes i))
