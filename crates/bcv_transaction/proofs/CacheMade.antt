-- The cache as it is made.
use Rattle.std.proofs.Common.{◌≡◌, ℕ, ◌/◌, ◌^◌, ◌≤◌, false, min, List, [], Option, Some, None, is_some, refl, sym, subst, arith}
use Rattle.std.specs.List.{IsDistinct}
use Rattle.bcv_cache.specs.Entry.{Blocks}
use Rattle.bcv_transaction.specs.declared.open_txn.OpenTxn.{OpenTxn}
use Rattle.bcv_transaction.specs.Open.{AreOpenIn, AreOpenWith}
use Rattle.bcv_transaction.specs.OpenCalls.{empty_cache}

none_open : (slots block : ℕ) → AreOpenIn (empty_cache slots block) []
unfolding IsDistinct
none_open slots block = record { numbers = tt; differ = tt; txns = tt; blocks = tt; pins = record { ids = tt; counts = λ k. omega arith }; no_others = tt }

-- nothing is open over a cache that is made now
pub made_open : (slots block : ℕ) (o : Option Blocks) (ts : List OpenTxn) (d : Blocks) → AreOpenWith slots o ts → is_some o ≡ false → 1 ≤ block → d ≡ empty_cache slots block
    → AreOpenIn d ts × (1 ≤ d.block) × (d.most ≡ min slots (2 ^ 30 / d.block))
made_open slots block None ts d is none some made = (
  subst (AreOpenIn d) (sym is) (subst (λ (c : Blocks). AreOpenIn c []) (sym made) (none_open slots block)),
  subst (λ (c : Blocks). 1 ≤ c.block) (sym made) some,
  subst (λ (c : Blocks). c.most ≡ min slots (2 ^ 30 / c.block)) (sym made) refl,
)
made_open slots block (Some c) ts d is none some made = absurd (cc)
