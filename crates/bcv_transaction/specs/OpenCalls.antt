-- What the calls do to the open transactions and to the cache that may be there.
use Rattle.std.specs.Prelude.{◌≡◌, ℕ, ◌/◌, ◌^◌, true, false, min, nat_le, [], ◌∷◌, ◌++◌, length, Option, Some, None, Result, Ok, Err}
use Rattle.std.specs.declared.alloc.AllocError.{AllocError}
use Rattle.bcv_base.specs.declared.seen.TxnBase.{TxnBase}
use Rattle.bcv_base.specs.Views.{view_size}
use Rattle.bcv_cache.specs.Entry.{Blocks}
use Rattle.bcv_machine.specs.State.{least_free}
use Rattle.bcv_pages.specs.Held.{Held}
use Rattle.bcv_snapshot.specs.Opened.{Opened}
use Rattle.bcv_transaction.specs.declared.answers.Begun.{Begun}
use Rattle.bcv_transaction.specs.declared.answers.Begun.TheVariants as begun
use Rattle.bcv_transaction.specs.Open.{Open, base_view, numbers_of}

-- a call over the cache, which keeps the slots that were given; where it is not made nothing is open and nothing has changed
abbrev pub CacheCalls : Option Blocks → Option Blocks → Open → Open → Type 0 → (Blocks → Blocks → Type 0) → Type 0
CacheCalls (Some c) (Some d) old new Refused Does = (new.slots ≡ old.slots) × Does c d
CacheCalls (Some c) None old new Refused Does = ⊥
CacheCalls None o old new Refused Does = Refused × (new ≡ old)

abbrev pub CallsIn : Open → Open → Type 0 → (Blocks → Blocks → Type 0) → Type 0
CallsIn old new Refused Does = CacheCalls old.cache new.cache old new Refused Does

-- ---- the cache is made

-- an empty cache of blocks of this size
abbrev pub empty_cache : ℕ → ℕ → Blocks
empty_cache slots block = record { entries = []; most = min slots (2 ^ 30 / block); block = block }

-- the cache that is there, or an empty one
abbrev pub cache_made : ℕ → ℕ → Option Blocks → Blocks
cache_made slots block None = empty_cache slots block
cache_made slots block (Some c) = c

abbrev pub with_cache : ℕ → Open → Open
with_cache block o = record o { cache = Some (cache_made o.slots block o.cache) }

-- the cache is there, unless memory runs out
abbrev pub OpensCache : Open → ℕ → Result (Unit {0}) AllocError → Open → Type 0
OpensCache o block (Ok done) n = n ≡ with_cache block o
OpensCache o block (Err e) n = (o.cache ≡ None) × (n ≡ o)

-- ---- begin

-- a transaction that begins over a base
abbrev pub begun_txn : TxnBase → Held → Opened
begun_txn base pages = record { base = base; size = view_size base.entry.pages (base_view pages base); held = [] }

-- the transaction is the last one, under the least free number; or nothing begins, and the cache may be made
abbrev pub Begins : Open → TxnBase → ℕ → Held → Begun → Open → Type 0
Begins o base set pages (begun.Number n) new =
    (nat_le 64 (length o.txns) ≡ false) × (least_free (numbers_of o.txns) ≡ Some n)
    × (new ≡ record (with_cache base.block o) { txns = o.txns ++ record { number = n; set = set; txn = begun_txn base pages } ∷ [] })
Begins o base set pages begun.TooMany new = (nat_le 64 (length o.txns) ≡ true) × (new ≡ o)
Begins o base set pages begun.NoMemory new = (nat_le 64 (length o.txns) ≡ false) × (new.txns ≡ o.txns) × (new.slots ≡ o.slots)
    × (cache_made o.slots base.block new.cache ≡ cache_made o.slots base.block o.cache)
