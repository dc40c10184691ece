-- The open transactions of a client with their cache, and what holds of them.
use Rattle.std.specs.Prelude.{◌≡◌, ℕ, ◌/◌, ◌^◌, ◌≤◌, Bool, min, nat_eq, ◌==◌, not, List, [], ◌∷◌, map, filter, find, option_map, Option, Some, None, if◌then◌else◌}
use Rattle.std.specs.List.{AllByRecursion, IsDistinct, flat_map}
use Rattle.bcv_base.specs.declared.seen.TxnBase.{TxnBase}
use Rattle.bcv_cache.specs.Entry.{Blocks, Entry}
use Rattle.bcv_databases.specs.Changes.{least_of}
use Rattle.bcv_pages.specs.Held.{Held, CanView, view_of}
use Rattle.bcv_base.specs.Image.{Writes}
use Rattle.bcv_snapshot.specs.declared.held_block.HeldBlock.{HeldBlock}
use Rattle.bcv_snapshot.specs.Opened.{Opened, IsTxn}
use Rattle.bcv_snapshot.specs.Pins.{HasPins, pins_in}
use Rattle.bcv_transaction.specs.declared.open_txn.OpenTxn.{OpenTxn}

-- the slots that were given, the cache once it is made, and the transactions in the order in which they began
pub record Open : Type 0 where
  pub slots : ℕ
  pub cache : Option Blocks
  pub txns : List OpenTxn

-- ---- transactions by their numbers

-- the transaction has this number
abbrev pub is_numbered : ℕ → OpenTxn → Bool
is_numbered n t = nat_eq t.number n

abbrev pub numbers_of : List OpenTxn → List ℕ
numbers_of ts = map (λ (t : OpenTxn). t.number) ts

-- the transaction of a number
abbrev pub txn_at : ℕ → List OpenTxn → Option OpenTxn
txn_at n ts = find (is_numbered n) ts

-- what the transaction of a number keeps is this now
abbrev pub with_txn : ℕ → Opened → List OpenTxn → List OpenTxn
with_txn n u ts = map (λ (t : OpenTxn). if is_numbered n t then record t { txn = u } else t) ts

-- the transactions but the one of a number
abbrev pub without_txn : ℕ → List OpenTxn → List OpenTxn
without_txn n ts = filter (λ (t : OpenTxn). not (is_numbered n t)) ts

-- the blocks that they hold together
abbrev pub all_held : List OpenTxn → List HeldBlock
all_held ts = flat_map (λ (t : OpenTxn). t.txn.held) ts

-- ---- what is asked of the transactions

-- the base that the transaction of a number reads from
abbrev pub base_in : ℕ → List OpenTxn → Option TxnBase
base_in n ts = option_map (λ (t : OpenTxn). t.txn.base) (txn_at n ts)

-- the number of the set that it reads
abbrev pub set_in : ℕ → List OpenTxn → Option ℕ
set_in n ts = option_map (λ (t : OpenTxn). t.set) (txn_at n ts)

-- the least number after which the commits of a transaction over a set begin
abbrev pub oldest_in : ℕ → List OpenTxn → Option ℕ
oldest_in set [] = None
oldest_in set (t ∷ ts) = if t.set == set then least_of (Some t.txn.base.from) (oldest_in set ts) else oldest_in set ts

-- ---- views

-- the set of pages has the commits of the transaction's view
abbrev pub CanRead : Held → OpenTxn → Type 0
CanRead pages t = CanView pages t.txn.base.from t.txn.base.to

-- the commits of a base's view
abbrev pub base_view : Held → TxnBase → List Writes
base_view pages base = view_of pages base.from base.to

-- the commits of the transaction's view
abbrev pub view_in : Held → OpenTxn → List Writes
view_in pages t = base_view pages t.txn.base

-- ---- the whole

-- the transactions over their cache: their numbers differ and are from 1 to 64, the cache has blocks of their size, and the
-- pins on its entries are theirs and no others
pub record AreOpenIn (c : Blocks) (ts : List OpenTxn) : Type 0 where
  pub numbers : AllByRecursion (λ (t : OpenTxn). (1 ≤ t.number) × (t.number ≤ 64)) ts
  pub differ : IsDistinct nat_eq (numbers_of ts)
  pub txns : AllByRecursion (λ (t : OpenTxn). IsTxn t.txn) ts
  pub blocks : AllByRecursion (λ (t : OpenTxn). t.txn.base.block ≡ c.block) ts
  pub pins : HasPins (all_held ts) c.entries
  pub no_others : AllByRecursion (λ (e : Entry). e.count ≤ pins_in e.slot (all_held ts)) c.entries

-- before the cache is made none is open; it has the slots that were given, and no more than 2^30 bytes
abbrev pub AreOpenWith : ℕ → Option Blocks → List OpenTxn → Type 0
AreOpenWith slots None ts = ts ≡ []
AreOpenWith slots (Some c) ts = AreOpenIn c ts × (1 ≤ c.block) × (c.most ≡ min slots (2 ^ 30 / c.block))

abbrev pub AreOpen : Open → Type 0
AreOpen o = AreOpenWith o.slots o.cache o.txns
