-- What a transaction keeps, and what its pages and blocks are.
use Rattle.std.specs.Prelude.{◌≡◌, ℕ, ◌-◌, ◌*◌, ◌/◌, ◌%◌, ◌≤◌, Bool, true, ◌&&◌, nat_eq, nat_le, List, map, take, drop, Option, Some, None, is_some, option_map, slice_get, find, if◌then◌else◌}
use Rattle.std.specs.List.{AllByRecursion, IsDistinct}
use Rattle.bcv_base.specs.declared.id.Id16.{Id16}
use Rattle.bcv_base.specs.declared.seen.TxnBase.{TxnBase}
use Rattle.bcv_base.specs.Image.{Page, Writes}
use Rattle.bcv_base.specs.ManifestRules.{MeetsEntryRules, is_block_size}
use Rattle.bcv_base.specs.Views.{Origin, origin, view_size}
use Rattle.bcv_cache.specs.Entry.{Pinned}
use Rattle.bcv_snapshot.specs.declared.held_block.HeldBlock.{HeldBlock}

-- a transaction: what it reads from, how many pages its image has, and the blocks that it holds
pub record Opened : Type 0 where
  pub base : TxnBase
  pub size : ℕ
  pub held : List HeldBlock

-- ---- pages

-- the image of a view of these commits over the base has such a page
abbrev pub is_page : TxnBase → List Writes → ℕ → Bool
is_page base cs p = nat_le 1 p && nat_le p (view_size base.entry.pages cs)

-- where a page of the image comes from, or none where there is no such page
abbrev pub source_of : TxnBase → List Writes → ℕ → Option Origin
source_of base cs p = if is_page base cs p then Some (origin base.entry.pages cs p) else None

-- ---- blocks

-- how many pages a block has
abbrev pub per_block : TxnBase → ℕ
per_block base = base.block / base.entry.page_size

-- the number of a page's block, from 0
abbrev pub number_of : TxnBase → ℕ → ℕ
number_of base p = (p - 1) / per_block base

-- the id of a page's block, where the base has the page
abbrev pub block_id : TxnBase → ℕ → Option Id16
block_id base p = slice_get base.entry.blocks (number_of base p)

-- the bytes of a page in those of its block
abbrev pub page_bytes : TxnBase → ℕ → List ℕ → Page
page_bytes base p bytes = take base.entry.page_size (drop ((p - 1) % per_block base * base.entry.page_size) bytes)

-- ---- held blocks

-- the held block has this number
abbrev pub has_block_number : ℕ → HeldBlock → Bool
has_block_number n h = nat_eq h.number n

-- the pin on the block of a number, where it is held
abbrev pub pin_of : ℕ → List HeldBlock → Option Pinned
pin_of n hs = option_map (λ h. h.pin) (find (has_block_number n) hs)

-- the block of a page is held
abbrev pub is_held : Opened → ℕ → Bool
is_held t p = nat_le 1 p && is_some (pin_of (number_of t.base p) t.held)

-- ---- the whole

-- a block is full of pages
pub record IsFull (block page_size : ℕ) : Type 0 where
  pub some : 1 ≤ page_size
  pub many : 1 ≤ block / page_size
  pub full : block / page_size * page_size ≡ block

-- what holds of every transaction: its entry keeps the rules for a block size, each pin is on the block of its number, and
-- no block is held twice
pub record IsTxn (t : Opened) : Type 0 where
  pub entry : MeetsEntryRules t.base.block t.base.entry
  pub block : is_block_size t.base.block ≡ true
  pub full : IsFull t.base.block t.base.entry.page_size
  pub ids : AllByRecursion (λ h. slice_get t.base.entry.blocks h.number ≡ Some h.pin.id) t.held
  pub differ : IsDistinct nat_eq (map (λ h. h.number) t.held)
