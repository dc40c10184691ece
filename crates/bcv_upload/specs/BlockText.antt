-- What an upload puts: the blocks of the view that hold a local page, and the bytes of each.
use Rattle.std.specs.Prelude.{◌≡◌, ℕ, ◌+◌, ◌-◌, ◌*◌, ◌/◌, Bool, List, take, drop}
use Rattle.std.specs.List.{flat_map, list_any}
use Rattle.bcv_base.specs.declared.seen.TxnBase.{TxnBase}
use Rattle.bcv_base.specs.Image.{Page, Writes, zeros, is_base}
use Rattle.bcv_base.specs.Padded.{padded}
use Rattle.bcv_base.specs.Views.{origin, page_from, view_size, block_pages, touched_blocks}

-- how many pages of the base a block holds
abbrev pub per_block : TxnBase → ℕ
per_block base = base.block / base.entry.page_size

-- the numbers of the pages that a block of the view holds, up to the view's size
abbrev pub pages_in : TxnBase → List Writes → ℕ → List ℕ
pages_in base view n = block_pages (per_block base) (view_size base.entry.pages view) n

-- some page of the block is the base's
abbrev pub has_base : TxnBase → List Writes → ℕ → Bool
has_base base view n = list_any (is_base base.entry.pages view) (pages_in base view n)

-- the page of a place, from 0, among the bytes of a block
abbrev pub page_at : ℕ → List ℕ → ℕ → Page
page_at page_size bytes k = take page_size (drop (k * page_size) bytes)

-- page p of the view, which stands at a place of a block that had these bytes in the base
abbrev pub page_over : TxnBase → List Writes → List ℕ → ℕ → ℕ → Page
page_over base view old place p =
    page_from (page_at base.entry.page_size old place) (zeros base.entry.page_size) (origin base.entry.pages view p)

-- page p of the view, in the block of a number
abbrev pub view_page : TxnBase → List Writes → List ℕ → ℕ → ℕ → Page
view_page base view old n p = page_over base view old (p - (n * per_block base + 1)) p

-- the bytes of a block of the view: its pages, and zeros past the view's size
abbrev pub view_block : TxnBase → List Writes → List ℕ → ℕ → List ℕ
view_block base view old n = padded base.block (flat_map (view_page base view old n) (pages_in base view n))

-- a view of the base has this size, in pages, and these are its blocks with a local page
pub record IsViewOf (base : TxnBase) (view : List Writes) (size : ℕ) (touched : List ℕ) : Type 0 where
  pub size_is : size ≡ view_size base.entry.pages view
  pub touched_are : touched ≡ touched_blocks (per_block base) base.entry.pages view
