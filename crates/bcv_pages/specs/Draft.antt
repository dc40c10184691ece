-- The writes of a transaction that is being made.
use Rattle.std.specs.Prelude.{ℕ, Bool, ◌&&◌, ◌==◌, ◌∷◌, ◌++◌, length, nat_le}
use Rattle.std.specs.List.{filter}
use Rattle.bcv_base.specs.Image.{Page, Writes}
use Rattle.bcv_pages.specs.Placed.{below, above}

-- the size of a page in bytes, and what stands so far
pub record Draft : Type 0 where
  pub page_size : ℕ
  pub writes : Writes

-- a page may be written: its number is from 1 to the size, and the bytes are one page
abbrev pub may_write : Draft → ℕ → Page → Bool
may_write d p bytes = nat_le 1 p && nat_le p d.writes.size && (length bytes == d.page_size)

-- with a page under its number, over the one that stood there
abbrev pub with_page : ℕ → Page → Draft → Draft
with_page p bytes d = record d { writes = record d.writes { pages = below p d.writes.pages ++ (p, bytes) ∷ above p d.writes.pages } }

-- with another size, and without the pages above it
abbrev pub with_size : ℕ → Draft → Draft
with_size size d = record d { writes = record { size = size; pages = filter (λ w. nat_le w.0 size) d.writes.pages } }
