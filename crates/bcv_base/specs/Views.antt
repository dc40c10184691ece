-- Views: commits as they should be, the size of a view, where its pages come from, and its blocks with local pages.
use Rattle.std.specs.Prelude.{ℕ, ◌+◌, ◌-◌, ◌*◌, Bool, true, false, not, ◌&&◌, ◌==◌, min, List, [], ◌∷◌, length, unwrap_or, nat_lt, nat_le, if◌then◌else◌}
use Rattle.std.specs.Int.{div_ceil}
use Rattle.std.specs.Option.{option_map}
use Rattle.std.specs.List.{filter, fold, list_all, list_any, range_with_len}
use Rattle.bcv_base.specs.Image.{Page, Writes, written, is_base}

-- the page numbers ascend, above `low` and up to `high`
abbrev pub ascends : ℕ → ℕ → List (ℕ × Page) → Bool
ascends low high [] = true
ascends low high (w ∷ ws) = nat_lt low w.0 && nat_le w.0 high && ascends w.0 high ws

-- each of the pages has that many bytes
abbrev pub have_size : ℕ → List (ℕ × Page) → Bool
have_size page_size ws = list_all (λ w. length w.1 == page_size) ws

-- a commit as it should be: its pages have the page size, and their numbers are from 1 to its size and ascend
abbrev pub is_commit : ℕ → Writes → Bool
is_commit page_size c = ascends 0 c.size c.pages && have_size page_size c.pages

-- an image as it should be: each page has the page size
abbrev pub is_image : ℕ → List Page → Bool
is_image page_size image = list_all (λ page. length page == page_size) image

-- the size of a view, in pages: the last commit's, or the base's where there is none
abbrev pub view_size : ℕ → List Writes → ℕ
view_size base_pages [] = base_pages
view_size base_pages (c ∷ cs) = view_size c.size cs

-- where a page of a view comes from: it is the base's, growth added it and nothing wrote it since, or a commit wrote it
pub data Origin : Type 0 where
  FromBase : Origin
  Added : Origin
  Wrote : Page → Origin

-- where a page comes from after a commit: growth alone where the commit's size is below it, the commit where it has the page, else as before
abbrev pub origin_after : ℕ → Origin → Writes → Origin
origin_after p o c = if nat_lt c.size p then Added else unwrap_or (option_map Wrote (written c.pages p)) o

-- where a page of a view comes from, over a base of so many pages
abbrev pub origin : ℕ → List Writes → ℕ → Origin
origin base_pages cs p = fold (origin_after p) (if nat_le p base_pages then FromBase else Added) cs

-- the page comes from the base
abbrev pub is_from_base : Origin → Bool
is_from_base FromBase = true
is_from_base Added = false
is_from_base (Wrote page) = false

-- the bytes of a page that comes from there, where the base has these under its number
abbrev pub page_from : Page → Page → Origin → Page
page_from base_page zero_page FromBase = base_page
page_from base_page zero_page Added = zero_page
page_from base_page zero_page (Wrote page) = page

-- the page numbers of a block: so many from its first one on, and fewer where the size ends before
abbrev pub block_pages : ℕ → ℕ → ℕ → List ℕ
block_pages per_block size block = range_with_len (block * per_block + 1) (min per_block (size - block * per_block))

-- the block holds a local page of the view
abbrev pub has_local : ℕ → ℕ → List Writes → ℕ → Bool
has_local per_block base_pages cs block = list_any (λ p. not (is_base base_pages cs p)) (block_pages per_block (view_size base_pages cs) block)

-- the blocks, numbered from 0 and ascending, that hold a local page of the view
abbrev pub touched_blocks : ℕ → ℕ → List Writes → List ℕ
touched_blocks per_block base_pages cs = filter (has_local per_block base_pages cs) (range_with_len 0 (div_ceil (view_size base_pages cs) per_block))
